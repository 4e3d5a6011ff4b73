-- The first fault of a scalar's nodes is the one that the walk finds.
use Rattle.std.proofs.Common.{◌≡◌, ℕ, ◌+◌, ◌<◌, ◌≤◌, max, List, [], ◌∷◌, ◌++◌, length, append_assoc, slice_get, cond, inl, inr, Option, Some, None, Result, Ok, Err, refl, ap, sym, subst, ◌∙◌, arith}
use Rattle.std.proofs.lemmas.Bool.{le-ltb, lt-ltb, cases_lt}
use Rattle.std.specs.List.{filter_map, cons_option}
use Rattle.op_laws.specs.declared.width.Width.{Width}
use Rattle.op_laws.specs.declared.width.Width.TheVariants.{W64}
use Rattle.scalar_expr.specs.declared.pair.Pair.{Pair}
use Rattle.scalar_expr.specs.declared.fault.TypeFault.{TypeFault}
use Rattle.scalar_expr.specs.declared.fault.TypeFault.TheVariants.{NoPart, TooWide, TooDeep}
use Rattle.scalar_expr.specs.Expr.{Expr, lit, part, two, wrap, postorder, nodes, depth_of}
use Rattle.scalar_expr.specs.Expr as expr
use Rattle.scalar_expr.specs.Typing.{pair_width, either_width, with_one, with_two, width_of, no_width, fault_at, or_else, first_fault, nodes_of, unless_fault}
use Rattle.scalar_expr.specs.Walk.{walk, and_then, or_fault, checked_with, checked_of, type_from}
use Rattle.scalar_expr.proofs.Nodes.{length-postorder}

or_else_assoc : (f g h : Option TypeFault) → or_else (or_else f g) h ≡ or_else f (or_else g h)
or_else_assoc (Some f) g h = refl
or_else_assoc None g h = refl

module _ (ty : List Width) where
  pub first_fault-append : (place : ℕ) (xs ys : List Expr) → first_fault ty place (xs ++ ys) ≡ or_else (first_fault ty place xs) (first_fault ty (place + length xs) ys)
  first_fault-append place [] ys = let same : place ≡ place + 0 = omega arith in ap (λ n. first_fault ty n ys) same
  first_fault-append place (x ∷ xs) ys =
      let same : place + 1 + length xs ≡ place + length (x ∷ xs) = omega arith in
      ap (or_else (fault_at ty place x)) (first_fault-append (place + 1) xs ys ∙ ap (λ n. or_else (first_fault ty (place + 1) xs) (first_fault ty n ys)) same)
      ∙ sym (or_else_assoc (fault_at ty place x) (first_fault ty (place + 1) xs) (first_fault ty (place + length (x ∷ xs)) ys))

  -- the nodes of a scalar, and more after them
  pub first_fault-after : (place : ℕ) (s : Expr) (ys : List Expr) → first_fault ty place (postorder s ++ ys) ≡ or_else (first_fault ty place (postorder s)) (first_fault ty (place + nodes s) ys)
  first_fault-after place s ys = first_fault-append place (postorder s) ys ∙ ap (λ n. or_else (first_fault ty place (postorder s)) (first_fault ty (place + n) ys)) (length-postorder s)

-- a scalar's first fault and its width are those that a walk gives
pub Agrees : Option TypeFault → Option Width → Result Width TypeFault → Type 0
Agrees fault width (Ok w) = (fault ≡ None) × (width ≡ Some w)
Agrees fault width (Err f) = fault ≡ Some f

then_agrees : (fault : Option TypeFault) (width : Option Width) (walked : Result Width TypeFault) (later : Option TypeFault) (f : Width → Option Width) (next : Width → Result Width TypeFault)
    → Agrees fault width walked → ((v : Width) → width ≡ Some v → Agrees later (f v) (next v)) → Agrees (or_else fault later) (with_one f width) (and_then walked next)
unfolding Agrees
then_agrees fault width (Ok w) later f next h more =
    subst (λ x. Agrees (or_else x later) (with_one f width) (next w)) (sym h.0)
    (subst (λ x. Agrees later (with_one f x) (next w)) (sym h.1) (more w h.1))
then_agrees fault width (Err e) later f next h more = subst (λ x. or_else x later ≡ Some e) (sym h) refl

-- a node that isn't too deep, after its parts
node_agrees : (place : ℕ) (s : Expr) (ty : List Width) (o : Option Width) → depth_of s ≤ 30 → no_width place s None ≡ Some (TooWide place) → width_of ty s ≡ o
    → Agrees (first_fault ty place (s ∷ [])) o (or_fault o (TooWide place))
unfolding Agrees
node_agrees place s ty (Some w) shallow inner is = (
  ap (λ b. or_else (cond b (Some (TooDeep place)) (no_width place s (width_of ty s))) None) (le-ltb 30 (depth_of s) shallow)
      ∙ ap (λ x. or_else (no_width place s x) None) is,
  refl,
)
node_agrees place s ty None shallow inner is =
    ap (λ b. or_else (cond b (Some (TooDeep place)) (no_width place s (width_of ty s))) None) (le-ltb 30 (depth_of s) shallow)
    ∙ ap (λ x. or_else (no_width place s x) None) is
    ∙ ap (λ x. or_else x None) inner

part_agrees : (place i : ℕ) (o : Option Width) → Agrees (or_else (no_width place (part i) o) None) o (or_fault o (NoPart place))
unfolding Agrees
part_agrees place i (Some w) = (refl, refl)
part_agrees place i None = refl

module _ (ty : List Width) where
  pub walk_agrees : (place : ℕ) (s : Expr) → depth_of s ≤ 30 → Agrees (first_fault ty place (postorder s)) (width_of ty s) (walk ty place s)
  unfolding Agrees walk
  walk_agrees place (lit n) shallow = (refl, refl)
  walk_agrees place (part i) shallow = part_agrees place i (slice_get ty i)
  walk_agrees place (two op a b) shallow =
      subst (λ f. Agrees f (width_of ty (two op a b)) (walk ty place (two op a b)))
      (sym (first_fault-after ty place a (postorder b ++ two op a b ∷ []) ∙ ap (or_else (first_fault ty place (postorder a))) (first_fault-after ty (place + nodes a) b (two op a b ∷ []))))
      (then_agrees _ _ _ _ (λ v. with_one (pair_width op v) (width_of ty b)) _ (walk_agrees place a (omega arith))
      (λ v is. then_agrees _ _ _ _ (pair_width op v) _ (walk_agrees (place + nodes a) b (omega arith))
      (λ w is2. node_agrees (place + nodes a + nodes b) (two op a b) ty (pair_width op v w) shallow refl (ap (with_one (λ x. with_one (pair_width op x) (width_of ty b))) is ∙ ap (with_one (pair_width op v)) is2))))
  walk_agrees place (expr.cond c a b) shallow =
      subst (λ f. Agrees f (width_of ty (expr.cond c a b)) (walk ty place (expr.cond c a b)))
      (sym (first_fault-after ty place c (postorder a ++ (postorder b ++ expr.cond c a b ∷ []))
      ∙ ap (or_else (first_fault ty place (postorder c))) (first_fault-after ty (place + nodes c) a (postorder b ++ expr.cond c a b ∷ [])
      ∙ ap (or_else (first_fault ty (place + nodes c) (postorder a))) (first_fault-after ty (place + nodes c + nodes a) b (expr.cond c a b ∷ [])))))
      (then_agrees _ _ _ _ (λ u. with_two either_width (width_of ty a) (width_of ty b)) _ (walk_agrees place c (omega arith))
      (λ u is. then_agrees _ _ _ _ (λ v. with_one (either_width v) (width_of ty b)) _ (walk_agrees (place + nodes c) a (omega arith))
      (λ v is2. then_agrees _ _ _ _ (either_width v) _ (walk_agrees (place + nodes c + nodes a) b (omega arith))
      (λ w is3. node_agrees (place + nodes c + nodes a + nodes b) (expr.cond c a b) ty (either_width v w) shallow refl
      (ap (with_one (λ x. with_two either_width (width_of ty a) (width_of ty b))) is
      ∙ ap (with_one (λ x. with_one (either_width x) (width_of ty b))) is2 ∙ ap (with_one (either_width v)) is3)))))
  walk_agrees place (wrap a) shallow =
      subst (λ f. Agrees f (width_of ty (wrap a)) (walk ty place (wrap a)))
      (sym (first_fault-after ty place a (wrap a ∷ [])))
      (then_agrees _ _ _ _ (λ v. Some W64) _ (walk_agrees place a (omega arith))
      (λ v is. node_agrees (place + nodes a) (wrap a) ty (Some W64) shallow refl (ap (with_one (λ x. Some W64)) is)))

-- a scalar that is too deep has a fault: its own node comes last
pub record Last (s : Expr) : Type 0 where
  pub front : List Expr
  pub is : postorder s ≡ front ++ s ∷ []

last_node : (s : Expr) → Last s
last_node (lit n) = record { front = []; is = refl }
last_node (part i) = record { front = []; is = refl }
last_node (two op a b) = record { front = postorder a ++ postorder b; is = sym (append_assoc (postorder a) (postorder b) (two op a b ∷ [])) }
last_node (expr.cond c a b) = record {
  front = postorder c ++ (postorder a ++ postorder b);
  is = sym (append_assoc (postorder c) (postorder a ++ postorder b) (expr.cond c a b ∷ [])
      ∙ ap (λ r. postorder c ++ r) (append_assoc (postorder a) (postorder b) (expr.cond c a b ∷ [])));
}
last_node (wrap a) = record { front = postorder a; is = refl }

-- a width, and that it is this one
pub record HasWidth (o : Option Width) : Type 0 where
  pub width : Width
  pub is : o ≡ Some width

-- a fault, and that it is the first one
pub record HasFault (first : Option TypeFault) : Type 0 where
  pub fault : TypeFault
  pub is : first ≡ Some fault

or_else_some : (f : Option TypeFault) (e : TypeFault) → HasFault (or_else f (Some e))
or_else_some (Some f) e = record { fault = f; is = refl }
or_else_some None e = record { fault = e; is = refl }

module _ (ty : List Width) where
  pub fault_of_deep : (place : ℕ) (s : Expr) → 30 < depth_of s → fault_at ty place s ≡ Some (TooDeep place)
  fault_of_deep place s deep = ap (λ b. cond b (Some (TooDeep place)) (no_width place s (width_of ty s))) (lt-ltb 30 (depth_of s) deep)

  pub deep_has_fault : (place : ℕ) (s : Expr) → 30 < depth_of s → HasFault (first_fault ty place (postorder s))
  deep_has_fault place s deep =
      let l = last_node s in
      let at = place + length l.front in
      subst HasFault
      (sym (ap (first_fault ty place) l.is ∙ first_fault-append ty place l.front (s ∷ []) ∙ ap (λ f. or_else (first_fault ty place l.front) (or_else f None)) (fault_of_deep at s deep)))
      (or_else_some (first_fault ty place l.front) (TooDeep at))

-- where there is a fault, what comes later doesn't count
or_else_fault : (f : Option TypeFault) (later : Option TypeFault) (e : TypeFault) → f ≡ Some e → or_else f later ≡ Some e
or_else_fault (Some f) later e h = h
or_else_fault None later e h = cc

or_else_none : (f : Option TypeFault) (later : Option TypeFault) → f ≡ None → or_else f later ≡ later
or_else_none f later h = ap (λ x. or_else x later) h

module _ (ty : List Width) (place : ℕ) (s : Expr) where
  pub deep_first : (ys : List Expr) → 30 < depth_of s → first_fault ty place (postorder s ++ ys) ≡ first_fault ty place (postorder s)
  deep_first ys deep = let h = deep_has_fault ty place s deep in first_fault-after ty place s ys ∙ or_else_fault _ _ h.fault h.is ∙ sym h.is

  pub fault_first : (f : TypeFault) (ys : List Expr) → depth_of s ≤ 30 → walk ty place s ≡ Err f → first_fault ty place (postorder s ++ ys) ≡ Some f
  unfolding Agrees
  fault_first f ys shallow is = first_fault-after ty place s ys ∙ or_else_fault _ _ f (subst (Agrees (first_fault ty place (postorder s)) (width_of ty s)) is (walk_agrees ty place s shallow))

  pub passed : (w : Width) (after : ℕ) (ys : List Expr) → depth_of s ≤ 30 → walk ty place s ≡ Ok w → after ≡ place + nodes s → first_fault ty place (postorder s ++ ys) ≡ first_fault ty after ys
  unfolding Agrees
  passed w after ys shallow is at =
      first_fault-after ty place s ys
      ∙ or_else_none _ _ (subst (Agrees (first_fault ty place (postorder s)) (width_of ty s)) is (walk_agrees ty place s shallow)).0
      ∙ ap (λ n. first_fault ty n ys) (sym at)

  pub checked_deep : (f : TypeFault) → first_fault ty place (postorder s) ≡ Some f → checked_of ty place s ≡ Err f
  unfolding checked_of
  checked_deep f is = ap (λ x. checked_with x place (width_of ty s)) is

  agreed : (fault : Option TypeFault) (width : Option Width) (r : Result Width TypeFault) → Agrees fault width r → checked_with fault place width ≡ r
  unfolding Agrees
  agreed fault width (Ok w) h = ap (λ x. checked_with x place width) h.0 ∙ ap (λ x. or_fault x (TooWide place)) h.1
  agreed fault width (Err f) h = ap (λ x. checked_with x place width) h

  pub checked_walk : depth_of s ≤ 30 → checked_of ty place s ≡ walk ty place s
  unfolding checked_of
  checked_walk shallow = agreed _ _ _ (walk_agrees ty place s shallow)

  -- where there is no fault, there is a width
  agreed_width : (fault : Option TypeFault) (width : Option Width) (r : Result Width TypeFault) → Agrees fault width r → fault ≡ None → HasWidth width
  unfolding Agrees
  agreed_width fault width (Ok w) h none = record { width = w; is = h.1 }
  agreed_width fault width (Err f) h none = cc

  pub has_width : first_fault ty place (postorder s) ≡ None → HasWidth (width_of ty s)
  has_width none = elim (cases_lt 30 (depth_of s)) [
    | inl deep ↦ (let h = deep_has_fault ty place s deep in cc)
    | inr shallow ↦ agreed_width _ _ _ (walk_agrees ty place s shallow) none
  ]

types_with : (fault : Option TypeFault) (width : Option Width) (place : ℕ) (later : Option TypeFault) (ws : List Width) → (fault ≡ None → HasWidth width)
    → and_then (checked_with fault place width) (λ w. and_then (unless_fault later ws) (λ vs. Ok (w ∷ vs))) ≡ unless_fault (or_else fault later) (cons_option width ws)
types_with (Some f) width place later ws h = refl
types_with None None place later ws h = let w = h refl in cc
types_with None (Some w) place None ws h = refl
types_with None (Some w) place (Some f) ws h = refl

module _ (ty : List Width) where
  pub type_is : (place : ℕ) (ss : List Expr) → type_from ty place ss ≡ unless_fault (first_fault ty place (nodes_of ss)) (filter_map (width_of ty) ss)
  unfolding type_from checked_of
  type_is place [] = refl
  type_is place (s ∷ ss) =
      ap (λ r. and_then (checked_of ty place s) (λ w. and_then r (λ ws. Ok (w ∷ ws)))) (type_is (place + nodes s) ss)
      ∙ types_with (first_fault ty place (postorder s)) (width_of ty s) place (first_fault ty (place + nodes s) (nodes_of ss)) (filter_map (width_of ty) ss) (has_width ty place s)
      ∙ ap (λ f. unless_fault f (filter_map (width_of ty) (s ∷ ss))) (sym (first_fault-after ty place s (nodes_of ss)))
