-- The values at own nodes, one node further down.
use Rattle.std.proofs.Common.{◌≡◌, ℕ, zero, suc, ◌+◌, ◌-◌, ◌*◌, ◌<◌, ◌≤◌, ◌⊎◌, cond, nat_lt, ℤ, List, [], ◌∷◌, ◌++◌, reverse, length, map, Option, Some, None, refl, sym, ◌∙◌, ap, subst, arith, inl, inr, append_assoc}
use Rattle.std.proofs.lemmas.Bool.{cases_lt}
use Rattle.std.proofs.lemmas.List.{reverse-append, reverse-reverse, map-append, append-nil}
use Rattle.op_laws.specs.declared.TheConstants.{MAX_ELEMENTS}
use Rattle.op_laws.specs.Trees.{BTree, Leaf, Node, size, sub_at, Each}
use Rattle.op_laws.specs.TreeFolds.{Downward}
use Rattle.bin_tree.proofs.TreeLemmas.{if_lt, if_ge, size_pos, within_at, sub_at-left, sub_at-right}
use Rattle.m_bridges.specs.Parts.{Part, End, Stop, Join, own}
use Rattle.m_bridges.specs.Places.{HoleFits, IsBridgeOf, part_at}
use Rattle.m_bridges.specs.declared.bridge.Bridge.{Bridge}
use Rattle.bridge_contract.specs.Summaries.{EachOwn}
use Rattle.bridge_contract.specs.Pending.{head_at, pending, Fronts}
use Rattle.bridge_contract.specs.Stacked.{HeadTakes}
use Rattle.bridge_contract.specs.Downs.{own_downs}
use Rattle.bridge_contract.specs.OwnNodes.{depth_at}
use Rattle.bridge_contract.specs.Passing.{CanPass, passed}
use Rattle.bridge_contract.specs.declared.head.Head.{Head}
use Rattle.bridge_contract.specs.declared.head.Head.TheVariants.{AtEnd, AtStop, AtJoin}
use Rattle.bridge_contract.proofs.DownLaws.{DownLaws}
use Rattle.bridge_contract.proofs.Stacks.{own_pos, fronts_at}
use Rattle.bridge_contract.proofs.StackLemmas.{head_takes, pending_each, bridge_fit, IsFit}
use Rattle.bridge_contract.proofs.CutLemmas.{elements_of}

-- two nodes of the path go with each node strictly above
pub depth_small : {A : Type 0} (t : BTree A) (i : ℕ) → i < size t → 2 * depth_at t i + size (sub_at t i) ≤ size t
depth_small (Leaf a) i h = omega arith
depth_small (Node b l r) zero h = omega arith
depth_small (Node b l r) (suc i) h =
    let pl = size_pos l in let pr = size_pos r in
    elim (cases_lt i (size l)) as (λ _. 2 * depth_at (Node b l r) (suc i) + size (sub_at (Node b l r) (suc i)) ≤ size (Node b l r)) [
      | inl p ↦ let e = if_lt i (size l) (depth_at l i) (depth_at r (i - size l)) p in let s = ap size (sub_at-left b l r i p) in let u = depth_small l i p in omega arith
      | inr q ↦
          let e = if_ge i (size l) (depth_at l i) (depth_at r (i - size l)) q in
          let s = ap size (sub_at-right b l r i (i - size l) (omega arith)) in let u = depth_small r (i - size l) (omega arith) in omega arith
    ]

pub own_within : {A : Type 0} (t : BTree A) (root n : ℕ) (o : Option ℕ) → HoleFits t root n o → n ≤ size (sub_at t root)
own_within t root n None f = omega arith
own_within t root n (Some h) f = let e = f.3 in omega arith

-- the own nodes of a bridge, where the tree's elements are taken
pub record OwnNodes (P : List ℤ → Type 0) (t : BTree (List ℤ)) (b : Bridge) : Type 0 where
  pub own_is : own (part_at t b) ≡ b.own
  pub each : EachOwn P (part_at t b)
  pub few : b.own ≤ size (sub_at t b.root)
  pub within : b.root + size (sub_at t b.root) ≤ size t

pub own_nodes : (P : List ℤ → Type 0) (t : BTree (List ℤ)) (b : Bridge) → IsBridgeOf t b → size t ≤ MAX_ELEMENTS → Each P t → OwnNodes P t b
own_nodes P t b i small each =
    let few = own_within t b.root b.own b.hole i.hole in
    let within = within_at t b.root i.within in
    let (own_is, fit) = bridge_fit P t b i (omega arith) each in
    record { own_is = own_is; each = fit.each; few = few; within = within }

-- the k-th own node stands in front of what is left
pub front_at : (P : List ℤ → Type 0) (t : BTree (List ℤ)) (b : Bridge) (k : ℕ) (h : Head) → OwnNodes P t b → k < b.own → h ≡ head_at (part_at t b) k → Fronts h (pending (part_at t b) k) (pending (part_at t b) (k + 1))
front_at P t b k h o w e =
    let own_is = o.own_is in
    let next : suc k ≡ k + 1 = omega arith in
    subst (λ x. Fronts h (pending (part_at t b) k) (pending (part_at t b) x)) next
    (subst (λ x. Fronts x (pending (part_at t b) k) (pending (part_at t b) (suc k))) (sym e) (fronts_at (part_at t b) k (omega arith)))

pub takes_at : (P : List ℤ → Type 0) (t : BTree (List ℤ)) (b : Bridge) (k : ℕ) (h : Head) → OwnNodes P t b → k < b.own → h ≡ head_at (part_at t b) k → HeadTakes P h
takes_at P t b k h o w e = head_takes P h (pending (part_at t b) k) (pending (part_at t b) (k + 1)) (front_at P t b k h o w e) (pending_each P (part_at t b) k o.each)

module _ {V D : Type 0} (k : Downward (List ℤ) V D) (takes : List ℤ → Type 0) (fits : V → ℕ → Type 0) (fits_way : D → ℕ → Type 0) (laws : DownLaws k takes fits fits_way) (finished : V → List ℤ) where
  -- each value is that of the part beside it, and leaves weight for the part's nodes
  abbrev pub DownsEach : ℕ → List (Part (List ℤ)) → List (V × ℕ) → Type 0
  DownsEach bound [] [] = Unit {0}
  DownsEach bound [] (w ∷ ws) = ⊥
  DownsEach bound (p ∷ ps) [] = ⊥
  DownsEach bound (p ∷ ps) (w ∷ ws) = fits w.0 w.1 × (w.1 + own p ≤ bound) × DownsEach bound ps ws

  abbrev pub rest_downs : List (Part (List ℤ)) → List (V × ℕ) → List (List ℤ)
  rest_downs [] ws = []
  rest_downs (p ∷ ps) [] = []
  rest_downs (p ∷ ps) (w ∷ ws) = map finished (own_downs k w.0 p) ++ rest_downs ps ws

  push_is : (st : List (V × ℕ)) (s : V × ℕ) → reverse (st ++ s ∷ []) ≡ s ∷ reverse st
  push_is st s = reverse-append st (s ∷ [])

  -- what is on the stack, and what is done
  pub record IsPassing (bound : ℕ) (ps : List (Part (List ℤ))) (all : List (List ℤ)) (st : List (V × ℕ)) (out : List (List ℤ)) : Type 0 where
    pub each : DownsEach bound ps (reverse st)
    pub done : out ++ rest_downs ps (reverse st) ≡ all

  -- the value that stands on top
  pub record IsOnTop (bound : ℕ) (h : Head) (st : List (V × ℕ)) (top : V × ℕ) : Type 0 where
    pub fit : fits top.0 top.1
    pub few : top.1 + 1 ≤ bound
    pub can : bound ≤ MAX_ELEMENTS + 1 → CanPass k fits fits_way h top

  some_below : (bound : ℕ) (p : Part (List ℤ)) (ps : List (Part (List ℤ))) (st : List (V × ℕ)) → DownsEach bound (p ∷ ps) (reverse st) → 0 < length st
  some_below bound p ps st e = by st refl e
    where
      by : (st : List (V × ℕ)) {ws : List (V × ℕ)} → reverse st ≡ ws → DownsEach bound (p ∷ ps) ws → 0 < length st
      by [] {ws} is e = absurd (subst (DownsEach bound (p ∷ ps)) (sym is) e)
      by (w ∷ st) {ws} is e = omega arith

  front_some : (h : Head) (before after : List (Part (List ℤ))) → Fronts h before after → (p : Part (List ℤ)) × (ps : List (Part (List ℤ))) × (before ≡ p ∷ ps)
  front_some (AtEnd a) before after f = (End a, after, f)
  front_some (AtStop b) before after f = (Stop b, after, f)
  front_some (AtJoin b) before after (p, q, rest, e, g) = (Join b p q, rest, e)

  pub is_some : (bound : ℕ) (h : Head) (before after : List (Part (List ℤ))) (all : List (List ℤ)) (st : List (V × ℕ)) (out : List (List ℤ)) → Fronts h before after → IsPassing bound before all st out → 0 < length st
  is_some bound h before after all st out f i =
      let (p, ps, e) = front_some h before after f in some_below bound p ps st (subst (λ x. DownsEach bound x (reverse st)) e i.each)

  turned : (st st0 : List (V × ℕ)) (top : V × ℕ) → st ≡ st0 ++ top ∷ [] → reverse st ≡ top ∷ reverse st0
  turned st st0 top e = ap reverse e ∙ push_is st0 top

  aligned : (bound : ℕ) (before ps : List (Part (List ℤ))) (st : List (V × ℕ)) (ws : List (V × ℕ)) → before ≡ ps → reverse st ≡ ws → DownsEach bound before (reverse st) → DownsEach bound ps ws
  aligned bound before ps st ws e g d = subst (λ x. DownsEach bound x ws) e (subst (λ y. DownsEach bound before y) g d)

  pub on_top : (bound : ℕ) (h : Head) (before after : List (Part (List ℤ))) (all : List (List ℤ)) (st st0 : List (V × ℕ)) (top : V × ℕ) (out : List (List ℤ)) → Fronts h before after → HeadTakes takes h → st ≡ st0 ++ top ∷ []
      → IsPassing bound before all st out → IsOnTop bound h st top
  on_top bound (AtEnd a) before after all st st0 top out f t e i = let d = aligned bound before (End a ∷ after) st (top ∷ reverse st0) f (turned st st0 top e) i.each in
      record { fit = d.0; few = d.1; can = λ w. tt }
  on_top bound (AtStop b) before after all st st0 top out f t e i = let d = aligned bound before (Stop b ∷ after) st (top ∷ reverse st0) f (turned st st0 top e) i.each in
      record { fit = d.0; few = d.1; can = λ w. tt }
  on_top bound (AtJoin b) before after all st st0 top out (p, q, rest, g, u) t e i =
      let d = aligned bound before (Join b p q ∷ rest) st (top ∷ reverse st0) g (turned st st0 top e) i.each in let few = d.1 in let pp = own_pos p in let pq = own_pos q in
      record { fit = d.0; few = omega arith; can = λ w. (omega arith, d.0, laws.left_fits b t, laws.right_fits b t) }

  -- one node further
  pub passes : (bound : ℕ) (h : Head) (before after : List (Part (List ℤ))) (all : List (List ℤ)) (st st0 st' : List (V × ℕ)) (top : V × ℕ) (out : List (List ℤ)) → bound ≤ MAX_ELEMENTS + 1
      → Fronts h before after → HeadTakes takes h → st ≡ st0 ++ top ∷ [] → st' ≡ passed k h top st0 → IsPassing bound before all st out → IsPassing bound after all st' (out ++ finished top.0 ∷ [])
  passes bound (AtEnd a) before after all st st0 st' top out w f t e g i =
      let turn = turned st st0 top e in
      let d = aligned bound before (End a ∷ after) st (top ∷ reverse st0) f turn i.each in
      record {
        each = subst (λ x. DownsEach bound after (reverse x)) (sym g) d.2;
        done = append_assoc out (finished top.0 ∷ []) (rest_downs after (reverse st')) ∙ ap (λ x. out ++ (finished top.0 ∷ rest_downs after (reverse x))) g
            ∙ ap (λ x. out ++ rest_downs (End a ∷ after) x) (sym turn) ∙ ap (λ x. out ++ rest_downs x (reverse st)) (sym f) ∙ i.done;
      }
  passes bound (AtStop b) before after all st st0 st' top out w f t e g i =
      let turn = turned st st0 top e in
      let d = aligned bound before (Stop b ∷ after) st (top ∷ reverse st0) f turn i.each in
      record {
        each = subst (λ x. DownsEach bound after (reverse x)) (sym g) d.2;
        done = append_assoc out (finished top.0 ∷ []) (rest_downs after (reverse st')) ∙ ap (λ x. out ++ (finished top.0 ∷ rest_downs after (reverse x))) g
            ∙ ap (λ x. out ++ rest_downs (Stop b ∷ after) x) (sym turn) ∙ ap (λ x. out ++ rest_downs x (reverse st)) (sym f) ∙ i.done;
      }
  passes bound (AtJoin b) before after all st st0 st' top out w (p, q, rest, f, u) t e g i =
      let turn = turned st st0 top e in
      let d = aligned bound before (Join b p q ∷ rest) st (top ∷ reverse st0) f turn i.each in
      let few = d.1 in let pp = own_pos p in let pq = own_pos q in
      let left : V × ℕ = (k.down top.0 (k.left b), top.1 + 2) in let right : V × ℕ = (k.down top.0 (k.right b), top.1 + 2) in
      let now : reverse st' ≡ left ∷ right ∷ reverse st0 = ap reverse g ∙ push_is (st0 ++ right ∷ []) left ∙ ap (λ x. left ∷ x) (push_is st0 right) in
      let fl = laws.down_fits top.0 top.1 (k.left b) 2 (omega arith) d.0 (laws.left_fits b t) in
      let fr = laws.down_fits top.0 top.1 (k.right b) 2 (omega arith) d.0 (laws.right_fits b t) in
      let each : DownsEach bound (p ∷ q ∷ rest) (left ∷ right ∷ reverse st0) = (fl, omega arith, (fr, omega arith, d.2)) in
      let dp = map finished (own_downs k (k.down top.0 (k.left b)) p) in let dq = map finished (own_downs k (k.down top.0 (k.right b)) q) in let more = rest_downs rest (reverse st0) in
      let all_is : rest_downs (Join b p q ∷ rest) (top ∷ reverse st0) ≡ finished top.0 ∷ (dp ++ (dq ++ more)) =
      ap (λ x. finished top.0 ∷ (x ++ more)) (map-append finished (own_downs k (k.down top.0 (k.left b)) p) (own_downs k (k.down top.0 (k.right b)) q)) ∙ ap (λ x. finished top.0 ∷ x) (append_assoc dp dq more) in
      record {
        each = subst (λ x. DownsEach bound x (reverse st')) (sym u) (subst (λ y. DownsEach bound (p ∷ q ∷ rest) y) (sym now) each);
        done = append_assoc out (finished top.0 ∷ []) (rest_downs after (reverse st')) ∙ ap (λ x. out ++ (finished top.0 ∷ rest_downs x (reverse st'))) u
            ∙ ap (λ x. out ++ (finished top.0 ∷ rest_downs (p ∷ q ∷ rest) x)) now
            ∙ ap (λ x. out ++ x) (sym all_is)
            ∙ ap (λ x. out ++ rest_downs (Join b p q ∷ rest) x) (sym turn) ∙ ap (λ x. out ++ rest_downs x (reverse st)) (sym f) ∙ i.done;
      }

  pub starts : (bound : ℕ) (p : Part (List ℤ)) (c : V) (n : ℕ) (st : List (V × ℕ)) (out : List (List ℤ)) → st ≡ (c, n) ∷ [] → out ≡ [] → fits c n → n + own p ≤ bound → IsPassing bound (pending p 0) (map finished (own_downs k c p)) st out
  starts bound p c n st out e f fc few =
      let each : DownsEach bound (p ∷ []) ((c, n) ∷ []) = (fc, few, tt) in
      record {
        each = subst (λ x. DownsEach bound (p ∷ []) (reverse x)) (sym e) each;
        done = ap (λ x. x ++ rest_downs (p ∷ []) (reverse st)) f ∙ ap (λ x. rest_downs (p ∷ []) (reverse x)) e ∙ append-nil (map finished (own_downs k c p));
      }

  pub ends : (bound : ℕ) (ps : List (Part (List ℤ))) (all : List (List ℤ)) (st : List (V × ℕ)) (out : List (List ℤ)) → ps ≡ [] → IsPassing bound ps all st out → out ≡ all
  ends bound ps all st out e i = sym (append-nil out) ∙ ap (λ x. out ++ rest_downs x (reverse st)) (sym e) ∙ i.done
