-- Pipes of skeletons, and their types.
use Rattle.std.proofs.Common.{◌≡◌, ℕ, zero, suc, ◌+◌, ◌<◌, ◌^◌, ℤ, pos, true, List, [], ◌∷◌, ◌++◌, map, get_or, Result, Ok, Err, OnOk, refl, sym, ap, ◌∙◌, arith}
use Rattle.std.proofs.lemmas.Int.{ints}
use Rattle.std.specs.List.{All, filter, range_with_len}
use Rattle.std.proofs.lemmas.List.Elements.{All-nil, All-cons, All-head, All-tail, All-map, All-filter}
use Rattle.op_laws.specs.declared.width.Width.{Width}
use Rattle.op_laws.specs.declared.width.Width.TheVariants.{W64}
use Rattle.op_laws.specs.Admits.{Admits}
use Rattle.op_laws.specs.Elements.{Elements}
use Rattle.scalar_expr.specs.Expr.{Expr}
use Rattle.scalar_expr.specs.Functions.{Function}
use Rattle.scalar_expr.specs.Values.{values_of}
use Rattle.list_fusion.specs.declared.stage.Stage.{Stage}
use Rattle.list_fusion.specs.declared.stage.Stage.TheVariants.{Map, Keep}
use Rattle.op_laws.specs.Lists.{zipped, iota}
use Rattle.list_fusion.specs.Stages.{type_along, type_after, is_kept}
use Rattle.list_fusion.specs.Pipes.{Flow, elements, type_of, with_stage}
use Rattle.data_text.specs.declared.value.Value.TheVariants as value
use Rattle.script_lang.specs.declared.head.Head.{Head}
use Rattle.script_lang.specs.declared.head.Head.TheVariants as head
use Rattle.script_lang.specs.declared.op.Op.{Op}
use Rattle.script_lang.specs.Syntax.{Binding, Skeleton}
use Rattle.script_run.specs.Pipes.{Passes, Finishes, passed, passes_on, value_finished}

same_Ok : {X E : Type 0} (x y : X) → ◌≡◌ {A = Result X E} (Ok x) (Ok y) → x ≡ y
same_Ok x y e = cc

-- what a skeleton gives is of one type
pub one_type : (h : Head) (fs : List (List Expr)) (ty a b : List Width) → Passes h fs ty a → Passes h fs ty b → a ≡ b
one_type head.Map [] ty a b p q = absurd p
one_type head.Map (f ∷ fs) ty a b p q = same_Ok a b (sym p ∙ q)
one_type head.Filter [] ty a b p q = absurd p
one_type head.Filter (f ∷ fs) ty a b p q = p.1 ∙ sym q.1
one_type head.Rev fs ty a b p q = p ∙ sym q
one_type head.Zip fs ty a b p q = p ∙ sym q
one_type head.Iota fs ty a b p q = p ∙ sym q
one_type head.Plain fs ty a b p q = p ∙ sym q
one_type head.Mapln fs ty a b p q = absurd p
one_type head.Reduce fs ty a b p q = absurd p
one_type head.Scan fs ty a b p q = absurd p
one_type head.Scanr fs ty a b p q = absurd p
one_type head.Rows fs ty a b p q = absurd p
one_type head.Cols fs ty a b p q = absurd p
one_type head.Transpose fs ty a b p q = absurd p
one_type head.Uacc fs ty a b p q = absurd p
one_type head.Dacc fs ty a b p q = absurd p
one_type head.Getchl fs ty a b p q = absurd p
one_type head.Getchr fs ty a b p q = absurd p

-- elements side by side
Admits-append : (v w : List Width) (a b : List ℤ) → Admits v a → Admits w b → Admits (v ++ w) (a ++ b)
Admits-append [] w [] b p q = q
Admits-append [] w (x ∷ a) b p q = absurd p
Admits-append (u ∷ v) w [] b p q = absurd p
Admits-append (u ∷ v) w (x ∷ a) b p q = (p.0, Admits-append v w a b p.1 q)

pub zipped_admitted : (v w : List Width) (xs ys : List (List ℤ)) → All (Admits v) xs → All (Admits w) ys → All (Admits (v ++ w)) (zipped xs ys)
zipped_admitted v w [] ys p q = All-nil (Admits (v ++ w))
zipped_admitted v w (x ∷ xs) [] p q = All-nil (Admits (v ++ w))
zipped_admitted v w (x ∷ xs) (y ∷ ys) p q = All-cons (Admits (v ++ w)) (x ++ y) (zipped xs ys)
    (Admits-append v w x y (All-head (Admits v) x xs p) (All-head (Admits w) y ys q))
    (zipped_admitted v w xs ys (All-tail (Admits v) x xs p) (All-tail (Admits w) y ys q))

-- the numbers of places are of 64 bits
numbers_admitted : (a n : ℕ) → a + n < 2 ^ 32 → All (Admits (W64 ∷ [])) (map (λ i. pos i ∷ []) (range_with_len a n))
numbers_admitted a zero lt = All-nil (Admits (W64 ∷ []))
numbers_admitted a (suc n) lt = All-cons (Admits (W64 ∷ [])) (pos a ∷ []) (map (λ i. pos i ∷ []) (range_with_len (a + 1) n))
    (record { low = omega (arith, ints); high = omega (arith, ints) }, tt)
    (numbers_admitted (a + 1) n (omega arith))

pub iota_admitted : (n : ℕ) → n < 2 ^ 32 → All (Admits (W64 ∷ [])) (iota n)
iota_admitted n lt = numbers_admitted 0 n (omega arith)

-- ---- one stage more

type_along-push : (ss : List Stage) (s : Stage) (ty : List Width) → type_along (ss ++ s ∷ []) ty ≡ type_after s (type_along ss ty)
type_along-push [] s ty = refl
type_along-push (r ∷ ss) s ty = type_along-push ss s (type_after r ty)

pub staged_type : (p new : Flow) (s : Stage) → new ≡ with_stage p s → type_of new ≡ type_after s (type_of p)
staged_type p new s e = ap (λ (q : Flow). type_of q) e ∙ type_along-push p.stages s p.head.ty

-- what two clauses on one answer say together
pub on_both : {T E : Type 0} {P Q S : Type 0} (r : Result T E) → (P → Q → S) → OnOk r P → OnOk r Q → OnOk r S
on_both (Ok x) f p q = f p q
on_both (Err e) f p q = tt

pub mapped_admitted : (p new : Flow) (f : Function) → f.takes ≡ type_of p → ((e : List ℤ) → Admits f.takes e → Admits f.gives (values_of f.scalars e)) → All (Admits (type_of p)) (elements p)
    → new ≡ with_stage p (Map f) → elements new ≡ map (values_of f.scalars) (elements p) → All (Admits (type_of new)) (elements new)
mapped_admitted p new f takes gives all is items =
    let each : All (λ e. Admits f.gives (values_of f.scalars e)) (elements p) = λ k d lt. gives (get_or (elements p) k d) (rw takes (all k d lt)) in
    rw (staged_type p new (Map f) is, items) (All-map (Admits f.gives) (values_of f.scalars) (elements p) each)

pub tested_admitted : (p new : Flow) (f : Function) → All (Admits (type_of p)) (elements p)
    → new ≡ with_stage p (Keep f) → elements new ≡ filter (is_kept f.scalars) (elements p) → All (Admits (type_of new)) (elements new)
tested_admitted p new f all is items = rw (staged_type p new (Keep f) is, items) (All-filter (is_kept f.scalars) (Admits (type_of p)) (elements p) all)

-- what a skeleton that passes its list on finishes
pub finish_passes : (h : Head) (fs : List (List Expr)) (os : List Op) (ty gives : List Width) → passes_on h ≡ true → Finishes h fs os ty gives → Passes h fs ty gives
finish_passes head.Map fs os ty gives m p = p
finish_passes head.Filter fs os ty gives m p = p
finish_passes head.Rev fs os ty gives m p = p
finish_passes head.Zip fs os ty gives m p = p
finish_passes head.Iota fs os ty gives m p = p
finish_passes head.Plain fs os ty gives m p = p
finish_passes head.Reduce fs os ty gives m p = cc
finish_passes head.Scan fs os ty gives m p = cc
finish_passes head.Scanr fs os ty gives m p = cc
finish_passes head.Mapln fs os ty gives m p = cc
finish_passes head.Rows fs os ty gives m p = cc
finish_passes head.Cols fs os ty gives m p = cc
finish_passes head.Transpose fs os ty gives m p = cc
finish_passes head.Uacc fs os ty gives m p = cc
finish_passes head.Dacc fs os ty gives m p = cc
finish_passes head.Getchl fs os ty gives m p = cc
finish_passes head.Getchr fs os ty gives m p = cc

pub passed_value : (b : Binding) (s : Skeleton) (x : Elements) → passes_on s.head ≡ true → value_finished b s x ≡ value.List (record { ty = b.ty; items = passed s.head s.functions x.items })
passed_value b s x m = by_head s.head m
  where
    by_head : (h : Head) → passes_on h ≡ true → value_finished b (record s { head = h }) x ≡ value.List (record { ty = b.ty; items = passed h s.functions x.items })
    by_head head.Map m = refl
    by_head head.Filter m = refl
    by_head head.Rev m = refl
    by_head head.Zip m = refl
    by_head head.Iota m = refl
    by_head head.Plain m = refl
    by_head head.Reduce m = cc
    by_head head.Scan m = cc
    by_head head.Scanr m = cc
    by_head head.Mapln m = cc
    by_head head.Rows m = cc
    by_head head.Cols m = cc
    by_head head.Transpose m = cc
    by_head head.Uacc m = cc
    by_head head.Dacc m = cc
    by_head head.Getchl m = cc
    by_head head.Getchr m = cc
