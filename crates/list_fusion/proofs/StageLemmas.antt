-- Stages on a list, and on each of its elements alone.
use Rattle.std.proofs.Common.{◌≡◌, ◌≤◌, ℤ, Bool, true, false, cond, List, [], ◌∷◌, ◌++◌, Option, Some, None, map, reverse, suc, length, refl, ap, sym, ◌∙◌, arith, subst}
use Rattle.std.specs.List.{filter, filter_map, cons_option}
use Rattle.std.specs.Option.{option_and_then}
use Rattle.std.proofs.lemmas.List.{map-append, append-nil, reverse-append, length-map}
use Rattle.std.proofs.lemmas.List.Elements.{filter-append}
use Rattle.op_laws.specs.declared.width.Width.{Width}
use Rattle.op_laws.specs.Admits.{Admits}
use Rattle.scalar_expr.specs.Values.{values_of}
use Rattle.list_fusion.specs.declared.stage.Stage.{Stage}
use Rattle.list_fusion.specs.declared.stage.Stage.TheVariants.{Map, Keep}
use Rattle.list_fusion.specs.Stages.{is_kept, applied, staged, taken_by, type_after, type_along, Takes, AreTyped}
use Rattle.list_fusion.specs.Kept.{IsReady}
use Rattle.list_fusion.specs.Through.{through}

filter_map-some : {X : Type 0} (xs : List X) → filter_map (λ x. Some x) xs ≡ xs
filter_map-some [] = refl
filter_map-some (x ∷ xs) = ap (λ ys. x ∷ ys) (filter_map-some xs)

module _ {X Y : Type 0} (p : X → Bool) (g : X → Option Y) where
  kept_one : (b : Bool) (x : X) (xs : List X) (ys : List Y) → filter_map g xs ≡ ys → filter_map g (cond b (x ∷ xs) xs) ≡ cons_option (option_and_then g (cond b (Some x) None)) ys
  kept_one true x xs ys h = ap (cons_option (g x)) h
  kept_one false x xs ys h = h

  filter_map-filter : (xs : List X) → filter_map g (filter p xs) ≡ filter_map (λ x. option_and_then g (cond (p x) (Some x) None)) xs
  filter_map-filter [] = refl
  filter_map-filter (x ∷ xs) = kept_one (p x) x (filter p xs) _ (filter_map-filter xs)

filter_map-map : {X Y Z : Type 0} (f : X → Y) (g : Y → Option Z) (xs : List X) → filter_map g (map f xs) ≡ filter_map (λ x. g (f x)) xs
filter_map-map f g [] = refl
filter_map-map f g (x ∷ xs) = ap (cons_option (g (f x))) (filter_map-map f g xs)

-- the stages on a list do to each element what they do to it alone
pub staged_is : (ss : List Stage) (es : List (List ℤ)) → staged ss es ≡ filter_map (through ss) es
staged_is [] es = sym (filter_map-some es)
staged_is (Map f ∷ ss) es = staged_is ss (map (values_of f.scalars) es) ∙ filter_map-map (values_of f.scalars) (through ss) es
staged_is (Keep f ∷ ss) es = staged_is ss (filter (is_kept f.scalars) es) ∙ filter_map-filter (is_kept f.scalars) (through ss) es

pub staged-append : (ss : List Stage) (xs ys : List (List ℤ)) → staged ss (xs ++ ys) ≡ staged ss xs ++ staged ss ys
staged-append [] xs ys = refl
staged-append (Map f ∷ ss) xs ys = ap (staged ss) (map-append (values_of f.scalars) xs ys) ∙ staged-append ss (map (values_of f.scalars) xs) (map (values_of f.scalars) ys)
staged-append (Keep f ∷ ss) xs ys = ap (staged ss) (filter-append (is_kept f.scalars) xs ys) ∙ staged-append ss (filter (is_kept f.scalars) xs) (filter (is_kept f.scalars) ys)

-- one stage more
pub staged-push : (ss : List Stage) (s : Stage) (es : List (List ℤ)) → staged (ss ++ s ∷ []) es ≡ applied s (staged ss es)
staged-push [] s es = refl
staged-push (t ∷ ss) s es = staged-push ss s (applied t es)

pub type_along-push : (ss : List Stage) (s : Stage) (ty : List Width) → type_along (ss ++ s ∷ []) ty ≡ type_after s (type_along ss ty)
type_along-push [] s ty = refl
type_along-push (t ∷ ss) s ty = type_along-push ss s (type_after t ty)

pub AreTyped-push : (ss : List Stage) (s : Stage) (ty : List Width) → AreTyped ss ty → Takes s (type_along ss ty) → AreTyped (ss ++ s ∷ []) ty
AreTyped-push [] s ty h takes = (takes, tt)
AreTyped-push (t ∷ ss) s ty h takes = (h.0, AreTyped-push ss s (type_after t ty) h.1 takes)

-- no stage makes a list longer
filter-short : {X : Type 0} (p : X → Bool) (xs : List X) → length (filter p xs) ≤ length xs
filter-short p [] = omega arith
filter-short p (x ∷ xs) =
    let rest = filter-short p xs in
    elim (p x) as (λ b. length (cond b (x ∷ filter p xs) (filter p xs)) ≤ suc (length xs)) [ true ↦ omega arith | false ↦ omega arith ]

pub length-staged : (ss : List Stage) (es : List (List ℤ)) → length (staged ss es) ≤ length es
length-staged [] es = omega arith
length-staged (Map f ∷ ss) es = omega (arith, length-staged ss (map (values_of f.scalars) es), length-map es (values_of f.scalars))
length-staged (Keep f ∷ ss) es = omega (arith, length-staged ss (filter (is_kept f.scalars) es), filter-short (is_kept f.scalars) es)

-- turned round before the stages or after them
reverse-cons : {X : Type 0} (x : X) (xs : List X) → reverse (x ∷ xs) ≡ reverse xs ++ x ∷ []
reverse-cons x xs = reverse-append (x ∷ []) xs

pub map-reverse : {X Y : Type 0} (f : X → Y) (xs : List X) → map f (reverse xs) ≡ reverse (map f xs)
map-reverse f [] = refl
map-reverse f (x ∷ xs) =
    ap (map f) (reverse-cons x xs) ∙ map-append f (reverse xs) (x ∷ []) ∙ ap (λ ys. ys ++ f x ∷ []) (map-reverse f xs) ∙ sym (reverse-cons (f x) (map f xs))

pub filter-reverse : {X : Type 0} (p : X → Bool) (xs : List X) → filter p (reverse xs) ≡ reverse (filter p xs)
filter-reverse p [] = refl
filter-reverse p (x ∷ xs) =
    let rest = filter-reverse p xs in
    ap (filter p) (reverse-cons x xs) ∙ filter-append p (reverse xs) (x ∷ []) ∙ ap (λ ys. ys ++ filter p (x ∷ [])) rest
    ∙ elim (p x) as (λ b. reverse (filter p xs) ++ cond b (x ∷ []) [] ≡ reverse (cond b (x ∷ filter p xs) (filter p xs))) [ true ↦ sym (reverse-cons x (filter p xs)) | false ↦ append-nil (reverse (filter p xs)) ]

pub staged-reverse : (ss : List Stage) (es : List (List ℤ)) → staged ss (reverse es) ≡ reverse (staged ss es)
staged-reverse [] es = refl
staged-reverse (Map f ∷ ss) es = ap (staged ss) (map-reverse (values_of f.scalars) es) ∙ staged-reverse ss (map (values_of f.scalars) es)
staged-reverse (Keep f ∷ ss) es = ap (staged ss) (filter-reverse (is_kept f.scalars) es) ∙ staged-reverse ss (filter (is_kept f.scalars) es)

-- an element on its way through the stages
pub ready_first : (s : Stage) (ss : List Stage) (last : List Width) (e : List ℤ) → IsReady (s ∷ ss) last e → Admits (taken_by s) e
ready_first (Map f) ss last e r = subst (λ ty. Admits ty e) (sym r.typed.0) r.admitted
ready_first (Keep f) ss last e r = subst (λ ty. Admits ty e) (sym r.typed.0.0) r.admitted

pub ready_next : (s : Stage) (ss : List Stage) (last : List Width) (e d : List ℤ) → IsReady (s ∷ ss) last e
    → ((ty : List Width) → Takes s ty → Admits (type_after s ty) d) → IsReady ss last d
ready_next s ss last e d r after = record { ty = type_after s r.ty; typed = r.typed.1; along = r.along; admitted = after r.ty r.typed.0 }

pub ready_done : (last : List Width) (e : List ℤ) → IsReady [] last e → Admits last e
ready_done last e r = subst (λ ty. Admits ty e) r.along r.admitted

abbrev pub any_stage : Stage
any_stage = Map (record { scalars = []; takes = []; gives = [] })
