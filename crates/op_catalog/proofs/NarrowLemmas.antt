-- Lists of elements of one number each.
use Rattle.std.proofs.Common.{◌≡◌, ℕ, zero, suc, ◌<◌, ℤ, List, [], ◌∷◌, length, get_or, map, ap, refl, arith, pos}
use Rattle.std.specs.Prelude.{slice_index_or}
use Rattle.std.specs.List.{All}
use Rattle.std.proofs.lemmas.List.Elements.{All-head, All-tail}
use Rattle.op_laws.specs.declared.width.Width.TheVariants.{W64}
use Rattle.op_laws.specs.Admits.{Admits}
use Rattle.op_laws.specs.Elements.{singles}

single : (e : List ℤ) → Admits (W64 ∷ []) e → slice_index_or e 0 (pos 0) ∷ [] ≡ e
single [] a = absurd a
single (x ∷ []) a = refl
single (x ∷ y ∷ e) a = absurd a.1

-- elements of one number are their first numbers alone
pub singles-firsts : (es : List (List ℤ)) → All (Admits (W64 ∷ [])) es → singles (map (λ e. slice_index_or e 0 (pos 0)) es) ≡ es
singles-firsts [] all = refl
singles-firsts (e ∷ es) all = let one = single e (All-head (Admits (W64 ∷ [])) e es all) in let more = singles-firsts es (All-tail (Admits (W64 ∷ [])) e es all) in cc

-- the element at a place
pub get-singles : (xs : List ℤ) (i : ℕ) (d : ℤ) → i < length xs → get_or (singles xs) i [] ≡ slice_index_or xs i d ∷ []
get-singles [] i d within = absurd (omega (arith, within))
get-singles (x ∷ xs) zero d within = refl
get-singles (x ∷ xs) (suc i) d within = get-singles xs i d (omega (arith, within))
