-- The value of a scalar lies in its width.
use Rattle.std.proofs.Common.{◌≡◌, ℕ, zero, suc, ◌+◌, ◌<◌, ◌≤◌, ◌^◌, ℤ, pos, ◌+ℤ◌, ◌-ℤ◌, List, [], ◌∷◌, length, map, get_or, slice_get, Option, Some, None, Result, Ok, Err, Bool, true, false, ◌&&◌, cond, refl, ap, sym, subst, ◌∙◌, arith, FitsSigned, bit_and, bit_or, bit_xor, int_lt, int_eq}
use Rattle.std.specs.Int.{w64, w128, int_min, int_max, int_wrap, cast_signed, cast_unsigned}
use Rattle.std.specs.List.{AllByRecursion, list_all}
use Rattle.std.proofs.lemmas.Int.{ints, clamps, SFits-int_wrap}
use Rattle.std.proofs.lemmas.Nat.{and_le_l, or_lt, xor_lt}
use Rattle.op_laws.specs.declared.width.Width.{Width}
use Rattle.op_laws.specs.declared.width.Width.TheVariants.{W64, W96, W128}
use Rattle.op_laws.specs.Admits.{Admits}
use Rattle.op_laws.specs.Widths.{FitsWidth, width_bits, next_width, wider_width}
use Rattle.scalar_expr.specs.declared.fault.TypeFault.{TypeFault}
use Rattle.scalar_expr.specs.declared.pair.Pair.{Pair}
use Rattle.scalar_expr.specs.declared.pair.Pair.TheVariants.{Add, Sub, Mul, Min, Max, Less, Same, And, Or, Xor}
use Rattle.scalar_expr.specs.declared.step.Calc.TheVariants as calc
use Rattle.scalar_expr.specs.Expr.{Expr, lit, part, two, wrap, postorder, nodes, HasSmallLiterals}
use Rattle.scalar_expr.specs.Expr as expr
use Rattle.scalar_expr.specs.Values.{value_of, pair_value, residue, truth, bitwise, chosen}
use Rattle.scalar_expr.specs.Typing.{sum_width, either_width, bits_width, pair_width, with_one, with_two, width_of, first_fault, nodes_of, typed}
use Rattle.scalar_expr.specs.Columns.{stays_narrow, is_narrow, is_w64}
use Rattle.scalar_expr.specs.Steps.{HasValues, IsExactCalc, IsBounded}
use Rattle.scalar_expr.specs.Walk.{IsPlain, and_then, or_fault, checked_with, checked_of, type_from}
use Rattle.scalar_expr.proofs.Faults.{HasWidth, type_is, has_width}

-- ---- widths of parts

pub record Inner (f : Width → Option Width) (o : Option Width) (w : Width) : Type 0 where
  pub width : Width
  pub is : o ≡ Some width
  pub gives : f width ≡ Some w

pub inner_of : (f : Width → Option Width) (o : Option Width) (w : Width) → with_one f o ≡ Some w → Inner f o w
inner_of f None w h = cc
inner_of f (Some u) w h = record { width = u; is = refl; gives = h }

same_some : (v w : Width) → Some v ≡ Some w → v ≡ w
same_some v w h = cc

along : (v w : Width) (a : ℤ) → Some v ≡ Some w → FitsWidth v a → FitsWidth w a
along v w a h fits = subst (λ u. FitsWidth u a) (same_some v w h) fits

-- ---- one operator

-- a number of any width is one of 128 bits
pub is_signed : (w : Width) (a : ℤ) → FitsWidth w a → FitsSigned w128 a
is_signed W64 a fits = omega (arith, ints)
is_signed W96 a fits = omega (arith, ints)
is_signed W128 a fits = omega (arith, ints)

wider_left : (v w : Width) (a : ℤ) → FitsWidth v a → FitsWidth (wider_width v w) a
wider_left W64 W64 a fits = fits
wider_left W64 W96 a fits = record { low = omega (arith, ints); high = omega (arith, ints) }
wider_left W64 W128 a fits = record { low = omega (arith, ints); high = omega (arith, ints) }
wider_left W96 W64 a fits = fits
wider_left W96 W96 a fits = fits
wider_left W96 W128 a fits = record { low = omega (arith, ints); high = omega (arith, ints) }
wider_left W128 W64 a fits = fits
wider_left W128 W96 a fits = fits
wider_left W128 W128 a fits = fits

wider_right : (v w : Width) (a : ℤ) → FitsWidth w a → FitsWidth (wider_width v w) a
wider_right W64 W64 a fits = fits
wider_right W64 W96 a fits = fits
wider_right W64 W128 a fits = fits
wider_right W96 W64 a fits = record { low = omega (arith, ints); high = omega (arith, ints) }
wider_right W96 W96 a fits = fits
wider_right W96 W128 a fits = fits
wider_right W128 W64 a fits = record { low = omega (arith, ints); high = omega (arith, ints) }
wider_right W128 W96 a fits = record { low = omega (arith, ints); high = omega (arith, ints) }
wider_right W128 W128 a fits = fits

next_fits_sum : (v w : Width) (a b : ℤ) → next_width v ≡ Some w → FitsWidth v a → FitsWidth v b → FitsWidth w (a +ℤ b)
next_fits_sum W64 w a b h fa fb = along W96 w _ h (record { low = omega (arith, ints); high = omega (arith, ints) })
next_fits_sum W96 w a b h fa fb = along W128 w _ h (record { low = omega (arith, ints); high = omega (arith, ints) })
next_fits_sum W128 w a b h fa fb = cc

next_fits_difference : (v w : Width) (a b : ℤ) → next_width v ≡ Some w → FitsWidth v a → FitsWidth v b → FitsWidth w (a -ℤ b)
next_fits_difference W64 w a b h fa fb = along W96 w _ h (record { low = omega (arith, ints); high = omega (arith, ints) })
next_fits_difference W96 w a b h fa fb = along W128 w _ h (record { low = omega (arith, ints); high = omega (arith, ints) })
next_fits_difference W128 w a b h fa fb = cc

min_fits : (w : Width) (a b : ℤ) → FitsWidth w a → FitsWidth w b → FitsWidth w (int_min a b)
min_fits w a b fa fb = record { low = omega (arith, ints, clamps); high = omega (arith, ints, clamps) }

max_fits : (w : Width) (a b : ℤ) → FitsWidth w a → FitsWidth w b → FitsWidth w (int_max a b)
max_fits w a b fa fb = record { low = omega (arith, ints, clamps); high = omega (arith, ints, clamps) }

residue_fits : (a : ℤ) → FitsWidth W64 (residue a)
residue_fits a = let f : FitsSigned w64 (int_wrap w64 a) = SFits-int_wrap w64 a in record { low = omega (arith, ints); high = omega (arith, ints) }

truth_fits : (b : Bool) → FitsWidth W64 (truth b)
truth_fits true = record { low = omega (arith, ints); high = omega (arith, ints) }
truth_fits false = record { low = omega (arith, ints); high = omega (arith, ints) }

signed_fits : (n : ℕ) → n < 2 ^ 64 → FitsWidth W64 (cast_signed w64 n)
signed_fits n h = record { low = omega (arith, ints); high = omega (arith, ints) }

residue_below : (a : ℤ) → cast_unsigned w64 (residue a) < 2 ^ 64
residue_below a = let f : FitsSigned w64 (int_wrap w64 a) = SFits-int_wrap w64 a in omega (arith, ints)

and_fits : (a b : ℤ) → FitsWidth W64 (bitwise bit_and a b)
and_fits a b = signed_fits _ (let le = and_le_l (cast_unsigned w64 (residue a)) (cast_unsigned w64 (residue b)) in omega (arith, residue_below a))

or_fits : (a b : ℤ) → FitsWidth W64 (bitwise bit_or a b)
or_fits a b = signed_fits _ (or_lt 64 _ _ (residue_below a) (residue_below b))

xor_fits : (a b : ℤ) → FitsWidth W64 (bitwise bit_xor a b)
xor_fits a b = signed_fits _ (xor_lt 64 _ _ (residue_below a) (residue_below b))

bits_are_w64 : (u v w : Width) → bits_width u v ≡ Some w → Some W64 ≡ Some w
bits_are_w64 W64 W64 w h = h
bits_are_w64 W64 W96 w h = cc
bits_are_w64 W64 W128 w h = cc
bits_are_w64 W96 v w h = cc
bits_are_w64 W128 v w h = cc

pair_fits : (op : Pair) (u v w : Width) (a b : ℤ) → pair_width op u v ≡ Some w → FitsWidth u a → FitsWidth v b → FitsWidth w (pair_value op a b)
pair_fits Add u v w a b h fa fb = next_fits_sum (wider_width u v) w a b h (wider_left u v a fa) (wider_right u v b fb)
pair_fits Sub u v w a b h fa fb = next_fits_difference (wider_width u v) w a b h (wider_left u v a fa) (wider_right u v b fb)
pair_fits Mul u v w a b h fa fb = along W64 w _ h (residue_fits _)
pair_fits Min u v w a b h fa fb = along (wider_width u v) w _ h (min_fits _ a b (wider_left u v a fa) (wider_right u v b fb))
pair_fits Max u v w a b h fa fb = along (wider_width u v) w _ h (max_fits _ a b (wider_left u v a fa) (wider_right u v b fb))
pair_fits Less u v w a b h fa fb = along W64 w _ h (truth_fits _)
pair_fits Same u v w a b h fa fb = along W64 w _ h (truth_fits _)
pair_fits And u v w a b h fa fb = along W64 w _ (bits_are_w64 u v w h) (and_fits a b)
pair_fits Or u v w a b h fa fb = along W64 w _ (bits_are_w64 u v w h) (or_fits a b)
pair_fits Xor u v w a b h fa fb = along W64 w _ (bits_are_w64 u v w h) (xor_fits a b)

choice_fits : (w : Width) (test : Bool) (a b : ℤ) → FitsWidth w a → FitsWidth w b → FitsWidth w (cond test b a)
choice_fits w true a b fa fb = fb
choice_fits w false a b fa fb = fa

part_fits : (ty : List Width) (e : List ℤ) (i : ℕ) (w : Width) → slice_get ty i ≡ Some w → Admits ty e → FitsWidth w (get_or e i (pos 0))
part_fits [] e i w h admitted = cc
part_fits (v ∷ ty) [] i w h admitted = absurd admitted
part_fits (v ∷ ty) (x ∷ e) zero w h admitted = along v w x h admitted.0
part_fits (v ∷ ty) (x ∷ e) (suc i) w h admitted = part_fits ty e i w h admitted.1

part_within : (ty : List Width) (i : ℕ) (w : Width) → slice_get ty i ≡ Some w → i < length ty
part_within [] i w h = cc
part_within (v ∷ ty) zero w h = omega arith
part_within (v ∷ ty) (suc i) w h = let l = part_within ty i w h in omega arith

-- ---- a scalar

pub value_fits : (ty : List Width) (e : List ℤ) → Admits ty e → (s : Expr) (w : Width) → HasSmallLiterals s → width_of ty s ≡ Some w → FitsWidth w (value_of e s)
value_fits ty e admitted (lit n) w small h = along W64 w n h small
value_fits ty e admitted (part i) w small h = part_fits ty e i w h admitted
value_fits ty e admitted (two op a b) w small h =
    let p = inner_of (λ v. with_one (pair_width op v) (width_of ty b)) (width_of ty a) w h in
    let q = inner_of (pair_width op p.width) (width_of ty b) w p.gives in
    pair_fits op p.width q.width w _ _ q.gives (value_fits ty e admitted a p.width small.0 p.is) (value_fits ty e admitted b q.width small.1 q.is)
value_fits ty e admitted (expr.cond c a b) w small h =
    let o = inner_of (λ _. with_two either_width (width_of ty a) (width_of ty b)) (width_of ty c) w h in
    let p = inner_of (λ v. with_one (either_width v) (width_of ty b)) (width_of ty a) w o.gives in
    let q = inner_of (either_width p.width) (width_of ty b) w p.gives in
    along (wider_width p.width q.width) w _ q.gives
    (choice_fits _ (int_eq (value_of e c) (pos 0)) _ _
    (wider_left p.width q.width _ (value_fits ty e admitted a p.width small.1 p.is)) (wider_right p.width q.width _ (value_fits ty e admitted b q.width small.2 q.is)))
value_fits ty e admitted (wrap a) w small h =
    let p = inner_of (λ _. Some W64) (width_of ty a) w h in along W64 w _ p.gives (residue_fits _)

has_values : (ty : List Width) (s : Expr) (w : Width) → HasSmallLiterals s → width_of ty s ≡ Some w → HasValues ty s
has_values ty s w small h = λ e admitted. is_signed w (value_of e s) (value_fits ty e admitted s w small h)

-- ---- steps of a scalar are exact

not_true : (n : Bool) → (n ≡ true → false ≡ true) → n ≡ false
not_true true h = sym (h refl)
not_true false h = refl

first_of_and : (a b : Bool) → (a && b) ≡ true → a ≡ true
first_of_and true b h = refl
first_of_and false b h = h

second_of_and : (a b : Bool) → (a && b) ≡ true → b ≡ true
second_of_and true b h = h
second_of_and false b h = cc

module _ (ty : List Width) (n : Bool) where
  exact_calc : (op : Pair) (a b : Expr) (w : Width) → HasSmallLiterals a × HasSmallLiterals b → width_of ty (two op a b) ≡ Some w → (n ≡ true → stays_narrow (two op a b) ≡ true)
      → IsExactCalc ty n (calc.Two op) a b
  exact_calc Add a b w small h stays = (not_true n stays, has_values ty (two Add a b) w small h)
  exact_calc Sub a b w small h stays = (not_true n stays, has_values ty (two Sub a b) w small h)
  exact_calc Mul a b w small h stays = tt
  exact_calc Min a b w small h stays = tt
  exact_calc Max a b w small h stays = tt
  exact_calc Less a b w small h stays = tt
  exact_calc Same a b w small h stays = tt
  exact_calc And a b w small h stays = tt
  exact_calc Or a b w small h stays = tt
  exact_calc Xor a b w small h stays = tt

  keeps_first : (op : Pair) (a b : Expr) → stays_narrow (two op a b) ≡ true → stays_narrow a ≡ true
  keeps_first op a b h = first_of_and (stays_narrow a) (stays_narrow b) (second_of_and _ _ h)

  keeps_second : (op : Pair) (a b : Expr) → stays_narrow (two op a b) ≡ true → stays_narrow b ≡ true
  keeps_second op a b h = second_of_and (stays_narrow a) (stays_narrow b) (second_of_and _ _ h)

  pub bounded : (s : Expr) (w : Width) → HasSmallLiterals s → width_of ty s ≡ Some w → (n ≡ true → stays_narrow s ≡ true) → IsBounded ty n s
  bounded (lit m) w small h stays = tt
  bounded (part i) w small h stays = part_within ty i w h
  bounded (two op a b) w small h stays =
      let p = inner_of (λ v. with_one (pair_width op v) (width_of ty b)) (width_of ty a) w h in
      let q = inner_of (pair_width op p.width) (width_of ty b) w p.gives in
      (exact_calc op a b w small h stays, bounded a p.width small.0 p.is (λ e. keeps_first op a b (stays e)), bounded b q.width small.1 q.is (λ e. keeps_second op a b (stays e)))
  bounded (expr.cond c a b) w small h stays =
      let o = inner_of (λ _. with_two either_width (width_of ty a) (width_of ty b)) (width_of ty c) w h in
      let p = inner_of (λ v. with_one (either_width v) (width_of ty b)) (width_of ty a) w o.gives in
      let q = inner_of (either_width p.width) (width_of ty b) w p.gives in (
        bounded c o.width small.0 o.is (λ e. first_of_and _ _ (stays e)),
        bounded a p.width small.1 p.is (λ e. first_of_and _ _ (second_of_and (stays_narrow c) _ (stays e))),
        bounded b q.width small.2 q.is (λ e. second_of_and _ _ (second_of_and (stays_narrow c) _ (stays e))),
      )
  bounded (wrap (two Add a b)) w small h stays =
      let o = inner_of (λ _. Some W64) (width_of ty (two Add a b)) w h in
      let p = inner_of (λ v. with_one (pair_width Add v) (width_of ty b)) (width_of ty a) o.width o.is in
      let q = inner_of (pair_width Add p.width) (width_of ty b) o.width p.gives in
      (bounded a p.width small.0 p.is (λ e. first_of_and _ _ (stays e)), bounded b q.width small.1 q.is (λ e. second_of_and (stays_narrow a) _ (stays e)))
  bounded (wrap (two Sub a b)) w small h stays =
      let o = inner_of (λ _. Some W64) (width_of ty (two Sub a b)) w h in
      let p = inner_of (λ v. with_one (pair_width Sub v) (width_of ty b)) (width_of ty a) o.width o.is in
      let q = inner_of (pair_width Sub p.width) (width_of ty b) o.width p.gives in
      (bounded a p.width small.0 p.is (λ e. first_of_and _ _ (stays e)), bounded b q.width small.1 q.is (λ e. second_of_and (stays_narrow a) _ (stays e)))
  bounded (wrap s) w small h stays = let o = inner_of (λ _. Some W64) (width_of ty s) w h in bounded s o.width small o.is stays

-- ---- all scalars of a function

pub record Types (ty : List Width) (place : ℕ) (s : Expr) (ss : List Expr) (gives : List Width) : Type 0 where
  pub width : Width
  pub widths : List Width
  pub is : width_of ty s ≡ Some width
  pub others : type_from ty (place + nodes s) ss ≡ Ok widths
  pub gives_is : gives ≡ width ∷ widths

types_of : (ty : List Width) (place : ℕ) (s : Expr) (ss : List Expr) (fault : Option TypeFault) (o : Option Width) (r : Result (List Width) TypeFault) (gives : List Width) → width_of ty s ≡ o → type_from ty (place + nodes s) ss ≡ r
    → and_then (checked_with fault place o) (λ w. and_then r (λ ws. Ok (w ∷ ws))) ≡ Ok gives → Types ty place s ss gives
types_of ty place s ss (Some f) o r gives io ir h = cc
types_of ty place s ss None None r gives io ir h = cc
types_of ty place s ss None (Some w) (Err f) gives io ir h = cc
types_of ty place s ss None (Some w) (Ok ws) gives io ir h = record { width = w; widths = ws; is = io; others = ir; gives_is = (cc) }

types_at : (ty : List Width) (place : ℕ) (s : Expr) (ss : List Expr) (gives : List Width) → type_from ty place (s ∷ ss) ≡ Ok gives → Types ty place s ss gives
unfolding type_from checked_of
types_at ty place s ss gives h = types_of ty place s ss (first_fault ty place (postorder s)) (width_of ty s) (type_from ty (place + nodes s) ss) gives refl refl h

module _ (ty : List Width) where
  bounded_from : (n : Bool) (place : ℕ) (ss : List Expr) (gives : List Width) → type_from ty place ss ≡ Ok gives → AllByRecursion IsPlain ss → (n ≡ true → list_all stays_narrow ss ≡ true) → AllByRecursion (IsBounded ty n) ss
  bounded_from n place [] gives h plain stays = tt
  bounded_from n place (s ∷ ss) gives h plain stays =
      let t = types_at ty place s ss gives h in
      (bounded ty n s t.width plain.0.1 t.is (λ e. first_of_and _ _ (stays e)), bounded_from n (place + nodes s) ss t.widths t.others plain.1 (λ e. second_of_and (stays_narrow s) _ (stays e)))

  pub all_bounded : (n : Bool) (ss : List Expr) (gives : List Width) → typed ty ss ≡ Ok gives → AllByRecursion IsPlain ss → n ≡ is_narrow ty ss → AllByRecursion (IsBounded ty n) ss
  all_bounded n ss gives h plain narrow = bounded_from n 0 ss gives (type_is ty 0 ss ∙ h) plain (λ e. second_of_and (list_all is_w64 ty) _ (sym narrow ∙ e))

  pub small_literals : (ss : List Expr) → AllByRecursion IsPlain ss → AllByRecursion HasSmallLiterals ss
  small_literals [] plain = tt
  small_literals (s ∷ ss) plain = (plain.0.1, small_literals ss plain.1)

  admitted_from : (e : List ℤ) → Admits ty e → (place : ℕ) (ss : List Expr) (gives : List Width) → type_from ty place ss ≡ Ok gives → AllByRecursion HasSmallLiterals ss → Admits gives (map (value_of e) ss)
  unfolding type_from
  admitted_from e admitted place [] [] h small = tt
  admitted_from e admitted place [] (w ∷ ws) h small = cc
  admitted_from e admitted place (s ∷ ss) gives h small =
      let t = types_at ty place s ss gives h in
      subst (λ g. Admits g (map (value_of e) (s ∷ ss))) (sym t.gives_is)
      (value_fits ty e admitted s t.width small.0 t.is, admitted_from e admitted (place + nodes s) ss t.widths t.others small.1)

  -- the values of a function's scalars are an element of the type that it gives
  pub values_admitted : (e : List ℤ) (ss : List Expr) (gives : List Width) → Admits ty e → typed ty ss ≡ Ok gives → AllByRecursion HasSmallLiterals ss → Admits gives (map (value_of e) ss)
  values_admitted e ss gives admitted h small = admitted_from e admitted 0 ss gives (type_is ty 0 ss ∙ h) small

  count_from : (place : ℕ) (ss : List Expr) (gives : List Width) → type_from ty place ss ≡ Ok gives → length gives ≡ length ss
  unfolding type_from
  count_from place [] [] h = refl
  count_from place [] (w ∷ ws) h = cc
  count_from place (s ∷ ss) gives h =
      let t = types_at ty place s ss gives h in
      ap length t.gives_is ∙ ap (λ n. suc n) (count_from (place + nodes s) ss t.widths t.others)

  -- there is a width for each scalar
  pub as_many : (ss : List Expr) (gives : List Width) → typed ty ss ≡ Ok gives → length gives ≡ length ss
  as_many ss gives h = count_from 0 ss gives (type_is ty 0 ss ∙ h)
