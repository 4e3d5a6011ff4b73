-- Steps over numbers of some size give the values of the scalars that they compute.
use Rattle.std.proofs.Common.{◌≡◌, ℕ, zero, suc, ◌+◌, ◌<◌, ◌≤◌, ℤ, pos, ◌+ℤ◌, ◌-ℤ◌, Bool, true, false, List, [], ◌∷◌, ◌++◌, ◌⊎◌, inl, inr, map, take, get_or, length, refl, ap, sym, subst, ◌∙◌, FitsSigned}
use Rattle.std.specs.Int.{w64, w128, int_wrap}
use Rattle.std.proofs.lemmas.Int.{int_wrap_fits}
use Rattle.std.proofs.lemmas.List.{map-append, take-map}
use mir.Syntax.{Width as Size}
use Rattle.op_laws.specs.declared.width.Width.{Width}
use Rattle.op_laws.specs.Admits.{Admits}
use Rattle.scalar_expr.specs.declared.pair.Pair.TheVariants.{Add, Sub, Mul, Min, Max, Less, Same, And, Or, Xor}
use Rattle.scalar_expr.specs.declared.step.Operand.{Operand}
use Rattle.scalar_expr.specs.declared.step.Operand.TheVariants.{Part, Const, Place}
use Rattle.scalar_expr.specs.declared.step.Calc.{Calc}
use Rattle.scalar_expr.specs.declared.step.Calc.TheVariants as calc
use Rattle.scalar_expr.specs.declared.step.Step.{Step}
use Rattle.scalar_expr.specs.declared.step.Step.TheVariants.{Two, Cond}
use Rattle.scalar_expr.specs.Expr.{Expr, lit}
use Rattle.scalar_expr.specs.Values.{value_of, chosen}
use Rattle.scalar_expr.specs.Steps.{Machine, operand_in, put, step_in, run_in, calc_expr, exprs, built, made, numbers, IsExactCalc, IsExact, AreExact}

pub get_or-map-same : {X Y : Type 0} (f : X → Y) (xs : List X) (k : ℕ) (d : X) → get_or (map f xs) k (f d) ≡ f (get_or xs k d)
get_or-map-same f [] k d = refl
get_or-map-same f (x ∷ xs) zero d = refl
get_or-map-same f (x ∷ xs) (suc k) d = get_or-map-same f xs k d

map-put : {X Y : Type 0} (f : X → Y) (k : ℕ) (x : X) (xs : List X) → put k (f x) (map f xs) ≡ map f (put k x xs)
map-put f k x xs = ap (λ r. r ++ f x ∷ []) (take-map f k xs) ∙ sym (map-append f (take k xs) (x ∷ []))

contrary : (b : Bool) → b ≡ true → b ≡ false → ⊥
contrary b t f = cc

-- numbers of 128 bits, or of 64 where all are narrow
module _ (w : Size) (ty : List Width) (narrow : Bool) (suits : (w ≡ w128) ⊎ (narrow ≡ true)) (e : List ℤ) (admitted : (narrow ≡ false) → Admits ty e) where
  fits_size : (x : ℤ) → narrow ≡ false → (Admits ty e → FitsSigned w128 x) → int_wrap w x ≡ x
  fits_size x wide fits = elim suits [
    | inl is ↦ ap (λ v. int_wrap v x) is ∙ int_wrap_fits w128 x (fits (admitted wide))
    | inr is ↦ absurd (contrary narrow is wide)
  ]

  made_exact : (op : Calc) (a b : Expr) → IsExactCalc ty narrow op a b → made w op (value_of e a) (value_of e b) ≡ value_of e (calc_expr op a b)
  made_exact (calc.Two Add) a b exact = fits_size _ exact.0 (exact.1 e)
  made_exact (calc.Two Sub) a b exact = fits_size _ exact.0 (exact.1 e)
  made_exact (calc.Two Mul) a b exact = refl
  made_exact (calc.Two Min) a b exact = refl
  made_exact (calc.Two Max) a b exact = refl
  made_exact (calc.Two Less) a b exact = refl
  made_exact (calc.Two Same) a b exact = refl
  made_exact (calc.Two And) a b exact = refl
  made_exact (calc.Two Or) a b exact = refl
  made_exact (calc.Two Xor) a b exact = refl
  made_exact calc.WrapAdd a b exact = refl
  made_exact calc.WrapSub a b exact = refl
  made_exact calc.Wrap a b exact = refl
  made_exact calc.Copy a b exact = refl

  operand_exact : (st : List Expr) (o : Operand) → operand_in (numbers w e) (map (value_of e) st) o ≡ value_of e (operand_in exprs st o)
  operand_exact st (Part i) = refl
  operand_exact st (Const n) = refl
  operand_exact st (Place k) = get_or-map-same (value_of e) st k (lit (pos 0))

  step_exact : (i : Step) (st : List Expr) → IsExact ty narrow i st → step_in (numbers w e) i (map (value_of e) st) ≡ map (value_of e) (step_in exprs i st)
  step_exact (Two op a b out) st exact =
      ap (λ x. put out (made w op x (operand_in (numbers w e) (map (value_of e) st) b)) (map (value_of e) st)) (operand_exact st a)
      ∙ ap (λ x. put out (made w op (value_of e (operand_in exprs st a)) x) (map (value_of e) st)) (operand_exact st b)
      ∙ ap (λ x. put out x (map (value_of e) st)) (made_exact op _ _ exact)
      ∙ map-put (value_of e) out (calc_expr op (operand_in exprs st a) (operand_in exprs st b)) st
  step_exact (Cond c a b out) st exact =
      ap (λ x. put out (chosen x (operand_in (numbers w e) (map (value_of e) st) a) (operand_in (numbers w e) (map (value_of e) st) b)) (map (value_of e) st)) (operand_exact st c)
      ∙ ap (λ x. put out (chosen (value_of e (operand_in exprs st c)) x (operand_in (numbers w e) (map (value_of e) st) b)) (map (value_of e) st)) (operand_exact st a)
      ∙ ap (λ x. put out (chosen (value_of e (operand_in exprs st c)) (value_of e (operand_in exprs st a)) x) (map (value_of e) st)) (operand_exact st b)
      ∙ map-put (value_of e) out (exprs.choice (operand_in exprs st c) (operand_in exprs st a) (operand_in exprs st b)) st

  pub run_exact : (steps : List Step) (st : List Expr) → AreExact ty narrow steps st → run_in (numbers w e) steps (map (value_of e) st) ≡ map (value_of e) (built steps st)
  run_exact [] st exact = refl
  run_exact (i ∷ is) st exact = ap (run_in (numbers w e) is) (step_exact i st exact.0) ∙ run_exact is (step_in exprs i st) exact.1
