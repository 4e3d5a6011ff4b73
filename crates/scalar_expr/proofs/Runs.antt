-- What a compiled function does on an element of its type.
use Rattle.std.proofs.Common.{◌≡◌, ℕ, ◌+◌, ◌<◌, ◌≤◌, Bool, true, false, ℤ, List, [], ◌∷◌, length, map, inl, inr, refl, ap, sym, subst, ◌∙◌, arith}
use Rattle.std.specs.Int.{w64, w128}
use Rattle.op_laws.specs.declared.width.Width.{Width}
use Rattle.op_laws.specs.Admits.{Admits}
use Rattle.scalar_expr.specs.declared.step.Step.{Step}
use Rattle.scalar_expr.specs.declared.step.Step.TheVariants.{Two, Cond}
use Rattle.scalar_expr.specs.Expr.{Expr}
use Rattle.scalar_expr.specs.Values.{values_of}
use Rattle.scalar_expr.specs.Columns.{is_narrow, room_of}
use Rattle.scalar_expr.specs.Steps.{AreSafe, IsSafe, out_of, height_after, run_in, numbers, built}
use Rattle.scalar_expr.specs.Compiled.{IsCompiled}
use Rattle.scalar_expr.proofs.Bounds.{values_admitted, as_many}
use Rattle.scalar_expr.proofs.Exactness.{run_exact}

pub length-admitted : (ty : List Width) (e : List ℤ) → Admits ty e → length ty ≡ length e
length-admitted [] [] h = refl
length-admitted [] (x ∷ e) h = absurd h
length-admitted (w ∷ ty) [] h = absurd h
length-admitted (w ∷ ty) (x ∷ e) h = let l = length-admitted ty e h.1 in omega arith

roomier_step : (arity m n h : ℕ) (i : Step) → m ≤ n → IsSafe arity m h i → IsSafe arity n h i
roomier_step arity m n h (Two op a b out) le s = (omega (arith, s.0), s.1, s.2, s.3)
roomier_step arity m n h (Cond c a b out) le s = (omega (arith, s.0), s.1, s.2, s.3, s.4)

pub roomier : (arity m n : ℕ) (steps : List Step) (h : ℕ) → m ≤ n → AreSafe arity m steps h → AreSafe arity n steps h
roomier arity m n [] h le s = tt
roomier arity m n (i ∷ is) h le s = (roomier_step arity m n h i le s.0, roomier arity m n is (out_of i + 1) le s.1)

pub safe_within : (ty gives : List Width) (room : ℕ) (narrow : Bool) (steps : List Step) (e : List ℤ) (n : ℕ) → IsCompiled ty gives room narrow (built steps []) steps → Admits ty e → room ≤ n → AreSafe (length e) n steps 0
safe_within ty gives room narrow steps e n is admitted within = subst (λ m. AreSafe m n steps 0) (length-admitted ty e admitted) (roomier (length ty) room n steps 0 within is.safe)

-- what the steps do on an element
pub record Gives (gives : List Width) (steps : List Step) (e : List ℤ) : Type 0 where
  pub height : height_after steps 0 ≡ length gives
  pub value : run_in (numbers w128 e) steps [] ≡ values_of (built steps []) e
  pub fits : Admits gives (values_of (built steps []) e)

pub compiled_gives : (ty gives : List Width) (room : ℕ) (narrow : Bool) (steps : List Step) (e : List ℤ) → IsCompiled ty gives room narrow (built steps []) steps → Admits ty e → Gives gives steps e
compiled_gives ty gives room narrow steps e is admitted = record {
  height = is.height ∙ sym (as_many ty (built steps []) gives is.typed_as);
  value = run_exact w128 ty narrow (inl refl) e (λ _. admitted) steps [] is.exact;
  fits = values_admitted ty e (built steps []) gives admitted is.typed_as is.small;
}

-- ---- over columns

module _ (ty gives : List Width) (room : ℕ) (narrow : Bool) (steps : List Step) (is : IsCompiled ty gives room narrow (built steps []) steps) where
  pub safe_on : (arity n : ℕ) → arity ≡ length ty → room_of (built steps []) ≤ n → AreSafe arity n steps 0
  safe_on arity n same within =
      let r = is.room_is in
      subst (λ k. AreSafe k n steps 0) (sym same) (roomier (length ty) room n steps 0 (omega arith) is.safe)

  pub height_is : (top : ℕ) → top ≡ height_after steps 0 → top ≡ length gives
  height_is top h = h ∙ is.height ∙ sym (as_many ty (built steps []) gives is.typed_as)

  not_both : (b : Bool) → b ≡ true → b ≡ false → ⊥
  not_both b t f = cc

  pub narrow_gives : (e : List ℤ) → is_narrow ty (built steps []) ≡ true → run_in (numbers w64 e) steps [] ≡ values_of (built steps []) e
  narrow_gives e stays =
      let yes : narrow ≡ true = is.narrow_is ∙ stays in
      run_exact w64 ty narrow (inr yes) e (λ no. absurd (not_both narrow yes no)) steps [] is.exact

  pub wide_gives : (e : List ℤ) → Admits ty e → run_in (numbers w128 e) steps [] ≡ values_of (built steps []) e
  wide_gives e admitted = run_exact w128 ty narrow (inl refl) e (λ _. admitted) steps [] is.exact

  pub fits_gives : (e : List ℤ) → Admits ty e → Admits gives (values_of (built steps []) e)
  fits_gives e admitted = values_admitted ty e (built steps []) gives admitted is.typed_as is.small
