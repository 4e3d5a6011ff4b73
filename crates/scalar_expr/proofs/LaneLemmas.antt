-- Loops over columns, and steps on a stack of columns.
use Rattle.std.proofs.Common.{◌≡◌, ◌≢◌, ℕ, ◌+◌, ◌-◌, ◌<◌, ◌≤◌, ℤ, pos, List, [], ◌∷◌, ◌++◌, length, map, take, drop, set, get_or, refl, ap, sym, subst, ◌∙◌, arith, below_more, get_or-set_other, get_or-set_same}
use Rattle.std.proofs.lemmas.List.{length-set, take_all, take_at, take-take, take-append-le, take-map, take_more_set, map-append, get_or-take, get_or_append_left, get_or-append_right}
use mir.Syntax.{Width as Size}
use Rattle.scalar_expr.specs.declared.step.Operand.{Operand}
use Rattle.scalar_expr.specs.declared.step.Operand.TheVariants.{Part, Const, Place}
use Rattle.scalar_expr.specs.declared.step.Calc.{Calc}
use Rattle.scalar_expr.specs.Values.{chosen}
use Rattle.scalar_expr.specs.Steps.{made, put, operand_in, numbers, IsFound}
use Rattle.scalar_expr.specs.Lanes.{row_at}
use Rattle.scalar_expr.proofs.Exactness.{get_or-map-same}

-- ---- a loop that writes a column

-- the first numbers are written, and the others are what they were
pub record IsWritten (before : List ℤ) (value : ℕ → ℤ) (out : List ℤ) (i : ℕ) : Type 0 where
  pub long : length out ≡ 256
  pub done : (j : ℕ) → j < i → get_or out j (pos 0) ≡ value j
  pub rest : (j : ℕ) → i ≤ j → get_or out j (pos 0) ≡ get_or before j (pos 0)

pub write_next : (before : List ℤ) (value : ℕ → ℤ) (out : List ℤ) (i : ℕ) (v : ℤ) → i < 256 → length out ≡ 256 → ((j : ℕ) → j < i → get_or out j (pos 0) ≡ value j)
    → ((j : ℕ) → i ≤ j → get_or out j (pos 0) ≡ get_or before j (pos 0)) → v ≡ value i → IsWritten before value (set out i v) (i + 1)
write_next before value out i v within long done rest is =
    let lt : i < length out = omega arith in
    record {
      long = length-set out i v ∙ long;
      done = below_more _ _ (λ j h. let ne : j ≢ i = omega arith in get_or-set_other out i j v (pos 0) ne ∙ done j h) (get_or-set_same out i v (pos 0) lt ∙ is);
      rest = λ j h. let ne : j ≢ i = omega arith in get_or-set_other out i j v (pos 0) ne ∙ rest j (omega arith);
    }

-- ---- the stack

-- a number of a row stands in its column
pub row_get : (columns : List (List ℤ)) (j k : ℕ) → get_or (row_at columns j) k (pos 0) ≡ get_or (get_or columns k []) j (pos 0)
row_get columns j k = get_or-map-same (λ c. get_or c j (pos 0)) columns k []

-- a column above the one at `out`
pub place_above : (low above : List (List ℤ)) (out k j : ℕ) → length low ≡ out + 1 → out < k → get_or (get_or above (k - out - 1) []) j (pos 0) ≡ get_or (row_at (low ++ above) j) k (pos 0)
place_above low above out k j long lt =
    let same : k - out - 1 ≡ k - (out + 1) = omega arith in
    ap (λ n. get_or (get_or above n []) j (pos 0)) same
    ∙ sym (row_get (low ++ above) j k ∙ ap (λ c. get_or c j (pos 0)) (get_or-append_right low above (out + 1) k [] long (omega arith)))

-- the column at `out`
pub place_held : (low above : List (List ℤ)) (out j : ℕ) → length low ≡ out + 1 → get_or (get_or low out []) j (pos 0) ≡ get_or (row_at (low ++ above) j) out (pos 0)
place_held low above out j long = sym (row_get (low ++ above) j out ∙ ap (λ c. get_or c j (pos 0)) (get_or_append_left low above [] out (omega arith)))

operand_taken : (w : Size) (e : List ℤ) (stack : List (List ℤ)) (arity out top j : ℕ) (o : Operand) → IsFound arity out top o
    → operand_in (numbers w e) (row_at stack j) o ≡ operand_in (numbers w e) (row_at (take top stack) j) o
operand_taken w e stack arity out top j (Part i) f = refl
operand_taken w e stack arity out top j (Const n) f = refl
operand_taken w e stack arity out top j (Place k) f =
    row_get stack j k ∙ ap (λ c. get_or c j (pos 0)) (sym (get_or-take top stack k [] f.1)) ∙ sym (row_get (take top stack) j k)

-- a column that is written at `out`, as the top of the stack
put_column : (stack low above : List (List ℤ)) (column : List ℤ) (out top j : ℕ) (v : ℤ) → stack ≡ low ++ above → length low ≡ out + 1 → out ≤ top → get_or column j (pos 0) ≡ v
    → row_at (take (out + 1) (set low out column ++ above)) j ≡ put out v (row_at (take top stack) j)
put_column stack low above column out top j v parts long le is =
    let written : length (set low out column) ≡ out + 1 = length-set low out column ∙ long in
    let front : take out stack ≡ take out low = ap (take out) parts ∙ take-append-le out low above (omega arith) in
    ap (λ s. row_at s j)
    (take_at (set low out column) above (out + 1) written
    ∙ sym (take_all (out + 1) (set low out column) (omega arith)) ∙ take_more_set low out column (omega arith) ∙ ap (λ r. r ++ column ∷ []) (sym front ∙ sym (take-take out top stack le)))
    ∙ map-append (λ c. get_or c j (pos 0)) (take out (take top stack)) (column ∷ [])
    ∙ ap (λ r. r ++ get_or column j (pos 0) ∷ []) (sym (take-map (λ c. get_or c j (pos 0)) out (take top stack)))
    ∙ ap (λ x. put out x (row_at (take top stack) j)) is

module _ (w : Size) (e : List ℤ) (stack low above : List (List ℤ)) (column : List ℤ) (arity out top j : ℕ) (parts : stack ≡ low ++ above) (long : length low ≡ out + 1) (le : out ≤ top) where
  at_top : (o : Operand) (x : ℤ) → IsFound arity out top o → x ≡ operand_in (numbers w e) (row_at (low ++ above) j) o → x ≡ operand_in (numbers w e) (row_at (take top stack) j) o
  at_top o x f is = is ∙ ap (λ s. operand_in (numbers w e) (row_at s j) o) (sym parts) ∙ operand_taken w e stack arity out top j o f

  pub two_taken : (op : Calc) (a b : Operand) (x y : ℤ) → IsFound arity out top a → IsFound arity out top b
      → x ≡ operand_in (numbers w e) (row_at (low ++ above) j) a → y ≡ operand_in (numbers w e) (row_at (low ++ above) j) b → get_or column j (pos 0) ≡ made w op x y
      → row_at (take (out + 1) (set low out column ++ above)) j
      ≡ put out (made w op (operand_in (numbers w e) (row_at (take top stack) j) a) (operand_in (numbers w e) (row_at (take top stack) j) b)) (row_at (take top stack) j)
  two_taken op a b x y fa fb ix iy is =
      put_column stack low above column out top j _ parts long le
      (is ∙ ap (λ u. made w op u y) (at_top a x fa ix) ∙ ap (λ u. made w op (operand_in (numbers w e) (row_at (take top stack) j) a) u) (at_top b y fb iy))

  pub three_taken : (c a b : Operand) (z x y : ℤ) → IsFound arity out top c → IsFound arity out top a → IsFound arity out top b
      → z ≡ operand_in (numbers w e) (row_at (low ++ above) j) c → x ≡ operand_in (numbers w e) (row_at (low ++ above) j) a → y ≡ operand_in (numbers w e) (row_at (low ++ above) j) b
      → get_or column j (pos 0) ≡ chosen z x y
      → row_at (take (out + 1) (set low out column ++ above)) j
      ≡ put out (chosen (operand_in (numbers w e) (row_at (take top stack) j) c) (operand_in (numbers w e) (row_at (take top stack) j) a) (operand_in (numbers w e) (row_at (take top stack) j) b))
      (row_at (take top stack) j)
  three_taken c a b z x y fc fa fb iz ix iy is =
      put_column stack low above column out top j _ parts long le
      (is ∙ ap (λ u. chosen u x y) (at_top c z fc iz) ∙ ap (λ u. chosen (operand_in (numbers w e) (row_at (take top stack) j) c) u y) (at_top a x fa ix)
      ∙ ap (λ u. chosen (operand_in (numbers w e) (row_at (take top stack) j) c) (operand_in (numbers w e) (row_at (take top stack) j) a) u) (at_top b y fb iy))
