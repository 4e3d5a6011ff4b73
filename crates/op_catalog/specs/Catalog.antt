-- The list operators by name: what elements each takes, what it gives, and what it makes of a list.
use Rattle.std.specs.Prelude.{ℕ, Bool, true, false, ◌||◌, ℤ, List, [], ◌∷◌, Option, Some, Result, Ok, Err, find, codes, bytes_eq}
use Rattle.std.specs.Int.{w64, int_wrap}
use Rattle.op_laws.specs.declared.width.Width.{Width}
use Rattle.op_laws.specs.declared.width.Width.TheVariants.{W64, W96, W128}
use Rattle.op_catalog.specs.declared.list_op.ListOp.{ListOp}
use Rattle.op_catalog.specs.declared.list_op.ListOp.TheVariants.{Add, Mul, Min, Max, And, Or, Xor, Mss, Affine, First, Last}
use Rattle.op_catalog.specs.declared.takes.Takes.{Takes}
use Rattle.op_catalog.specs.declared.takes.Takes.TheVariants.{Sums, Numbers, Words, Pairs, All}
use Rattle.op_catalog.specs.declared.takes.OpFault.{OpFault}
use Rattle.op_catalog.specs.declared.takes.OpFault.TheVariants.{WrongArity, TooWide}
use Rattle.op_catalog.specs.Numbers.{numbers_of}
use Rattle.op_catalog.specs.Sums.{sum_of}
use Rattle.op_catalog.specs.Products.{product_of}
use Rattle.op_catalog.specs.Bounds.{bottom, top, least_of, greatest_of}
use Rattle.op_catalog.specs.Bits.{number_with, set_in_all, set_in_some, set_in_odd}
use Rattle.op_catalog.specs.Segments.{best_segment}
use Rattle.op_catalog.specs.Lines.{affine_of}
use Rattle.op_catalog.specs.Ends.{first_element, last_element}

-- ---- names

abbrev pub name_of : ListOp → List ℕ
name_of Add = codes "add"
name_of Mul = codes "mul"
name_of Min = codes "min"
name_of Max = codes "max"
name_of And = codes "and"
name_of Or = codes "or"
name_of Xor = codes "xor"
name_of Mss = codes "mss"
name_of Affine = codes "affine"
name_of First = codes "first"
name_of Last = codes "last"

abbrev pub list_ops : List ListOp
list_ops = Add ∷ Mul ∷ Min ∷ Max ∷ And ∷ Or ∷ Xor ∷ Mss ∷ Affine ∷ First ∷ Last ∷ []

-- the operator of this name
abbrev pub op_named : List ℕ → Option ListOp
op_named word = find (λ op. bytes_eq word (name_of op)) list_ops

-- ---- types

abbrev pub takes_of : ListOp → Takes
takes_of Add = Sums
takes_of Mul = Words
takes_of Min = Numbers
takes_of Max = Numbers
takes_of And = Words
takes_of Or = Words
takes_of Xor = Words
takes_of Mss = Sums
takes_of Affine = Pairs
takes_of First = All
takes_of Last = All

-- the result's type at an element's type, or what is at fault with it
abbrev pub typed_by : Takes → List Width → Result (List Width) OpFault
typed_by Sums (W64 ∷ []) = Ok (W96 ∷ [])
typed_by Sums (W96 ∷ []) = Ok (W128 ∷ [])
typed_by Sums (W128 ∷ []) = Err TooWide
typed_by Sums ty = Err WrongArity
typed_by Numbers (w ∷ []) = Ok (w ∷ [])
typed_by Numbers ty = Err WrongArity
typed_by Words (W64 ∷ []) = Ok (W64 ∷ [])
typed_by Words (w ∷ []) = Err TooWide
typed_by Words ty = Err WrongArity
typed_by Pairs (W64 ∷ W64 ∷ []) = Ok (W64 ∷ W64 ∷ [])
typed_by Pairs (v ∷ w ∷ []) = Err TooWide
typed_by Pairs ty = Err WrongArity
typed_by All ty = Ok ty

abbrev pub typed_of : ListOp → List Width → Result (List Width) OpFault
typed_of op ty = typed_by (takes_of op) ty

-- ---- units, and pairs that abide

-- it answers one of the elements
abbrev pub is_end : ListOp → Bool
is_end First = true
is_end Last = true
is_end op = false

-- the two are the same commutative operator
abbrev pub is_commutative_pair : ListOp → ListOp → Bool
is_commutative_pair Add Add = true
is_commutative_pair Mul Mul = true
is_commutative_pair Min Min = true
is_commutative_pair Max Max = true
is_commutative_pair And And = true
is_commutative_pair Or Or = true
is_commutative_pair Xor Xor = true
is_commutative_pair down across = false

-- joined downwards and across in either order, a matrix gives the same
abbrev pub abides : ListOp → ListOp → Bool
abides down across = is_end down || is_end across || is_commutative_pair down across

-- ---- reductions

-- the width of the first number
abbrev pub first_width : List Width → Width
first_width [] = W64
first_width (w ∷ ws) = w

-- what the operator makes of a list of elements of a type that it takes; nothing for no element, where it has no unit
abbrev pub reduction_of : ListOp → List Width → List (List ℤ) → Option (List ℤ)
reduction_of Add ty es = Some (sum_of (numbers_of es) ∷ [])
reduction_of Mul ty es = Some (int_wrap w64 (product_of (numbers_of es)) ∷ [])
reduction_of Min ty es = Some (least_of (top (first_width ty)) (numbers_of es) ∷ [])
reduction_of Max ty es = Some (greatest_of (bottom (first_width ty)) (numbers_of es) ∷ [])
reduction_of And ty es = Some (number_with (set_in_all (numbers_of es)) ∷ [])
reduction_of Or ty es = Some (number_with (set_in_some (numbers_of es)) ∷ [])
reduction_of Xor ty es = Some (number_with (set_in_odd (numbers_of es)) ∷ [])
reduction_of Mss ty es = Some (best_segment (numbers_of es) ∷ [])
reduction_of Affine ty es = Some (affine_of es)
reduction_of First ty es = first_element es
reduction_of Last ty es = last_element es
