-- Which operator on matrices joins downwards and across by two operators on lists.
use Rattle.std.specs.Prelude.{◌≡◌, not, List, IsTrue, IsOk}
use Rattle.op_laws.specs.declared.width.Width.{Width}
use Rattle.op_catalog.specs.declared.list_op.ListOp.{ListOp}
use Rattle.op_catalog.specs.declared.list_op.ListOp.TheVariants.{First, Last}
use Rattle.op_catalog.specs.Catalog.{typed_of, is_end, is_commutative_pair}
use Rattle.matrix_catalog.specs.declared.shape.End.{End}
use Rattle.matrix_catalog.specs.declared.shape.End.TheVariants as end
use Rattle.matrix_catalog.specs.declared.shape.Shape.{Shape}
use Rattle.matrix_catalog.specs.declared.shape.Shape.TheVariants as is
use Rattle.matrix_catalog.specs.Pairs.{part_of}

-- the operand that is answered, and the way, are those of the names
abbrev pub IsEnd : End → ListOp → ListOp → Type 0
IsEnd end.FirstDown down across = down ≡ First
IsEnd end.LastDown down across = down ≡ Last
IsEnd end.FirstAcross down across = IsTrue (not (is_end down)) × (across ≡ First)
IsEnd end.LastAcross down across = IsTrue (not (is_end down)) × (across ≡ Last)

-- and the operator on lists that joins takes the type
abbrev pub IsShape : Shape → ListOp → ListOp → List Width → Type 0
IsShape is.Same down across ty = IsTrue (is_commutative_pair down across) × IsOk (typed_of down ty)
IsShape (is.End e) down across ty = IsEnd e down across × IsOk (typed_of (part_of down across) ty)
