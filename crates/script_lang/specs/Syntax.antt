-- What lines say, as plain data: as they are written, and as they are meant.
use Rattle.std.specs.Prelude.{ℕ, ℤ, List, Option}
use Rattle.op_laws.specs.declared.width.Width.{Width}
use Rattle.scalar_expr.specs.Expr.{Expr}
use Rattle.script_words.specs.Lines.{Token}
use Rattle.script_words.specs.Functions.{Function}
use Rattle.script_lang.specs.declared.kind.Kind.{Kind}
use Rattle.script_lang.specs.declared.head.Head.{Head}
use Rattle.script_lang.specs.declared.op.Op.{Op}

-- what stands after the word of a skeleton
pub record Written : Type 0 where
  pub functions : List Function
  pub operators : List Token
  pub numbers : List ℤ
  pub arguments : List Token

-- a line as it is written; a print line has the column of its word `print`
pub data Form : Type 0 where
  input_form : (name : Token) (kind : Kind) (like : Option Token) → Form
  let_form : (name : Token) (head : Head) (written : Written) → Form
  print_form : (at : ℕ) (of : Token) → Form

-- what a name stands for. A matrix has one shape for its rows and one for its columns, `across`; what has no shape has 0.
pub record Binding : Type 0 where
  pub name : List ℕ
  pub kind : Kind
  pub ty : List Width
  pub shape : ℕ
  pub across : ℕ

-- a skeleton: its word, functions, operators and numbers, and the numbers of the lines that bind its arguments
pub record Skeleton : Type 0 where
  pub head : Head
  pub functions : List (List Expr)
  pub ops : List Op
  pub numbers : List ℤ
  pub arguments : List ℕ

-- a line as it is meant; lines are counted from 0, empty lines and comments aside
pub data Statement : Type 0 where
  binds_input : (bound : Binding) (like : Option ℕ) → Statement
  binds_let : (bound : Binding) (skeleton : Skeleton) → Statement
  prints : (of : ℕ) → Statement
