-- Each name is that of one operator.
use Rattle.std.proofs.Common.{◌≡◌, ℕ, Bool, true, false, cond, List, [], ◌∷◌, Option, Some, IfSome, find, bytes_eq, refl, ap, sym, ◌∙◌}
use Rattle.std.proofs.lemmas.Slice.Eq.{bytes_eq-Decides}
use Rattle.op_catalog.specs.declared.list_op.ListOp.{ListOp}
use Rattle.op_catalog.specs.declared.list_op.ListOp.TheVariants.{Add, Mul, Min, Max, And, Or, Xor, Mss, Affine, First, Last}
use Rattle.op_catalog.specs.Catalog.{name_of, list_ops, op_named}
use Rattle.op_catalog.proofs.list_op.ListOp.of_name.Goals as goal

op_named-name_of : (op : ListOp) → op_named (name_of op) ≡ Some op
op_named-name_of Add = refl
op_named-name_of Mul = refl
op_named-name_of Min = refl
op_named-name_of Max = refl
op_named-name_of And = refl
op_named-name_of Or = refl
op_named-name_of Xor = refl
op_named-name_of Mss = refl
op_named-name_of Affine = refl
op_named-name_of First = refl
op_named-name_of Last = refl

one_row : (word : List ℕ) (op : ListOp) (rest : Option ListOp) (b : Bool) → (b ≡ true → word ≡ name_of op) → IfSome rest (λ op. name_of op ≡ word) → IfSome (cond b (Some op) rest) (λ op. name_of op ≡ word)
one_row word op rest true same later = sym (same refl)
one_row word op rest false same later = later

find_named : (word : List ℕ) (ops : List ListOp) → IfSome (find (λ op. bytes_eq word (name_of op)) ops) (λ op. name_of op ≡ word)
find_named word [] = tt
find_named word (op ∷ ops) =
    one_row word op (find (λ op. bytes_eq word (name_of op)) ops) (bytes_eq word (name_of op)) (bytes_eq-Decides word (name_of op)).0 (find_named word ops)

pub returns-clause-named : goal.returns-clause-named
returns-clause-named c = rw c.find_named.ensures (find_named c.args.word.now list_ops)

pub returns-clause-known : goal.returns-clause-known
returns-clause-known c = λ op same. c.find_named.ensures ∙ ap op_named (sym same) ∙ op_named-name_of op
