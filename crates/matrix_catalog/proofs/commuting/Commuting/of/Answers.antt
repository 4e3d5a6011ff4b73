-- The type is the only one that the operator takes.
use Rattle.std.proofs.Common.{[], ◌∷◌, refl}
use Rattle.std.specs.Int.{w64, int_wrap}
use Rattle.op_laws.specs.declared.width.Width.TheVariants.{W64}
use Rattle.op_catalog.specs.declared.list_op.ListOp.TheVariants.{Mul, And, Or, Xor}
use Rattle.op_catalog.specs.Numbers.{numbers_of}
use Rattle.op_catalog.specs.Products.{product_of}
use Rattle.op_catalog.specs.Bits.{number_with, set_in_all, set_in_some, set_in_odd}
use Rattle.op_catalog.proofs.DispatchLemmas.{from_reduces, words_from}
use Rattle.matrix_catalog.proofs.CommutingLemmas.{own_results}
use Rattle.matrix_catalog.proofs.commuting.Commuting.of.Goals as goal

pub returns-in-Mul-Mul : goal.returns-in-Mul-Mul
returns-in-Mul-Mul c =
    let typed = rw c.in-Mul-Mul.is-0 at c.requires.typed in
    rw (c.in-Mul-Mul.is-0, c.in-Mul-Mul.is-1, words_from c.args.ty typed) (own_results Mul (W64 ∷ []) (from_reduces Mul (W64 ∷ []) (λ es. int_wrap w64 (product_of (numbers_of es)) ∷ []) refl refl c.new.ensures (λ es. refl)))

pub returns-in-And-And : goal.returns-in-And-And
returns-in-And-And c =
    let typed = rw c.in-And-And.is-0 at c.requires.typed in
    rw (c.in-And-And.is-0, c.in-And-And.is-1, words_from c.args.ty typed) (own_results And (W64 ∷ []) (from_reduces And (W64 ∷ []) (λ es. number_with (set_in_all (numbers_of es)) ∷ []) refl refl c.new-in-And-And.ensures.reduces (λ es. refl)))

pub returns-in-Or-Or : goal.returns-in-Or-Or
returns-in-Or-Or c =
    let typed = rw c.in-Or-Or.is-0 at c.requires.typed in
    rw (c.in-Or-Or.is-0, c.in-Or-Or.is-1, words_from c.args.ty typed) (own_results Or (W64 ∷ []) (from_reduces Or (W64 ∷ []) (λ es. number_with (set_in_some (numbers_of es)) ∷ []) refl refl c.new-in-Or-Or.ensures.reduces (λ es. refl)))

pub returns-in-Xor-Xor : goal.returns-in-Xor-Xor
returns-in-Xor-Xor c =
    let typed = rw c.in-Xor-Xor.is-0 at c.requires.typed in
    rw (c.in-Xor-Xor.is-0, c.in-Xor-Xor.is-1, words_from c.args.ty typed) (own_results Xor (W64 ∷ []) (from_reduces Xor (W64 ∷ []) (λ es. number_with (set_in_odd (numbers_of es)) ∷ []) refl refl c.new-in-Xor-Xor.ensures.reduces (λ es. refl)))
