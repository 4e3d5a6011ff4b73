-- The type is the only one that the operator takes.
use Rattle.std.proofs.Common.{[], ◌∷◌, refl}
use Rattle.std.specs.Int.{w64, int_wrap}
use Rattle.op_laws.specs.declared.width.Width.TheVariants.{W64}
use Rattle.op_catalog.specs.declared.list_op.ListOp.TheVariants.{Mul, And, Or, Xor, Affine}
use Rattle.op_catalog.specs.Numbers.{numbers_of}
use Rattle.op_catalog.specs.Products.{product_of}
use Rattle.op_catalog.specs.Bits.{number_with, set_in_all, set_in_some, set_in_odd}
use Rattle.op_catalog.specs.Lines.{affine_of}
use Rattle.op_catalog.proofs.DispatchLemmas.{from_reduces, words_from, pairs_from}
use Rattle.op_catalog.proofs.list_monoid.ListMonoid.of.Goals as goal

pub returns-in-Mul : goal.returns-in-Mul
returns-in-Mul c =
    let typed = rw c.in-Mul.is at c.requires.typed in
    rw (c.in-Mul.is, words_from c.args.ty typed) (from_reduces Mul (W64 ∷ []) (λ es. int_wrap w64 (product_of (numbers_of es)) ∷ []) refl refl c.new.ensures (λ es. refl))

pub returns-in-And : goal.returns-in-And
returns-in-And c =
    let typed = rw c.in-And.is at c.requires.typed in
    rw (c.in-And.is, words_from c.args.ty typed) (from_reduces And (W64 ∷ []) (λ es. number_with (set_in_all (numbers_of es)) ∷ []) refl refl c.new-in-And.ensures.reduces (λ es. refl))

pub returns-in-Or : goal.returns-in-Or
returns-in-Or c =
    let typed = rw c.in-Or.is at c.requires.typed in
    rw (c.in-Or.is, words_from c.args.ty typed) (from_reduces Or (W64 ∷ []) (λ es. number_with (set_in_some (numbers_of es)) ∷ []) refl refl c.new-in-Or.ensures.reduces (λ es. refl))

pub returns-in-Xor : goal.returns-in-Xor
returns-in-Xor c =
    let typed = rw c.in-Xor.is at c.requires.typed in
    rw (c.in-Xor.is, words_from c.args.ty typed) (from_reduces Xor (W64 ∷ []) (λ es. number_with (set_in_odd (numbers_of es)) ∷ []) refl refl c.new-in-Xor.ensures.reduces (λ es. refl))

pub returns-in-Affine : goal.returns-in-Affine
returns-in-Affine c =
    let typed = rw c.in-Affine.is at c.requires.typed in
    rw (c.in-Affine.is, pairs_from c.args.ty typed) (from_reduces Affine (W64 ∷ W64 ∷ []) affine_of refl refl c.new-in-Affine.ensures (λ es. refl))
