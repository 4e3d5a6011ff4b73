-- An operator whose finished fold is what the definition of a name says is the operator of that name.
use Rattle.std.proofs.Common.{◌≡◌, ℤ, List, [], ◌∷◌, Some, Ok, IsOk, refl, ap, sym, ◌∙◌}
use Rattle.std.proofs.lemmas.List.Elements.{All-nil}
use Rattle.op_laws.specs.declared.width.Width.{Width}
use Rattle.op_laws.specs.declared.width.Width.TheVariants.{W64, W96, W128}
use Rattle.op_laws.specs.Admits.{Admits}
use Rattle.std.specs.List.{All}
use Rattle.op_laws.specs.Folds.{fold_or, Reduces}
use Rattle.op_catalog.specs.declared.list_op.ListOp.{ListOp}
use Rattle.op_catalog.specs.declared.takes.Takes.TheVariants.{Words, Pairs}
use Rattle.op_catalog.specs.Catalog.{typed_by, typed_of, reduction_of}
use Rattle.op_catalog.specs.Operators.{IsMonoidOf}

pub from_reduces : {C : Type 0} {takes : List Width → Type 0} {gives : List Width → List Width} {finished : C → List ℤ} {nothing : C} {lifted : List ℤ → C} {combined : C → C → C}
    (name : ListOp) (ty : List Width) (value : List (List ℤ) → List ℤ) → takes ty → typed_of name ty ≡ Ok (gives ty) → Reduces takes finished nothing lifted combined value
    → ((es : List (List ℤ)) → reduction_of name ty es ≡ Some (value es)) → IsMonoidOf takes gives finished nothing lifted combined name ty
from_reduces name ty value taken typed reduces same = record {
  operator = record {
    taken = taken;
    typed = typed;
    reduces = λ e es all. same (e ∷ es) ∙ ap Some (sym (reduces.whole ty (e ∷ es) taken all));
  };
  none = same [] ∙ ap Some (sym (reduces.whole ty [] taken (All-nil (Admits ty))));
}

-- the one type of one number of w64
pub words_from : (ty : List Width) → IsOk (typed_by Words ty) → ty ≡ W64 ∷ []
words_from [] typed = absurd cc
words_from (W64 ∷ []) typed = refl
words_from (W96 ∷ []) typed = absurd cc
words_from (W128 ∷ []) typed = absurd cc
words_from (W64 ∷ w ∷ ws) typed = absurd cc
words_from (W96 ∷ w ∷ ws) typed = absurd cc
words_from (W128 ∷ w ∷ ws) typed = absurd cc

-- the one type of two numbers of w64
pub pairs_from : (ty : List Width) → IsOk (typed_by Pairs ty) → ty ≡ W64 ∷ W64 ∷ []
pairs_from [] typed = absurd cc
pairs_from (W64 ∷ []) typed = absurd cc
pairs_from (W96 ∷ []) typed = absurd cc
pairs_from (W128 ∷ []) typed = absurd cc
pairs_from (W64 ∷ W64 ∷ []) typed = refl
pairs_from (W64 ∷ W96 ∷ []) typed = absurd cc
pairs_from (W64 ∷ W128 ∷ []) typed = absurd cc
pairs_from (W96 ∷ w ∷ []) typed = absurd cc
pairs_from (W128 ∷ w ∷ []) typed = absurd cc
pairs_from (W64 ∷ W64 ∷ v ∷ ws) typed = absurd cc
pairs_from (W64 ∷ W96 ∷ v ∷ ws) typed = absurd cc
pairs_from (W64 ∷ W128 ∷ v ∷ ws) typed = absurd cc
pairs_from (W96 ∷ w ∷ v ∷ ws) typed = absurd cc
pairs_from (W128 ∷ w ∷ v ∷ ws) typed = absurd cc

-- what the operator of a name makes of a list, by its finished fold
pub reduction-fold_or : {C : Type 0} {takes : List Width → Type 0} {gives : List Width → List Width} {finished : C → List ℤ} {nothing : C} {lifted : List ℤ → C} {combined : C → C → C}
    (name : ListOp) (ty : List Width) → IsMonoidOf takes gives finished nothing lifted combined name ty → (es : List (List ℤ)) → All (Admits ty) es
    → reduction_of name ty es ≡ Some (finished (fold_or nothing lifted combined es))
reduction-fold_or name ty operator [] all = operator.none
reduction-fold_or name ty operator (e ∷ es) all = operator.operator.reduces e es all
