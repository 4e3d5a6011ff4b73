-- What the skeletons of a group have in common.
use Rattle.std.proofs.Common.{◌≡◌, ℕ, Bool, true, false, List, [], ◌∷◌, refl, ap, ◌∙◌}
use Rattle.std.specs.Prelude.{if◌then◌else◌}
use Rattle.op_laws.specs.declared.width.Width.{Width}
use Rattle.script_lang.specs.declared.kind.Kind.{Kind}
use Rattle.script_lang.specs.declared.kind.Kind.TheVariants as kind
use Rattle.script_lang.specs.declared.head.FoldHead.{FoldHead}
use Rattle.script_lang.specs.declared.head.FoldHead.TheVariants as fold
use Rattle.script_lang.specs.declared.head.FlatHead.{FlatHead}
use Rattle.script_lang.specs.declared.head.FlatHead.TheVariants as flat
use Rattle.script_lang.specs.declared.head.BothHead.{BothHead}
use Rattle.script_lang.specs.declared.head.BothHead.TheVariants as both
use Rattle.script_lang.specs.declared.head.ChildHead.{ChildHead}
use Rattle.script_lang.specs.declared.head.ChildHead.TheVariants as child
use Rattle.script_lang.specs.declared.op.Op.{Op}
use Rattle.script_lang.specs.Groups.{fold_head, flat_head, both_head, child_head, is_flat_kind}
use Rattle.script_lang.specs.Tables.{takes_kind, is_dacc, has_unit, op_typed, second_governs, folded_type, single_type, type_given}
use Rattle.script_lang.specs.Steps.{Known, typed_at, type_at}

-- operators that don't come down

pub fold_up : (h : FoldHead) → is_dacc (fold_head h) ≡ false
fold_up fold.Reduce = refl
fold_up fold.Uacc = refl

pub flat_up : (h : FlatHead) → is_dacc (flat_head h) ≡ false
flat_up flat.Scan = refl
flat_up flat.Scanr = refl
flat_up flat.Rows = refl
flat_up flat.Cols = refl

pub both_up : (h : BothHead) → is_dacc (both_head h) ≡ false
both_up both.Reduce = refl
both_up both.Scan = refl

-- kinds

pub flat_kind : (h : FlatHead) (k : Kind) → takes_kind (flat_head h) 1 k ≡ true → is_flat_kind k ≡ true
flat_kind flat.Scan kind.Single e = refl
flat_kind flat.Scan kind.List e = refl
flat_kind flat.Scan kind.Matrix e = refl
flat_kind flat.Scan kind.Tree e = cc
flat_kind flat.Scan kind.Rose e = cc
flat_kind flat.Scanr kind.Single e = refl
flat_kind flat.Scanr kind.List e = refl
flat_kind flat.Scanr kind.Matrix e = refl
flat_kind flat.Scanr kind.Tree e = cc
flat_kind flat.Scanr kind.Rose e = cc
flat_kind flat.Rows kind.Single e = refl
flat_kind flat.Rows kind.List e = refl
flat_kind flat.Rows kind.Matrix e = refl
flat_kind flat.Rows kind.Tree e = cc
flat_kind flat.Rows kind.Rose e = cc
flat_kind flat.Cols kind.Single e = refl
flat_kind flat.Cols kind.List e = refl
flat_kind flat.Cols kind.Matrix e = refl
flat_kind flat.Cols kind.Tree e = cc
flat_kind flat.Cols kind.Rose e = cc

pub both_kind : (h : BothHead) (k : Kind) → takes_kind (both_head h) 2 k ≡ true → is_flat_kind k ≡ true
both_kind both.Reduce kind.Single e = refl
both_kind both.Reduce kind.List e = refl
both_kind both.Reduce kind.Matrix e = refl
both_kind both.Reduce kind.Tree e = cc
both_kind both.Reduce kind.Rose e = cc
both_kind both.Scan kind.Single e = refl
both_kind both.Scan kind.List e = refl
both_kind both.Scan kind.Matrix e = refl
both_kind both.Scan kind.Tree e = cc
both_kind both.Scan kind.Rose e = cc

-- types

pub fold_type : (h : FoldHead) (o : Op) (ty : List Width) → type_given (fold_head h) (o ∷ []) [] ty [] ≡ op_typed o ty
fold_type fold.Reduce o ty = refl
fold_type fold.Uacc o ty = refl

pub flat_type : (h : FlatHead) (o : Op) (ty : List Width) → type_given (flat_head h) (o ∷ []) [] ty [] ≡ op_typed o ty
flat_type flat.Scan o ty = refl
flat_type flat.Scanr o ty = refl
flat_type flat.Rows o ty = refl
flat_type flat.Cols o ty = refl

pub both_type : (h : BothHead) (down across : Op) (ty : List Width) → type_given (both_head h) (down ∷ across ∷ []) [] ty [] ≡ folded_type (down ∷ across ∷ []) ty
both_type both.Reduce down across ty = refl
both_type both.Scan down across ty = refl

-- the type by the one of two operators that governs
governed : (h : BothHead) (m n : ℕ) (down across : Op) (x : Known) → type_at (both_head h) (record { column = m; op = down } ∷ record { column = n; op = across } ∷ []) [] x []
    ≡ typed_at (if second_governs down across then n else m) (op_typed (if second_governs down across then across else down) x.bound.ty)
unfolding type_at
governed both.Reduce m n down across x = refl
governed both.Scan m n down across x = refl

pub second_typed : (h : BothHead) (m n : ℕ) (down across : Op) (x : Known) → second_governs down across ≡ true
    → type_at (both_head h) (record { column = m; op = down } ∷ record { column = n; op = across } ∷ []) [] x [] ≡ typed_at n (op_typed across x.bound.ty)
second_typed h m n down across x e = governed h m n down across x ∙ ap (λ (b : Bool). typed_at (if b then n else m) (op_typed (if b then across else down) x.bound.ty)) e

pub first_typed : (h : BothHead) (m n : ℕ) (down across : Op) (x : Known) → second_governs down across ≡ false
    → type_at (both_head h) (record { column = m; op = down } ∷ record { column = n; op = across } ∷ []) [] x [] ≡ typed_at m (op_typed down x.bound.ty)
first_typed h m n down across x e = governed h m n down across x ∙ ap (λ (b : Bool). typed_at (if b then n else m) (op_typed (if b then across else down) x.bound.ty)) e

pub child_type : (h : ChildHead) (ty : List Width) → type_given (child_head h) [] [] ty [] ≡ single_type ty
child_type child.Left ty = refl
child_type child.Right ty = refl

-- units

pub flat_unit : (h : FlatHead) (o : Op) (k : Kind) → has_unit (o ∷ []) (flat_head h) k ≡ true
flat_unit flat.Scan o k = refl
flat_unit flat.Scanr o k = refl
flat_unit flat.Rows o k = refl
flat_unit flat.Cols o k = refl
