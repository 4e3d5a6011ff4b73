-- What the lines of a typed script over lists have in common.
use Rattle.std.proofs.Common.{◌≡◌, ◌⊎◌, inl, inr, ℕ, zero, suc, ◌<◌, true, false, List, [], ◌∷◌, ◌++◌, length, take, Option, Some, None, Result, Ok, refl, sym, ap, ◌∙◌, arith}
use Rattle.std.specs.Prelude.{slice_get, option_map, option_and_then}
use Rattle.std.proofs.lemmas.Bool.{eqb-true}
use Rattle.op_laws.specs.declared.width.Width.{Width}
use Rattle.op_laws.specs.declared.width.Width.TheVariants.{W64}
use Rattle.script_lang.specs.declared.kind.Kind.{Kind}
use Rattle.script_lang.specs.declared.kind.Kind.TheVariants as kind
use Rattle.script_lang.specs.declared.head.Head.{Head}
use Rattle.script_lang.specs.declared.head.Head.TheVariants as head
use Rattle.script_lang.specs.declared.skel.Fold.TheVariants as fold
use Rattle.script_lang.specs.declared.skel.Skel.{Skel}
use Rattle.script_lang.specs.declared.skel.Skel.TheVariants as skel
use Rattle.script_lang.specs.declared.line.Line.{Line}
use Rattle.script_lang.specs.declared.line.Line.TheVariants as line
use Rattle.script_lang.specs.Syntax.{Binding, Skeleton, Statement, binds_input, binds_let, prints}
use Rattle.script_lang.specs.Steps.{bound_by}
use Rattle.script_lang.specs.Tables.{takes_kind, kind_given, joined_type}
use Rattle.script_lang.specs.Views.{statement_of, skeleton_of}
use Rattle.script_lang.specs.Sound.{binding_at, IsTypedOn}
use Rattle.script_run.specs.Pipes.{Finishes}

same_ok : {X E : Type 0} (x y : X) → ◌≡◌ {A = Result X E} (Ok x) (Ok y) → x ≡ y
same_ok x y e = cc

-- ---- lines

pub taken_at : {X : Type 0} (xs : List X) (n m : ℕ) → m < n → slice_get (take n xs) m ≡ slice_get xs m
taken_at xs zero m lt = let no : ⊥ = omega arith in absurd no
taken_at [] (suc n) m lt = refl
taken_at (x ∷ xs) (suc n) zero lt = refl
taken_at (x ∷ xs) (suc n) (suc m) lt = taken_at xs n m (omega arith)

pub within_take : {X : Type 0} (xs : List X) (n m : ℕ) (x : X) → slice_get (take n xs) m ≡ Some x → m < n
within_take xs zero m x e = cc
within_take [] (suc n) m x e = cc
within_take (y ∷ xs) (suc n) zero x e = omega arith
within_take (y ∷ xs) (suc n) (suc m) x e = let lt = within_take xs n m x e in omega arith

-- what an earlier line binds
bound_in : (o : Option Statement) (x : Binding) → option_and_then bound_by o ≡ Some x → (l : Statement) × (o ≡ Some l)
bound_in None x e = cc
bound_in (Some l) x e = (l, refl)

pub bound_above : (lines : List Statement) (n a : ℕ) (x : Binding) → binding_at (take n lines) a ≡ Some x → (a < n) × (binding_at lines a ≡ Some x)
bound_above lines n a x e =
    let l = bound_in (slice_get (take n lines) a) x e in
    let lt = within_take lines n a l.0 l.1 in
    (lt, ap (λ (o : Option Statement). option_and_then bound_by o) (sym (taken_at lines n a lt)) ∙ e)

-- a line that binds a name is an input or a let line
pub is_bound : (o : Option Statement) (x : Binding) → option_and_then bound_by o ≡ Some x
    → ((like : Option ℕ) × (o ≡ Some (binds_input x like))) ⊎ ((s : Skeleton) × (o ≡ Some (binds_let x s)))
is_bound None x e = cc
is_bound (Some (binds_input b like)) x e = let same : b ≡ x = cc in inl (like, ap (λ (y : Binding). Some (binds_input y like)) same)
is_bound (Some (binds_let b s)) x e = let same : b ≡ x = cc in inr (s, ap (λ (y : Binding). Some (binds_let y s)) same)
is_bound (Some (prints n)) x e = cc

-- the skeleton of a let line is one of the code's
pub skel_in : (o : Option Line) (b : Binding) (s : Skeleton) → option_map statement_of o ≡ Some (binds_let b s) → (sk : Skel) × (skeleton_of sk ≡ s)
skel_in None b s e = cc
skel_in (Some (line.Input bd like)) b s e = cc
skel_in (Some (line.Let bd sk)) b s e = (sk, cc)
skel_in (Some (line.Print n)) b s e = cc

-- ---- kinds

pub single_untaken : (sk : Skel) → takes_kind (skeleton_of sk).head (length (skeleton_of sk).ops) kind.Single ≡ true → ⊥
single_untaken (skel.Map f x) e = cc
single_untaken (skel.Mapln f g x) e = cc
single_untaken (skel.Zip x y) e = cc
single_untaken (skel.Filter f x) e = cc
single_untaken (skel.Rev x) e = cc
single_untaken (skel.Iota x) e = cc
single_untaken (skel.Plain x) e = cc
single_untaken (skel.Reduce o x) e = cc
single_untaken (skel.ReduceBoth o p x) e = cc
single_untaken (skel.Scan o x) e = cc
single_untaken (skel.Scanr o x) e = cc
single_untaken (skel.ScanBoth o p x) e = cc
single_untaken (skel.Rows o x) e = cc
single_untaken (skel.Cols o x) e = cc
single_untaken (skel.Transpose x) e = cc
single_untaken (skel.Uacc o x) e = cc
single_untaken (skel.Dacc o n x) e = cc
single_untaken (skel.Getchl n x) e = cc
single_untaken (skel.Getchr n x) e = cc

abbrev pub IsFlat : Kind → Type 0
IsFlat k = (k ≡ kind.List) ⊎ (k ≡ kind.Single)

pub flat_given : (sk : Skel) → IsFlat (kind_given (skeleton_of sk).head kind.List)
flat_given (skel.Map f x) = inl refl
flat_given (skel.Mapln f g x) = inl refl
flat_given (skel.Zip x y) = inl refl
flat_given (skel.Filter f x) = inl refl
flat_given (skel.Rev x) = inl refl
flat_given (skel.Iota x) = inl refl
flat_given (skel.Plain x) = inl refl
flat_given (skel.Reduce o x) = inr refl
flat_given (skel.ReduceBoth o p x) = inr refl
flat_given (skel.Scan o x) = inl refl
flat_given (skel.Scanr o x) = inl refl
flat_given (skel.ScanBoth o p x) = inl refl
flat_given (skel.Rows o x) = inl refl
flat_given (skel.Cols o x) = inl refl
flat_given (skel.Transpose x) = inl refl
flat_given (skel.Uacc o x) = inl refl
flat_given (skel.Dacc o n x) = inl refl
flat_given (skel.Getchl n x) = inl refl
flat_given (skel.Getchr n x) = inl refl

-- ---- types

-- the type of what a skeleton's pipe begins with
abbrev pub entered_type : Head → Binding → List Binding → List Width
entered_type head.Zip x (y ∷ ys) = x.ty ++ y.ty
entered_type head.Iota x ys = W64 ∷ []
entered_type h x ys = x.ty

paired_type : (x b : Binding) (ys : List Binding) → joined_type x.ty ys ≡ b.ty → b.ty ≡ entered_type head.Zip x ys
paired_type x b [] e = sym e
paired_type x b (y ∷ ys) e = sym e

-- a skeleton on a list is one over lists, and gives the type of what its line binds
module _ (n : ℕ) (b x : Binding) (ys : List Binding) (k : x.kind ≡ kind.List) where
  untaken : (s : Skeleton) (ts : List (List Width)) → takes_kind s.head (length s.ops) kind.List ≡ false → IsTypedOn n b s x ys ts → ⊥
  untaken s ts not_taken t = let taken : takes_kind s.head (length s.ops) kind.List ≡ true = rw k at t.taken in cc

  pub finishes : (sk : Skel) (ts : List (List Width)) → IsTypedOn n b (skeleton_of sk) x ys ts
      → Finishes (skeleton_of sk).head (skeleton_of sk).functions (skeleton_of sk).ops (entered_type (skeleton_of sk).head x ys) b.ty
  finishes (skel.Map f a) [] t = absurd t.functions
  finishes (skel.Map f a) (u ∷ []) t = t.functions.0 ∙ ap (λ (w : List Width). Ok w) (same_ok u b.ty t.type)
  finishes (skel.Map f a) (u ∷ v ∷ us) t = absurd t.functions.1
  finishes (skel.Filter f a) [] t = absurd t.functions
  finishes (skel.Filter f a) (u ∷ []) t = (record { gives = u; typed_as = t.functions.0; single = eqb-true (length u) 1 t.components }, sym (same_ok x.ty b.ty t.type))
  finishes (skel.Filter f a) (u ∷ v ∷ us) t = absurd t.functions.1
  finishes (skel.Zip a c) ts t = paired_type x b ys (same_ok (joined_type x.ty ys) b.ty t.type)
  finishes (skel.Rev a) ts t = sym (same_ok x.ty b.ty t.type)
  finishes (skel.Iota a) ts t = sym (same_ok (W64 ∷ []) b.ty t.type)
  finishes (skel.Plain a) ts t = sym (same_ok x.ty b.ty t.type)
  finishes (skel.Reduce (fold.Flat o) a) ts t = (t.type, rw k at t.unit)
  finishes (skel.Reduce (fold.Up o) a) ts t = let no = rw k at t.operators.0 in cc
  finishes (skel.Reduce (fold.Rose o) a) ts t = let no = rw k at t.operators.0 in cc
  finishes (skel.Scan o a) ts t = t.type
  finishes (skel.Scanr o a) ts t = t.type
  finishes (skel.ReduceBoth o p a) ts t = absurd (untaken (skeleton_of (skel.ReduceBoth o p a)) ts refl t)
  finishes (skel.ScanBoth o p a) ts t = absurd (untaken (skeleton_of (skel.ScanBoth o p a)) ts refl t)
  finishes (skel.Mapln f g a) ts t = absurd (untaken (skeleton_of (skel.Mapln f g a)) ts refl t)
  finishes (skel.Rows o a) ts t = absurd (untaken (skeleton_of (skel.Rows o a)) ts refl t)
  finishes (skel.Cols o a) ts t = absurd (untaken (skeleton_of (skel.Cols o a)) ts refl t)
  finishes (skel.Transpose a) ts t = absurd (untaken (skeleton_of (skel.Transpose a)) ts refl t)
  finishes (skel.Uacc o a) ts t = absurd (untaken (skeleton_of (skel.Uacc o a)) ts refl t)
  finishes (skel.Dacc o m a) ts t = absurd (untaken (skeleton_of (skel.Dacc o m a)) ts refl t)
  finishes (skel.Getchl m a) ts t = absurd (untaken (skeleton_of (skel.Getchl m a)) ts refl t)
  finishes (skel.Getchr m a) ts t = absurd (untaken (skeleton_of (skel.Getchr m a)) ts refl t)
