-- The values of a typed script over lists are lists of the types that the lines have.
use Rattle.std.proofs.Common.{◌≡◌, inl, inr, ℕ, zero, suc, ◌<◌, true, false, List, [], ◌∷◌, map, length, take, Option, Some, refl, sym, ap, ◌∙◌, subst, arith}
use Rattle.std.specs.Prelude.{slice_get}
use Rattle.std.proofs.lemmas.Option.{slice_get-map}
use Rattle.op_laws.specs.declared.width.Width.{Width}
use Rattle.op_laws.specs.declared.width.Width.TheVariants.{W64}
use Rattle.op_laws.specs.Elements.{Elements, singles}
use Rattle.data_text.specs.declared.value.Value.{Value}
use Rattle.data_text.specs.declared.value.Value.TheVariants as value
use Rattle.data_text.specs.Data.{Section}
use Rattle.script_lang.specs.declared.kind.Kind.{Kind}
use Rattle.script_lang.specs.declared.kind.Kind.TheVariants as kind
use Rattle.script_lang.specs.declared.head.Head.{Head}
use Rattle.script_lang.specs.declared.head.Head.TheVariants as head
use Rattle.script_lang.specs.declared.skel.Skel.{Skel}
use Rattle.script_lang.specs.declared.skel.Skel.TheVariants as skel
use Rattle.script_lang.specs.declared.line.Line.{Line}
use Rattle.script_lang.specs.Syntax.{Binding, Skeleton, Statement, binds_input, binds_let}
use Rattle.script_lang.specs.Tables.{same_kind, kind_given}
use Rattle.script_lang.specs.Views.{statement_of, skeleton_of}
use Rattle.script_lang.specs.Sound.{binding_at, AreBound, AreAlike, IsTypedOn, IsTypedScript, AreSmall, AreSmallLines}
use Rattle.fuse_rewrite.specs.Meaning.{Values, items_made, value_made, values_of_script, list_at, makes_element}
use Rattle.script_run.specs.Fits.{FitsLists}
use Rattle.script_run.specs.Pipes.{entered, entered_on, Finishes, value_finished}
use Rattle.script_run.proofs.ValueLemmas.{value_at, earlier_at}
use Rattle.script_run.proofs.TypedLemmas.{IsFlat, flat_given, single_untaken, is_bound, skel_in, bound_above, entered_type, finishes}
use Rattle.script_run.proofs.ChainLemmas.{AreEnough, made-finished, IsMeant, AreMeant}

pub list_kind : (k : Kind) → same_kind k kind.List ≡ true → k ≡ kind.List
list_kind kind.List e = refl
list_kind kind.Single e = cc
list_kind kind.Matrix e = cc
list_kind kind.Tree e = cc
list_kind kind.Rose e = cc

-- what is known of a let line by its type
pub record IsLetLine (lines : List Statement) (n : ℕ) (b : Binding) (s : Skeleton) : Type 0 where
  pub x : Binding
  pub ys : List Binding
  pub ts : List (List Width)
  pub bound : AreBound (take n lines) s.arguments (x ∷ ys)
  pub on : IsTypedOn (length (take n lines)) b s x ys ts

first_bound : (before : List Statement) (args : List ℕ) (y : Binding) (ys : List Binding) → AreBound before args (y ∷ ys) → (a : ℕ) × (binding_at before a ≡ Some y)
first_bound before [] y ys are = absurd are
first_bound before (a ∷ rest) y ys are = (a, are.0)

makes_list : (sk : Skel) (gives : kind_given (skeleton_of sk).head kind.List ≡ kind.List) → makes_element (skeleton_of sk).head ≡ false
makes_list (skel.Map f x) e = refl
makes_list (skel.Mapln f g x) e = refl
makes_list (skel.Zip x y) e = refl
makes_list (skel.Filter f x) e = refl
makes_list (skel.Rev x) e = refl
makes_list (skel.Iota x) e = refl
makes_list (skel.Plain x) e = refl
makes_list (skel.Reduce o x) e = cc
makes_list (skel.ReduceBoth o p x) e = cc
makes_list (skel.Scan o x) e = refl
makes_list (skel.Scanr o x) e = refl
makes_list (skel.ScanBoth o p x) e = refl
makes_list (skel.Rows o x) e = refl
makes_list (skel.Cols o x) e = refl
makes_list (skel.Transpose x) e = refl
makes_list (skel.Uacc o x) e = refl
makes_list (skel.Dacc o n x) e = refl
makes_list (skel.Getchl n x) e = refl
makes_list (skel.Getchr n x) e = refl

enough : (sk : Skel) (before : List Statement) (x : Binding) (ys : List Binding) (lists : ℕ → Elements) → AreBound before (skeleton_of sk).arguments (x ∷ ys)
    → (a : ℕ) × (rest : List ℕ) × ((skeleton_of sk).arguments ≡ a ∷ rest) × AreEnough (skeleton_of sk).head (map lists rest)
enough (skel.Map f a) before x ys lists are = (a, [], refl, tt)
enough (skel.Mapln f g a) before x ys lists are = (a, [], refl, tt)
enough (skel.Zip a c) before x ys lists are = (a, c ∷ [], refl, tt)
enough (skel.Filter f a) before x ys lists are = (a, [], refl, tt)
enough (skel.Rev a) before x ys lists are = (a, [], refl, tt)
enough (skel.Iota a) before x ys lists are = (a, [], refl, tt)
enough (skel.Plain a) before x ys lists are = (a, [], refl, tt)
enough (skel.Reduce o a) before x ys lists are = (a, [], refl, tt)
enough (skel.ReduceBoth o p a) before x ys lists are = (a, [], refl, tt)
enough (skel.Scan o a) before x ys lists are = (a, [], refl, tt)
enough (skel.Scanr o a) before x ys lists are = (a, [], refl, tt)
enough (skel.ScanBoth o p a) before x ys lists are = (a, [], refl, tt)
enough (skel.Rows o a) before x ys lists are = (a, [], refl, tt)
enough (skel.Cols o a) before x ys lists are = (a, [], refl, tt)
enough (skel.Transpose a) before x ys lists are = (a, [], refl, tt)
enough (skel.Uacc o a) before x ys lists are = (a, [], refl, tt)
enough (skel.Dacc o m a) before x ys lists are = (a, [], refl, tt)
enough (skel.Getchl m a) before x ys lists are = (a, [], refl, tt)
enough (skel.Getchr m a) before x ys lists are = (a, [], refl, tt)

made_list : (b : Binding) (s : Skeleton) (x : Elements) (ys : List Elements) → makes_element s.head ≡ false
    → (z : Elements) × (value_made b s (x ∷ ys) ≡ value.List z) × (z.ty ≡ b.ty)
made_list b s x ys e = (record { ty = b.ty; items = items_made s.head s.functions s.ops x ys }, rw e refl, refl)

module _ (ls : List Line) (sections : List Section) (typed : IsTypedScript (map statement_of ls)) (fits : FitsLists (map statement_of ls) sections) where
  abbrev lines : List Statement
  lines = map statement_of ls

  abbrev values : Values
  values = values_of_script sections lines

  pub let_line : (n : ℕ) (b : Binding) (s : Skeleton) → slice_get lines n ≡ Some (binds_let b s) → (sk : Skel) × (skeleton_of sk ≡ s) × IsLetLine lines n b (skeleton_of sk)
  let_line n b s at =
      let t = typed n (binds_let b s) at in
      let k = skel_in (slice_get ls n) b s (sym (slice_get-map statement_of ls n) ∙ at) in
      let is : IsLetLine lines n b s = record { x = t.1.0; ys = t.1.1; ts = t.1.2; bound = t.1.3; on = t.1.4 } in
      (k.0, k.1, subst (IsLetLine lines n b) (sym k.1) is)

  flat_kind : (sk : Skel) (b y : Binding) (ys : List Binding) (ts : List (List Width)) (m : ℕ) → IsFlat y.kind → IsTypedOn m b (skeleton_of sk) y ys ts → IsFlat b.kind
  flat_kind sk b y ys ts m (inl e) t = subst IsFlat (sym (rw e at t.kind)) (flat_given sk)
  flat_kind sk b y ys ts m (inr e) t = absurd (single_untaken sk (rw e at t.taken))

  flat_let : (n : ℕ) (x : Binding) (sk : Skel) → IsLetLine lines n x (skeleton_of sk) → ((a : ℕ) (y : Binding) → a < n → binding_at lines a ≡ Some y → IsFlat y.kind) → IsFlat x.kind
  flat_let n x sk is ih =
      let a = first_bound (take n lines) (skeleton_of sk).arguments is.x is.ys is.bound in
      let above = bound_above lines n a.0 is.x a.1 in
      flat_kind sk x is.x is.ys is.ts (length (take n lines)) (ih a.0 is.x above.0 above.1) is.on

  flat_line : (n : ℕ) (x : Binding) → binding_at lines n ≡ Some x → ((a : ℕ) (y : Binding) → a < n → binding_at lines a ≡ Some y → IsFlat y.kind) → IsFlat x.kind
  flat_line n x e ih = elim (is_bound (slice_get lines n) x e) [
    | inl i ↦ inl (fits n x i.0 i.1).kind
    | inr i ↦ let l = let_line n x i.0 i.1 in flat_let n x l.0 l.2 ih
  ]

  -- names stand for lists and single elements alone
  flat : (k n : ℕ) (x : Binding) → n < k → binding_at lines n ≡ Some x → IsFlat x.kind
  flat zero n x lt e = let no : ⊥ = omega arith in absurd no
  flat (suc k) n x lt e = flat_line n x e (λ a y below f. flat k a y (omega arith) f)

  -- the argument of a let line is a list
  pub list_taken : (n : ℕ) (b : Binding) (sk : Skel) (is : IsLetLine lines n b (skeleton_of sk)) → is.x.kind ≡ kind.List
  list_taken n b sk is =
      let a = first_bound (take n lines) (skeleton_of sk).arguments is.x is.ys is.bound in
      let above = bound_above lines n a.0 is.x a.1 in
      elim (flat (suc a.0) a.0 is.x (omega arith) above.1) [
        | inl e ↦ e
        | inr e ↦ absurd (single_untaken sk (rw e at is.on.taken))
      ]

  -- ---- values are lists of the type of their names

  -- the value of a let line
  let_value : (n : ℕ) (b : Binding) (s : Skeleton) → slice_get lines n ≡ Some (binds_let b s)
      → slice_get values n ≡ Some (Some (value_made b s (map (list_at (values_of_script sections (take n lines))) s.arguments)))
  let_value n b s at = value_at sections lines n (binds_let b s) at

  -- the lists of arguments, before the line and after all
  same_lists : (n : ℕ) (l : Statement) → slice_get lines n ≡ Some l → (args : List ℕ) (xs : List Binding) → AreBound (take n lines) args xs
      → map (list_at (values_of_script sections (take n lines))) args ≡ map (list_at values) args
  same_lists n l at [] xs are = refl
  same_lists n l at (a ∷ rest) [] are = absurd are
  same_lists n l at (a ∷ rest) (x ∷ xs) are =
      let above = bound_above lines n a x are.0 in
      rw (earlier_at sections lines n l at a above.0, same_lists n l at rest xs are.1) refl

  -- a name of the kind list stands for a list of its type
  pub record IsTypedList (n : ℕ) (b : Binding) : Type 0 where
    pub held : slice_get values n ≡ Some (Some (value.List (list_at values n)))
    pub ty : (list_at values n).ty ≡ b.ty

  list_held : (n : ℕ) (b : Binding) (z : Elements) → slice_get values n ≡ Some (Some (value.List z)) → z.ty ≡ b.ty → IsTypedList n b
  list_held n b z at ty = record { held = rw at refl; ty = rw at ty }

  typed_input : (n : ℕ) (b : Binding) (like : Option ℕ) → slice_get lines n ≡ Some (binds_input b like) → IsTypedList n b
  typed_input n b like at =
      let is = fits n b like at in
      let v = value_at sections lines n (binds_input b like) at in
      let t = typed n (binds_input b like) at in
      list_held n b (record { ty = W64 ∷ []; items = singles is.numbers }) (rw is.there at v) (sym t.1)

  typed_let : (n : ℕ) (b : Binding) (s : Skeleton) → slice_get lines n ≡ Some (binds_let b s) → b.kind ≡ kind.List → IsTypedList n b
  typed_let n b s at k =
      let l = let_line n b s at in
      let is = l.2 in
      let x_list = list_taken n b l.0 is in
      let gives : kind_given (skeleton_of l.0).head kind.List ≡ kind.List = rw x_list at (sym is.on.kind ∙ k) in
      let makes : makes_element s.head ≡ false = rw l.1 at (makes_list l.0 gives) in
      let v = let_value n b s at in
      let first = enough l.0 (take n lines) is.x is.ys (list_at (values_of_script sections (take n lines))) is.bound in
      let args : s.arguments ≡ first.0 ∷ first.1 = ap (λ (t : Skeleton). t.arguments) (sym l.1) ∙ first.2 in
      let made = made_list b s (list_at (values_of_script sections (take n lines)) first.0) (map (list_at (values_of_script sections (take n lines))) first.1) makes in
      list_held n b made.0 (v ∙ (ap (λ (ns : List ℕ). Some (Some (value_made b s (map (list_at (values_of_script sections (take n lines))) ns)))) args ∙ ap (λ (w : Value). Some (Some w)) made.1)) made.2

  pub typed_list : (n : ℕ) (b : Binding) → binding_at lines n ≡ Some b → b.kind ≡ kind.List → IsTypedList n b
  typed_list n b e k = elim (is_bound (slice_get lines n) b e) [
    | inl i ↦ typed_input n b i.0 i.1
    | inr i ↦ typed_let n b i.0 i.1 k
  ]

  -- ---- what let lines mean

  entered_types : (sk : Skel) (x : Binding) (ys : List Binding) (X : Elements) (Ys : List Elements) → X.ty ≡ x.ty → map (λ (e : Elements). e.ty) Ys ≡ map (λ (y : Binding). y.ty) ys
      → (entered (skeleton_of sk).head X Ys).ty ≡ entered_type (skeleton_of sk).head x ys
  entered_types sk x ys X Ys first others = by_head (skeleton_of sk).head ys Ys others
    where
      by_head : (h : Head) (zs : List Binding) (Zs : List Elements) → map (λ (e : Elements). e.ty) Zs ≡ map (λ (y : Binding). y.ty) zs → (entered h X Zs).ty ≡ entered_type h x zs
      by_head head.Zip [] [] o = first
      by_head head.Zip [] (Z ∷ Zs) o = cc
      by_head head.Zip (z ∷ zs) [] o = cc
      by_head head.Zip (z ∷ zs) (Z ∷ Zs) o = let e : Z.ty ≡ z.ty = cc in rw (first, e) refl
      by_head head.Iota zs Zs o = refl
      by_head head.Map zs Zs o = first
      by_head head.Filter zs Zs o = first
      by_head head.Rev zs Zs o = first
      by_head head.Plain zs Zs o = first
      by_head head.Reduce zs Zs o = first
      by_head head.Scan zs Zs o = first
      by_head head.Scanr zs Zs o = first
      by_head head.Mapln zs Zs o = first
      by_head head.Rows zs Zs o = first
      by_head head.Cols zs Zs o = first
      by_head head.Transpose zs Zs o = first
      by_head head.Uacc zs Zs o = first
      by_head head.Dacc zs Zs o = first
      by_head head.Getchl zs Zs o = first
      by_head head.Getchr zs Zs o = first

  list_types : (n : ℕ) (args : List ℕ) (xs : List Binding) → AreBound (take n lines) args xs → AreAlike kind.List xs
      → map (λ (e : Elements). e.ty) (map (list_at values) args) ≡ map (λ (y : Binding). y.ty) xs
  list_types n [] [] are alike = refl
  list_types n [] (x ∷ xs) are alike = absurd are
  list_types n (a ∷ rest) [] are alike = absurd are
  list_types n (a ∷ rest) (x ∷ xs) are alike =
      let above = bound_above lines n a x are.0 in
      rw ((typed_list a x above.1 (list_kind x.kind alike.0)).ty, list_types n rest xs are.1 alike.1) refl

  meant_skel : (n : ℕ) (b : Binding) (sk : Skel) → slice_get lines n ≡ Some (binds_let b (skeleton_of sk)) → IsLetLine lines n b (skeleton_of sk) → AreSmall (skeleton_of sk).functions
      → IsMeant values n b (skeleton_of sk)
  meant_skel n b sk at is small =
      let s = skeleton_of sk in
      let first = enough sk (take n lines) is.x is.ys (list_at values) is.bound in
      let args : s.arguments ≡ first.0 ∷ first.1 = first.2 in
      let bound : AreBound (take n lines) (first.0 ∷ first.1) (is.x ∷ is.ys) = subst (λ (ns : List ℕ). AreBound (take n lines) ns (is.x ∷ is.ys)) args is.bound in
      let k = list_taken n b sk is in
      let above = bound_above lines n first.0 is.x bound.0 in
      let x = list_at values first.0 in
      let ys = map (list_at values) first.1 in
      let first_type : x.ty ≡ is.x.ty = (typed_list first.0 is.x above.1 k).ty in
      let others = list_types n first.1 is.ys bound.1 (rw k at is.on.alike) in
      let types = entered_types sk is.x is.ys x ys first_type others in
      let fin : Finishes s.head s.functions s.ops (entered s.head x ys).ty b.ty = subst (λ (w : List Width). Finishes s.head s.functions s.ops w b.ty) (sym types) (finishes (length (take n lines)) b is.x is.ys k sk is.ts is.on) in
      let lists : map (list_at (values_of_script sections (take n lines))) s.arguments ≡ map (list_at values) s.arguments = same_lists n (binds_let b s) at s.arguments (is.x ∷ is.ys) is.bound in
      let whole : map (list_at values) s.arguments ≡ x ∷ ys = ap (map (list_at values)) args in
      record {
        value = let_value n b s at
            ∙ (ap (λ (ws : List Elements). Some (Some (value_made b s ws))) (lists ∙ whole)
            ∙ (ap (λ (v : Value). Some (Some v)) (made-finished b s x ys b.ty first.3 fin)
            ∙ ap (λ (ws : List Elements). Some (Some (value_finished b s (entered_on s.head ws)))) (sym whole)));
        finishes = subst (λ (ws : List Elements). Finishes s.head s.functions s.ops (entered_on s.head ws).ty b.ty) (sym whole) fin;
        small = small;
      }

  pub meant : AreSmallLines lines → AreMeant lines values
  meant small n b s at =
      let l = let_line n b s at in
      let here : slice_get lines n ≡ Some (binds_let b (skeleton_of l.0)) = at ∙ ap (λ (t : Skeleton). Some (binds_let b t)) (sym l.1) in
      subst (IsMeant values n b) l.1 (meant_skel n b l.0 here l.2 (small n b (skeleton_of l.0) here))
