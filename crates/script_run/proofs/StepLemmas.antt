-- A step that is linked can be run, and makes what its line means.
use Rattle.std.proofs.Common.{◌≡◌, ℕ, ◌+◌, true, List, [], ◌∷◌, map, length, take, reverse, Option, Some, refl, sym, ap, ◌∙◌, subst, length-append}
use Rattle.std.specs.Prelude.{slice_get, ◌==◌, ◌||◌}
use Rattle.std.specs.List.{list_any}
use Rattle.std.proofs.lemmas.List.{reverse-reverse}
use Rattle.std.proofs.lemmas.Bool.{leb-true, eqb-true, eq-eqb, or_left, or_right}
use Rattle.op_laws.specs.Elements.{Elements}
use Rattle.data_text.specs.Data.{Section}
use Rattle.script_lang.specs.declared.kind.Kind.TheVariants as kind
use Rattle.script_lang.specs.declared.head.Head.{Head}
use Rattle.script_lang.specs.declared.head.Head.TheVariants as head
use Rattle.script_lang.specs.declared.skel.Skel.{Skel}
use Rattle.script_lang.specs.declared.skel.Skel.TheVariants as skel
use Rattle.script_lang.specs.declared.line.Line.{Line}
use Rattle.script_lang.specs.Syntax.{Binding, Skeleton, Statement, binds_let}
use Rattle.script_lang.specs.Steps.{prints_line}
use Rattle.script_lang.specs.Views.{statement_of, skeleton_of}
use Rattle.script_lang.specs.Sound.{AreBound, AreAlike, IsPair, IsTypedScript, AreSmallLines}
use Rattle.fuse_rewrite.specs.Steps.{Kept}
use Rattle.fuse_rewrite.specs.Chains.{AreKeptAbove, AreLinked, IsLinkedStep}
use Rattle.fuse_rewrite.specs.Meaning.{Values, values_of_script, list_at}
use Rattle.script_run.specs.Fits.{FitsLists}
use Rattle.script_run.specs.Pipes.{entered_on, AreListsAt, ArePaired, ArePassing, Finishes, value_finished}
use Rattle.script_run.specs.Runs.{first_line, begun_by, begun, led, finished_by, value_of_step, taken_by, Begins, IsRunnable}
use Rattle.script_run.specs.Needs.{takes, takes_line, is_needed, AreHeld}
use Rattle.script_run.proofs.TypedLemmas.{bound_above}
use Rattle.script_run.proofs.ChainLemmas.{AreMeant, IsLed, led_by, reverse-front, first-push}
use Rattle.script_run.proofs.MeantLemmas.{list_kind, let_line, list_taken, typed_list, meant}
use Rattle.script_run.proofs.ShapeLemmas.{shaped, same_length, same_first}

-- the line at whose arguments a chain begins
pub record IsFirst (lines : List Statement) (steps : List Kept) (n : ℕ) : Type 0 where
  pub bound : Binding
  pub skeleton : Skeleton
  pub line : slice_get lines n ≡ Some (binds_let bound skeleton)
  pub kept : AreKeptAbove lines steps n skeleton.arguments

pub first_of : (lines : List Statement) (steps : List Kept) (walk : List ℕ) (n : ℕ) (b : Binding) (t : Skeleton) → slice_get lines n ≡ Some (binds_let b t) → AreLinked lines steps n t walk
    → IsFirst lines steps (first_line n (reverse walk))
first_of lines steps [] n b t at linked = record { bound = b; skeleton = t; line = at; kept = linked }
first_of lines steps (m ∷ ms) n b t at linked =
    let link = linked.2 in
    let rest = first_of lines steps ms m linked.0 linked.1 link.line linked.3 in
    subst (IsFirst lines steps) (sym (ap (first_line n) (reverse-front m ms) ∙ first-push n m (reverse ms))) rest

-- places of the table that hold the values
abbrev pub AreSame : Values → Values → List ℕ → Type 0
AreSame table values [] = Unit {0}
AreSame table values (n ∷ ns) = (slice_get table n ≡ slice_get values n) × AreSame table values ns

kept_same : (lines : List Statement) (done to_come : List Kept) (values table : Values) (n : ℕ) (ns : List ℕ) → AreHeld lines done to_come values table → AreKeptAbove lines done n ns
    → ((m : ℕ) → takes m ns ≡ true → is_needed lines to_come m ≡ true) → AreSame table values ns
kept_same lines done to_come values table n [] held kept needed = tt
kept_same lines done to_come values table n (m ∷ ms) held kept needed = (
  held m kept.1 (needed m (or_left (m == m) (takes m ms) (eq-eqb m m refl))),
  kept_same lines done to_come values table n ms held kept.2 (λ (k : ℕ) (e : takes k ms ≡ true). needed k (or_right (m == k) (takes k ms) e)),
)

same_lists : (table values : Values) (ns : List ℕ) → AreSame table values ns → map (list_at table) ns ≡ map (list_at values) ns
same_lists table values [] same = refl
same_lists table values (n ∷ ns) same = rw (same.0, same_lists table values ns same.1) refl

lists_kept : (table values : Values) (ns : List ℕ) → AreSame table values ns → AreListsAt values ns → AreListsAt table ns
lists_kept table values [] same lists = tt
lists_kept table values (n ∷ ns) same lists = (record { held = rw same.0 lists.0.held }, lists_kept table values ns same.1 lists.1)

paired_kept : (table values : Values) (h : Head) (ns : List ℕ) → AreSame table values ns → ArePaired h values ns → ArePaired h table ns
paired_kept table values head.Zip [] same p = tt
paired_kept table values head.Zip (x ∷ []) same p = tt
paired_kept table values head.Zip (x ∷ y ∷ []) same p = rw (same.0, same.1.0) p
paired_kept table values head.Zip (x ∷ y ∷ z ∷ zs) same p = tt
paired_kept table values head.Map ns same p = tt
paired_kept table values head.Filter ns same p = tt
paired_kept table values head.Rev ns same p = tt
paired_kept table values head.Iota ns same p = tt
paired_kept table values head.Plain ns same p = tt
paired_kept table values head.Reduce ns same p = tt
paired_kept table values head.Scan ns same p = tt
paired_kept table values head.Scanr ns same p = tt
paired_kept table values head.Mapln ns same p = tt
paired_kept table values head.Rows ns same p = tt
paired_kept table values head.Cols ns same p = tt
paired_kept table values head.Transpose ns same p = tt
paired_kept table values head.Uacc ns same p = tt
paired_kept table values head.Dacc ns same p = tt
paired_kept table values head.Getchl ns same p = tt
paired_kept table values head.Getchr ns same p = tt

module _ (ls : List Line) (sections : List Section) (typed : IsTypedScript (map statement_of ls)) (fits : FitsLists (map statement_of ls) sections) (small : AreSmallLines (map statement_of ls)) where
  abbrev lines : List Statement
  lines = map statement_of ls

  abbrev values : Values
  values = values_of_script sections lines

  lists_bound : (n : ℕ) (args : List ℕ) (xs : List Binding) → AreBound (take n lines) args xs → AreAlike kind.List xs → AreListsAt values args
  lists_bound n [] xs are alike = tt
  lists_bound n (a ∷ rest) [] are alike = absurd are
  lists_bound n (a ∷ rest) (x ∷ xs) are alike =
      let up = bound_above lines n a x are.0 in
      (record { held = (typed_list ls sections typed fits a x up.1 (list_kind x.kind alike.0)).held }, lists_bound n rest xs are.1 alike.1)

  paired_bound : (sk : Skel) (n : ℕ) (x : Binding) (ys : List Binding) → AreBound (take n lines) (skeleton_of sk).arguments (x ∷ ys) → x.kind ≡ kind.List → AreAlike kind.List ys → IsPair x ys
      → ArePaired (skeleton_of sk).head values (skeleton_of sk).arguments
  paired_bound (skel.Zip a c) n x [] are k alike pair = absurd are.1
  paired_bound (skel.Zip a c) n x (y ∷ ys) are k alike pair =
      let up = bound_above lines n a x are.0 in
      let over = bound_above lines n c y are.1.0 in
      let ky = list_kind y.kind alike.0 in
      let same : x.shape ≡ y.shape = eqb-true x.shape y.shape (same_first (x.shape == y.shape) (x.across == y.across) pair.0) in
      let first = typed_list ls sections typed fits a x up.1 k in
      let second = typed_list ls sections typed fits c y over.1 ky in
      let few = leb-true (length x.ty + length y.ty) 4 pair.1 in
      let long = length-append (list_at values a).ty (list_at values c).ty in (
        same_length values a c x y (shaped ls sections typed fits small a x up.1 k) (shaped ls sections typed fits small c y over.1 ky) same,
        rw (long, first.ty, second.ty) few,
      )
  paired_bound (skel.Map f a) n x ys are k alike pair = tt
  paired_bound (skel.Mapln f g a) n x ys are k alike pair = tt
  paired_bound (skel.Filter f a) n x ys are k alike pair = tt
  paired_bound (skel.Rev a) n x ys are k alike pair = tt
  paired_bound (skel.Iota a) n x ys are k alike pair = tt
  paired_bound (skel.Plain a) n x ys are k alike pair = tt
  paired_bound (skel.Reduce o a) n x ys are k alike pair = tt
  paired_bound (skel.ReduceBoth o p a) n x ys are k alike pair = tt
  paired_bound (skel.Scan o a) n x ys are k alike pair = tt
  paired_bound (skel.Scanr o a) n x ys are k alike pair = tt
  paired_bound (skel.ScanBoth o p a) n x ys are k alike pair = tt
  paired_bound (skel.Rows o a) n x ys are k alike pair = tt
  paired_bound (skel.Cols o a) n x ys are k alike pair = tt
  paired_bound (skel.Transpose a) n x ys are k alike pair = tt
  paired_bound (skel.Uacc o a) n x ys are k alike pair = tt
  paired_bound (skel.Dacc o j a) n x ys are k alike pair = tt
  paired_bound (skel.Getchl j a) n x ys are k alike pair = tt
  paired_bound (skel.Getchr j a) n x ys are k alike pair = tt

  begins : (n : ℕ) (done : List Kept) (table : Values) (f : IsFirst lines done n) → AreSame table values f.skeleton.arguments → Begins lines table n × (begun_by (slice_get lines n) table ≡ begun_by (slice_get lines n) values)
  begins n done table f same =
      let l = let_line ls sections typed fits n f.bound f.skeleton f.line in
      let is = l.2 in
      let k = list_taken ls sections typed fits n f.bound l.0 is in
      let alike : AreAlike kind.List is.ys = rw k at is.on.alike in
      let first : AreListsAt values (skeleton_of l.0).arguments = lists_bound n (skeleton_of l.0).arguments (is.x ∷ is.ys) is.bound (rw k refl, alike) in
      let pair = paired_bound l.0 n is.x is.ys is.bound k alike is.on.pair in
      let lists : AreListsAt values f.skeleton.arguments = subst (λ (t : Skeleton). AreListsAt values t.arguments) l.1 first in
      let pairs : ArePaired f.skeleton.head values f.skeleton.arguments = subst (λ (t : Skeleton). ArePaired t.head values t.arguments) l.1 pair in (
        record { bound = f.bound; skeleton = f.skeleton; line = f.line; lists = lists_kept table values f.skeleton.arguments same lists; paired = paired_kept table values f.skeleton.head f.skeleton.arguments same pairs },
        ap (λ (o : Option Statement). begun_by o table) f.line ∙ (ap (λ (xs : List Elements). entered_on f.skeleton.head xs) (same_lists table values f.skeleton.arguments same) ∙ ap (λ (o : Option Statement). begun_by o values) (sym f.line)),
      )

  -- a linked step, over a table that holds what is needed
  module _ (done : List Kept) (s : Kept) (to_come : List Kept) (table : Values) (held : AreHeld lines done (s ∷ to_come) values table) (linked : IsLinkedStep lines done s) where
    abbrev all_meant : AreMeant lines values
    all_meant = meant ls sections typed fits small

    chained : IsLed lines values s.line linked.1 s.chain
    chained = subst (IsLed lines values s.line linked.1) (reverse-reverse s.chain) (led_by lines values all_meant done (reverse s.chain) s.line linked.0 linked.1 linked.2 linked.3)

    start : IsFirst lines done (first_line s.line s.chain)
    start = subst (λ (c : List ℕ). IsFirst lines done (first_line s.line c)) (reverse-reverse s.chain) (first_of lines done (reverse s.chain) s.line linked.0 linked.1 linked.2 linked.3)

    taken_needed : (m : ℕ) → takes m start.skeleton.arguments ≡ true → is_needed lines (s ∷ to_come) m ≡ true
    taken_needed m e =
        let taken : takes m (taken_by lines s) ≡ true = rw start.line e in
        or_right (list_any (prints_line m) lines) (takes m (taken_by lines s) || list_any (takes_line lines m) to_come) (or_left (takes m (taken_by lines s)) (list_any (takes_line lines m) to_come) taken)

    same : AreSame table values start.skeleton.arguments
    same = kept_same lines done (s ∷ to_come) values table (first_line s.line s.chain) start.skeleton.arguments held start.kept taken_needed

    begun_same : begun lines table s.line s.chain ≡ begun lines values s.line s.chain
    begun_same = (begins (first_line s.line s.chain) done table start same).1

    whole : led lines s.chain (begun lines table s.line s.chain) ≡ entered_on linked.1.head (map (list_at values) linked.1.arguments)
    whole = ap (led lines s.chain) begun_same ∙ chained.whole

    pub runnable : IsRunnable lines table s
    runnable =
        let known = all_meant s.line linked.0 linked.1 linked.2 in
        record {
          begins = (begins (first_line s.line s.chain) done table start same).0;
          passing = subst (λ (e : Elements). ArePassing lines s.chain e.ty) (sym begun_same) chained.passing;
          bound = linked.0;
          skeleton = linked.1;
          line = linked.2;
          finishes = subst (λ (e : Elements). Finishes linked.1.head linked.1.functions linked.1.ops e.ty linked.0.ty) (sym whole) known.finishes;
          small = known.small;
        }

    pub makes_value : slice_get values s.line ≡ Some (Some (value_of_step lines table s))
    makes_value =
        let known = all_meant s.line linked.0 linked.1 linked.2 in
        known.value ∙ (ap (λ (e : Elements). Some (Some (value_finished linked.0 linked.1 e))) (sym whole)
        ∙ ap (λ (o : Option Statement). Some (Some (finished_by o (led lines s.chain (begun lines table s.line s.chain))))) (sym linked.2))
