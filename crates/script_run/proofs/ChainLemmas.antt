-- Chains that are linked lead to what their skeletons mean.
use Rattle.std.proofs.Common.{◌≡◌, ℕ, ℤ, true, List, [], ◌∷◌, ◌++◌, map, reverse, Option, Some, refl, sym, ap, ◌∙◌, subst}
use Rattle.std.specs.Prelude.{slice_get}
use Rattle.std.proofs.lemmas.List.{reverse-append}
use Rattle.op_laws.specs.declared.width.Width.{Width}
use Rattle.op_laws.specs.Elements.{Elements}
use Rattle.scalar_expr.specs.Expr.{Expr}
use Rattle.data_text.specs.declared.value.Value.{Value}
use Rattle.data_text.specs.declared.value.Value.TheVariants as value
use Rattle.script_lang.specs.declared.head.Head.{Head}
use Rattle.script_lang.specs.declared.head.Head.TheVariants as head
use Rattle.script_lang.specs.declared.op.Op.{Op}
use Rattle.script_lang.specs.Syntax.{Binding, Skeleton, Statement, binds_let}
use Rattle.script_lang.specs.Sound.{AreSmall}
use Rattle.fuse_rewrite.specs.Uses.{takes_pipe}
use Rattle.fuse_rewrite.specs.Steps.{makes_pipe, Kept}
use Rattle.fuse_rewrite.specs.Chains.{IsLink, AreLinked}
use Rattle.fuse_rewrite.specs.Meaning.{Values, list_in, list_at, value_made}
use Rattle.script_run.specs.Pipes.{entered, entered_on, passed, Passes, Finishes, IsPassing, ArePassing, passed_by, passed_along, type_by, type_along_lines, value_finished}
use Rattle.script_run.specs.Runs.{first_line, begun_by, begun, led}

-- ---- one skeleton

-- `zip` takes two lists
abbrev pub AreEnough : Head → List Elements → Type 0
AreEnough head.Zip [] = ⊥
AreEnough h ys = Unit {0}

made_by : (h : Head) (b : Binding) (s : Skeleton) (x : Elements) (fs : List (List Expr)) (os : List Op) (zs : List Elements) (gives : List Width) → AreEnough h zs → Finishes h fs os (entered h x zs).ty gives
    → value_made b (record s { head = h; functions = fs; ops = os }) (x ∷ zs) ≡ value_finished b (record s { head = h; functions = fs; ops = os }) (entered h x zs)
made_by head.Map b s x [] os zs gives q p = absurd p
made_by head.Map b s x (f ∷ fs) os zs gives q p = refl
made_by head.Filter b s x [] os zs gives q p = absurd p
made_by head.Filter b s x (f ∷ fs) os zs gives q p = refl
made_by head.Zip b s x fs os [] gives q p = absurd q
made_by head.Zip b s x fs os (z ∷ zs) gives q p = refl
made_by head.Rev b s x fs os zs gives q p = refl
made_by head.Iota b s x fs os zs gives q p = refl
made_by head.Plain b s x fs os zs gives q p = refl
made_by head.Reduce b s x fs os zs gives q p = refl
made_by head.Scan b s x fs [] zs gives q p = absurd p
made_by head.Scan b s x fs (o ∷ os) zs gives q p = refl
made_by head.Scanr b s x fs [] zs gives q p = absurd p
made_by head.Scanr b s x fs (o ∷ os) zs gives q p = refl
made_by head.Mapln b s x fs os zs gives q p = absurd p
made_by head.Rows b s x fs os zs gives q p = absurd p
made_by head.Cols b s x fs os zs gives q p = absurd p
made_by head.Transpose b s x fs os zs gives q p = absurd p
made_by head.Uacc b s x fs os zs gives q p = absurd p
made_by head.Dacc b s x fs os zs gives q p = absurd p
made_by head.Getchl b s x fs os zs gives q p = absurd p
made_by head.Getchr b s x fs os zs gives q p = absurd p

-- what is finished is what is meant
pub made-finished : (b : Binding) (s : Skeleton) (x : Elements) (ys : List Elements) (gives : List Width) → AreEnough s.head ys → Finishes s.head s.functions s.ops (entered s.head x ys).ty gives
    → value_made b s (x ∷ ys) ≡ value_finished b s (entered s.head x ys)
made-finished b s x ys gives enough fin = made_by s.head b s x s.functions s.ops ys gives enough fin

-- ---- chains that grow at their end

pub first-push : (n m : ℕ) (chain : List ℕ) → first_line n (chain ++ m ∷ []) ≡ first_line m chain
first-push n m [] = refl
first-push n m (c ∷ cs) = refl

passed-push : (lines : List Statement) (chain : List ℕ) (m : ℕ) (es : List (List ℤ)) → passed_along lines (chain ++ m ∷ []) es ≡ passed_by (slice_get lines m) (passed_along lines chain es)
passed-push lines [] m es = refl
passed-push lines (c ∷ cs) m es = passed-push lines cs m (passed_by (slice_get lines c) es)

type-push : (lines : List Statement) (chain : List ℕ) (m : ℕ) (ty : List Width) → type_along_lines lines (chain ++ m ∷ []) ty ≡ type_by (slice_get lines m) (type_along_lines lines chain ty)
type-push lines [] m ty = refl
type-push lines (c ∷ cs) m ty = type-push lines cs m (type_by (slice_get lines c) ty)

led-push : (lines : List Statement) (chain : List ℕ) (m : ℕ) (x : Elements) → led lines (chain ++ m ∷ []) x
    ≡ record { ty = type_by (slice_get lines m) (type_along_lines lines chain x.ty); items = passed_by (slice_get lines m) (passed_along lines chain x.items) }
led-push lines chain m x = rw (type-push lines chain m x.ty, passed-push lines chain m x.items) refl

passing-push : (lines : List Statement) (chain : List ℕ) (m : ℕ) (ty : List Width) → ArePassing lines chain ty
    → IsPassing lines m (type_along_lines lines chain ty) (type_by (slice_get lines m) (type_along_lines lines chain ty)) → ArePassing lines (chain ++ m ∷ []) ty
passing-push lines [] m ty are is = (is, tt)
passing-push lines (c ∷ cs) m ty are is = (are.0, passing-push lines cs m (type_by (slice_get lines c) ty) are.1 is)

pub reverse-front : {X : Type 0} (x : X) (xs : List X) → reverse (x ∷ xs) ≡ reverse xs ++ x ∷ []
reverse-front x xs = reverse-append (x ∷ []) xs

-- ---- fused lines

-- what a fused line finishes it passes on
pub fused_passes : (h : Head) (fs : List (List Expr)) (os : List Op) (ty gives : List Width) → makes_pipe h ≡ true → Finishes h fs os ty gives → Passes h fs ty gives
fused_passes head.Map fs os ty gives m p = p
fused_passes head.Filter fs os ty gives m p = p
fused_passes head.Rev fs os ty gives m p = p
fused_passes head.Zip fs os ty gives m p = p
fused_passes head.Iota fs os ty gives m p = p
fused_passes head.Plain fs os ty gives m p = cc
fused_passes head.Reduce fs os ty gives m p = cc
fused_passes head.Scan fs os ty gives m p = cc
fused_passes head.Scanr fs os ty gives m p = cc
fused_passes head.Mapln fs os ty gives m p = cc
fused_passes head.Rows fs os ty gives m p = cc
fused_passes head.Cols fs os ty gives m p = cc
fused_passes head.Transpose fs os ty gives m p = cc
fused_passes head.Uacc fs os ty gives m p = cc
fused_passes head.Dacc fs os ty gives m p = cc
fused_passes head.Getchl fs os ty gives m p = cc
fused_passes head.Getchr fs os ty gives m p = cc

fused_by : (h : Head) (b : Binding) (s : Skeleton) (x : Elements) → makes_pipe h ≡ true → value_finished b (record s { head = h }) x ≡ value.List (record { ty = b.ty; items = passed h s.functions x.items })
fused_by head.Map b s x m = refl
fused_by head.Filter b s x m = refl
fused_by head.Rev b s x m = refl
fused_by head.Zip b s x m = refl
fused_by head.Iota b s x m = refl
fused_by head.Plain b s x m = cc
fused_by head.Reduce b s x m = cc
fused_by head.Scan b s x m = cc
fused_by head.Scanr b s x m = cc
fused_by head.Mapln b s x m = cc
fused_by head.Rows b s x m = cc
fused_by head.Cols b s x m = cc
fused_by head.Transpose b s x m = cc
fused_by head.Uacc b s x m = cc
fused_by head.Dacc b s x m = cc
fused_by head.Getchl b s x m = cc
fused_by head.Getchr b s x m = cc

-- the list that a fused line finishes
pub fused_value : (b : Binding) (s : Skeleton) (x : Elements) → makes_pipe s.head ≡ true → value_finished b s x ≡ value.List (record { ty = b.ty; items = passed s.head s.functions x.items })
fused_value b s x m = fused_by s.head b s x m

-- what takes its argument as it comes begins with it
pub takes_whole : (h : Head) (x : Elements) → takes_pipe h ≡ true → entered_on h (x ∷ []) ≡ x
takes_whole head.Map x t = refl
takes_whole head.Filter x t = refl
takes_whole head.Rev x t = refl
takes_whole head.Plain x t = refl
takes_whole head.Reduce x t = refl
takes_whole head.Scan x t = refl
takes_whole head.Scanr x t = refl
takes_whole head.Zip x t = cc
takes_whole head.Iota x t = cc
takes_whole head.Mapln x t = refl
takes_whole head.Rows x t = refl
takes_whole head.Cols x t = refl
takes_whole head.Transpose x t = refl
takes_whole head.Uacc x t = refl
takes_whole head.Dacc x t = refl
takes_whole head.Getchl x t = refl
takes_whole head.Getchr x t = refl

-- what is known of a let line over lists, by its values
pub record IsMeant (values : Values) (n : ℕ) (b : Binding) (s : Skeleton) : Type 0 where
  pub value : slice_get values n ≡ Some (Some (value_finished b s (entered_on s.head (map (list_at values) s.arguments))))
  pub finishes : Finishes s.head s.functions s.ops (entered_on s.head (map (list_at values) s.arguments)).ty b.ty
  pub small : AreSmall s.functions

abbrev pub AreMeant : List Statement → Values → Type 0
AreMeant lines values = (n : ℕ) (b : Binding) (s : Skeleton) → slice_get lines n ≡ Some (binds_let b s) → IsMeant values n b s

-- a chain that leads to a skeleton t of line n
pub record IsLed (lines : List Statement) (values : Values) (n : ℕ) (t : Skeleton) (chain : List ℕ) : Type 0 where
  pub passing : ArePassing lines chain (begun lines values n chain).ty
  pub whole : led lines chain (begun lines values n chain) ≡ entered_on t.head (map (list_at values) t.arguments)

module _ (lines : List Statement) (values : Values) (meant : AreMeant lines values) (steps : List Kept) where
  -- one line more at the end
  led_further : (n m : ℕ) (t : Skeleton) (b : Binding) (u : Skeleton) (chain : List ℕ) → IsLink lines n t m b u → IsLed lines values m u chain → IsLed lines values n t (chain ++ m ∷ [])
  led_further n m t b u chain link is =
      let start = begun lines values m chain in
      let first : begun lines values n (chain ++ m ∷ []) ≡ start = ap (λ (k : ℕ). begun_by (slice_get lines k) values) (first-push n m chain) in
      let known = meant m b u link.line in
      let x = entered_on u.head (map (list_at values) u.arguments) in
      let ty : type_along_lines lines chain start.ty ≡ x.ty = ap (λ (e : Elements). e.ty) is.whole in
      let items : passed_along lines chain start.items ≡ x.items = ap (λ (e : Elements). e.items) is.whole in
      let y : Elements = record { ty = b.ty; items = passed u.head u.functions x.items } in
      let at : list_at values m ≡ y = ap list_in known.value ∙ ap (λ (v : Value). list_in (Some (Some v))) (fused_value b u x link.makes) in
      let step : IsPassing lines m (type_along_lines lines chain start.ty) (type_by (slice_get lines m) (type_along_lines lines chain start.ty))
      = record { bound = b; skeleton = u; line = link.line; gives_is = rw link.line refl; passes = rw (link.line, ty) (fused_passes u.head u.functions u.ops x.ty b.ty link.makes known.finishes); small = known.small } in
      let end : entered_on t.head (map (list_at values) t.arguments) ≡ y = ap (λ (ns : List ℕ). entered_on t.head (map (list_at values) ns)) link.only ∙ (takes_whole t.head (list_at values m) link.takes ∙ at) in
      let last : ◌≡◌ {A = Elements} (record { ty = type_by (slice_get lines m) (type_along_lines lines chain start.ty); items = passed_by (slice_get lines m) (passed_along lines chain start.items) }) y
      = ap (λ (o : Option Statement). record { ty = type_by o (type_along_lines lines chain start.ty); items = passed_by o (passed_along lines chain start.items) }) link.line
      ∙ ap (λ (es : List (List ℤ)). record { ty = b.ty; items = passed u.head u.functions es }) items in
      record {
        passing = subst (λ (e : Elements). ArePassing lines (chain ++ m ∷ []) e.ty) (sym first) (passing-push lines chain m start.ty is.passing step);
        whole = ap (led lines (chain ++ m ∷ [])) first ∙ (led-push lines chain m start ∙ (last ∙ sym end));
      }

  -- a chain that is linked
  pub led_by : (walk : List ℕ) (n : ℕ) (b : Binding) (t : Skeleton) → slice_get lines n ≡ Some (binds_let b t) → AreLinked lines steps n t walk → IsLed lines values n t (reverse walk)
  led_by [] n b t at linked = record { passing = tt; whole = ap (λ (o : Option Statement). begun_by o values) at }
  led_by (m ∷ ms) n b t at linked =
      let c = linked.0 in
      let u = linked.1 in
      let link = linked.2 in
      subst (IsLed lines values n t) (sym (reverse-front m ms)) (led_further n m t c u (reverse ms) link (led_by ms m c u link.line linked.3))
