-- What a line that is read owes, by going back through the steps.
use Rattle.std.proofs.Common.{◌≡◌, ◌⊎◌, inl, inr, length-append, ℕ, zero, suc, ◌+◌, ◌<◌, ◌≤◌, Bool, true, false, List, [], ◌∷◌, ◌++◌, Ok, Err, Result, Some, None, length, take, refl, sym, ap, ◌∙◌, subst, arith}
use Rattle.std.proofs.lemmas.Bool.{cases_lt}
use Rattle.std.proofs.lemmas.Grind.{common_steps}
use Rattle.std.specs.Prelude.{Option, option_map, slice_get, not, ◌&&◌, map, filter, nat_lt}
use Rattle.std.specs.List.{list_any}
use Rattle.op_laws.specs.declared.width.Width.{Width}
use Rattle.op_catalog.specs.declared.takes.OpFault.{OpFault}
use Rattle.op_catalog.specs.declared.takes.OpFault.TheVariants as op_fault
use Rattle.op_catalog.specs.Catalog.{op_named}
use Rattle.tree_names.specs.Names.{tree_named, down_named, rose_named, rose_down_named}
use Rattle.scalar_expr.specs.Typing.{typed}
use Rattle.scalar_expr.specs.declared.fault.TypeFault.{TypeFault}
use Rattle.scalar_expr.specs.declared.fault.TypeFault.TheVariants as type_fault
use Rattle.script_words.specs.declared.fault.ScriptWhat.{ScriptWhat}
use Rattle.script_words.specs.declared.fault.ScriptWhat.TheVariants as what
use Rattle.script_words.specs.Lines.{Token, Source}
use Rattle.script_words.specs.Read.{Read, ◌>>=◌, or_fault, unless}
use Rattle.script_words.specs.Functions.{Function}
use Rattle.script_lang.specs.declared.kind.Kind.{Kind}
use Rattle.script_lang.specs.declared.kind.Kind.TheVariants as kind
use Rattle.script_lang.specs.declared.head.Head.{Head}
use Rattle.script_lang.specs.declared.op.Op.{Op}
use Rattle.script_lang.specs.declared.op.Op.TheVariants as op
use Rattle.script_lang.specs.declared.fault.ScriptFault.{ScriptFault}
use Rattle.script_words.specs.Reading.{end_of}
use Rattle.script_lang.specs.Grammar.{form_at}
use Rattle.script_lang.specs.Script.{line_at, of_line, and_then, lines_at}
use Rattle.script_lang.specs.Syntax.{Statement, Binding, Written, Form, input_form, let_form, print_form, binds_input, binds_let, prints}
use Rattle.script_lang.specs.Tables.{op_of_name, is_op_of, is_dacc, takes_kind, same_kind, all_abide, components_fit, type_given, has_unit, same_shapes, few_components}
use Rattle.script_lang.specs.Steps.{Known, Chosen, bound_by, is_input, binds, known_by, found_from, known_at, known_all, is_new, is_print, prints_line, of_kind, kinds_at, operators_at, ops_of, abiding_at, placed, types_at, components_at, typed_at, type_at, type_column, first_column, second_column, last_function, bindings_of, let_binding, let_skeleton, unit_at, pair_at, first_of, let_line, like_line, input_line, print_line, line_of}
use Rattle.script_lang.specs.Sound.{binding_at, AreBound, AreAlike, AreOf, AreTyped, IsPair, IsTypedOn, IsNew, IsTypedAfter, IsTypedScript}

-- ---- reading that went on

pub bind_ok : {A B : Type 0} → (r : Read A) (f : A → Read B) (y : B) → (r >>= f) ≡ Ok y → (x : A) × (r ≡ Ok x) × (f x ≡ Ok y)
bind_ok (Ok x) f y e = (x, refl, e)
bind_ok (Err s) f y e = absurd (cc)

pub unless_ok : (b : Bool) (column : ℕ) (w : ScriptWhat) (u : Unit {0}) → unless b column w ≡ Ok u → b ≡ true
unless_ok true column w u e = refl
unless_ok false column w u e = absurd (cc)

pub or_fault_ok : {X : Type 0} → (o : Option X) (column : ℕ) (w : ScriptWhat) (x : X) → or_fault o column w ≡ Ok x → o ≡ Some x
or_fault_ok (Some y) column w x e = cc
or_fault_ok None column w x e = absurd (cc)

not_true : (b : Bool) → not b ≡ true → b ≡ false
not_true true e = cc
not_true false e = refl

both : (a b : Bool) → (a && b) ≡ true → (a ≡ true) × (b ≡ true)
both true b e = (refl, e)
both false b e = absurd (cc)

-- what was read
pub ok_is : {A : Type 0} → (r : Read A) (a b : A) → r ≡ Ok a → r ≡ Ok b → a ≡ b
ok_is r a b e f = cc

-- ---- names

-- what is found is bound by its line, whose number counts from n on
abbrev IsFoundIn : ℕ → ℕ → List Statement → Known → Type 0
IsFoundIn n column ls k = (i : ℕ) × (k.line ≡ n + i) × ((l : Statement) × (slice_get ls i ≡ Some l) × (bound_by l ≡ Some k.bound) × (k.input ≡ is_input l))

known_is : (l : Statement) (n column : ℕ) (k : Known) → option_map (known_by column n (is_input l)) (bound_by l) ≡ Some k → (bound_by l ≡ Some k.bound) × (k.line ≡ n) × (k.input ≡ is_input l)
known_is (binds_input b like) n column k e =
    let is : known_by column n true b ≡ k = cc in
    (ap (λ (x : Known). Some x.bound) is, sym (ap (λ (x : Known). x.line) is), sym (ap (λ (x : Known). x.input) is))
known_is (binds_let b s) n column k e =
    let is : known_by column n false b ≡ k = cc in
    (ap (λ (x : Known). Some x.bound) is, sym (ap (λ (x : Known). x.line) is), sym (ap (λ (x : Known). x.input) is))
known_is (prints m) n column k e = absurd (cc)

tested : (b : Bool) → (b ≡ true) ⊎ (b ≡ false)
tested true = inl refl
tested false = inr refl

found_in : (ls : List Statement) (n column : ℕ) (name : List ℕ) (k : Known) → found_from n column name ls ≡ Some k → IsFoundIn n column ls k
unfolding found_from
found_in [] n column name k e = absurd (cc)
found_in (l ∷ ls) n column name k e = elim (tested (binds name l)) [
  | inl p ↦ let h = known_is l n column k (rw p at e) in (0, omega (arith, h.1), (l, refl, h.0, h.2))
  | inr p ↦ let h = found_in ls (n + 1) column name k (rw p at e) in (suc h.0, omega (arith, h.1), (h.2.0, h.2.1, h.2.2, h.2.3))
]

pub known_bound : (lines : List Statement) (t : Token) (k : Known) → known_at lines t ≡ Ok k → (l : Statement) × (slice_get lines k.line ≡ Some l) × (bound_by l ≡ Some k.bound) × (k.input ≡ is_input l)
unfolding known_at
known_bound lines t k e =
    let h = found_in lines 0 t.column t.text k (or_fault_ok (found_from 0 t.column t.text lines) t.column what.UnknownName k e) in
    let n : h.0 ≡ k.line = omega (arith, h.1) in
    (h.2.0, subst (λ (i : ℕ). slice_get lines i ≡ Some h.2.0) n h.2.1, h.2.2, h.2.3)

pub all_bound : (lines : List Statement) (ts : List Token) (ks : List Known) → known_all lines ts ≡ Ok ks → AreBound lines (map (λ (k : Known). k.line) ks) (bindings_of ks)
unfolding known_all
all_bound lines [] [] e = tt
all_bound lines [] (k ∷ ks) e = absurd (cc)
all_bound lines (t ∷ ts) ks e =
    let one = bind_ok (known_at lines t) _ _ e in
    let rest = bind_ok (known_all lines ts) _ _ one.2 in
    let h = known_bound lines t one.0 one.1 in
    let bound : binding_at lines one.0.line ≡ Some one.0.bound = rw h.1 h.2 in
    let is : one.0 ∷ rest.0 ≡ ks = cc (rest.2) in
    subst (λ (xs : List Known). AreBound lines (map (λ (k : Known). k.line) xs) (bindings_of xs)) is (bound, all_bound lines ts rest.0 rest.1)

pub is_new_ok : (lines : List Statement) (name : Token) (u : Unit {0}) → is_new lines name ≡ Ok u → IsNew lines name.text
unfolding is_new
is_new_ok lines name u e = not_true (list_any (binds name.text) lines) (unless_ok (not (list_any (binds name.text) lines)) name.column what.Rebound u e)

-- ---- kinds and operators

pub kinds_alike : (k : Kind) (ys : List Known) (u : Unit {0}) → of_kind k ys ≡ Ok u → AreAlike k (bindings_of ys)
unfolding of_kind
kinds_alike k [] u e = tt
kinds_alike k (y ∷ ys) u e =
    let one = bind_ok (unless (same_kind y.bound.kind k) y.column what.WrongKind) _ _ e in
    (unless_ok (same_kind y.bound.kind k) y.column what.WrongKind one.0 one.1, kinds_alike k ys u one.2)

named : {A : Type 0} → (f : A → Op) (down : Bool) (k : Kind) (o : Option A) (x : Op) → ((a : A) → is_op_of down k (f a) ≡ true) → option_map f o ≡ Some x → is_op_of down k x ≡ true
named f down k (Some a) x h e = let is : f a ≡ x = cc in subst (λ (y : Op). is_op_of down k y ≡ true) is (h a)
named f down k None x h e = absurd (cc)

op_is_of : (down : Bool) (k : Kind) (w : List ℕ) (x : Op) → op_of_name down k w ≡ Some x → is_op_of down k x ≡ true
op_is_of true kind.Tree w x e = named op.Down true kind.Tree (down_named w) x (λ a. refl) e
op_is_of false kind.Tree w x e = named op.Up false kind.Tree (tree_named w) x (λ a. refl) e
op_is_of true kind.Rose w x e = named op.RoseDown true kind.Rose (rose_down_named w) x (λ a. refl) e
op_is_of false kind.Rose w x e = named op.Rose false kind.Rose (rose_named w) x (λ a. refl) e
op_is_of true kind.Single w x e = named op.Flat true kind.Single (op_named w) x (λ a. refl) e
op_is_of false kind.Single w x e = named op.Flat false kind.Single (op_named w) x (λ a. refl) e
op_is_of true kind.List w x e = named op.Flat true kind.List (op_named w) x (λ a. refl) e
op_is_of false kind.List w x e = named op.Flat false kind.List (op_named w) x (λ a. refl) e
op_is_of true kind.Matrix w x e = named op.Flat true kind.Matrix (op_named w) x (λ a. refl) e
op_is_of false kind.Matrix w x e = named op.Flat false kind.Matrix (op_named w) x (λ a. refl) e

pub ops_are_of : (down : Bool) (k : Kind) (ts : List Token) (os : List Chosen) → operators_at down k ts ≡ Ok os → AreOf down k (ops_of os)
unfolding operators_at
ops_are_of down k [] [] e = tt
ops_are_of down k [] (o ∷ os) e = absurd (cc)
ops_are_of down k (t ∷ ts) os e =
    let one = bind_ok (or_fault (op_of_name down k t.text) t.column what.UnknownOp) _ _ e in
    let rest = bind_ok (operators_at down k ts) _ _ one.2 in
    let h = op_is_of down k t.text one.0 (or_fault_ok (op_of_name down k t.text) t.column what.UnknownOp one.0 one.1) in
    let is : record { column = t.column; op = one.0 } ∷ rest.0 ≡ os = cc (rest.2) in
    subst (λ (xs : List Chosen). AreOf down k (ops_of xs)) is (h, ops_are_of down k ts rest.0 rest.1)

pub as_many : (down : Bool) (k : Kind) (ts : List Token) (os : List Chosen) → operators_at down k ts ≡ Ok os → length (ops_of os) ≡ length ts
unfolding operators_at
as_many down k [] [] e = refl
as_many down k [] (o ∷ os) e = absurd (cc)
as_many down k (t ∷ ts) os e =
    let one = bind_ok (or_fault (op_of_name down k t.text) t.column what.UnknownOp) _ _ e in
    let rest = bind_ok (operators_at down k ts) _ _ one.2 in
    let is : record { column = t.column; op = one.0 } ∷ rest.0 ≡ os = cc (rest.2) in
    subst (λ (xs : List Chosen). length (ops_of xs) ≡ length (t ∷ ts)) is (ap suc (as_many down k ts rest.0 rest.1))

-- ---- types and shapes

placed_ok : {X : Type 0} → (columns : List ℕ) (r : Result X TypeFault) (x : X) → placed columns r ≡ Ok x → r ≡ Ok x
placed_ok columns (Ok y) x e = cc
placed_ok columns (Err (type_fault.NoPart p)) x e = absurd (cc)
placed_ok columns (Err (type_fault.TooWide p)) x e = absurd (cc)
placed_ok columns (Err (type_fault.TooDeep p)) x e = absurd (cc)
placed_ok columns (Err type_fault.Memory) x e = absurd (cc)

pub are_typed : (ty : List Width) (fs : List Function) (ts : List (List Width)) → types_at ty fs ≡ Ok ts → AreTyped ty (map (λ (f : Function). f.scalars) fs) ts
unfolding types_at
are_typed ty [] [] e = tt
are_typed ty [] (t ∷ ts) e = absurd (cc)
are_typed ty (f ∷ fs) ts e =
    let one = bind_ok (placed f.columns (typed ty f.scalars)) _ _ e in
    let rest = bind_ok (types_at ty fs) _ _ one.2 in
    let h = placed_ok f.columns (typed ty f.scalars) one.0 one.1 in
    let is : one.0 ∷ rest.0 ≡ ts = cc (rest.2) in
    subst (λ (xs : List (List Width)). AreTyped ty (map (λ (g : Function). g.scalars) (f ∷ fs)) xs) is (h, are_typed ty fs rest.0 rest.1)

typed_at_ok : (column : ℕ) (r : Result (List Width) OpFault) (ty : List Width) → typed_at column r ≡ Ok ty → r ≡ Ok ty
typed_at_ok column (Ok t) ty e = cc
typed_at_ok column (Err op_fault.WrongArity) ty e = absurd (cc)
typed_at_ok column (Err op_fault.TooWide) ty e = absurd (cc)

pub pair_ok : (x : Known) (ys : List Known) (u : Unit {0}) → pair_at x ys ≡ Ok u → IsPair x.bound (bindings_of ys)
unfolding pair_at
pair_ok x [] u e = tt
pair_ok x (y ∷ ys) u e =
    let one = bind_ok (unless (same_shapes x.bound y.bound) y.column what.ShapeDiffers) _ _ e in
    (unless_ok (same_shapes x.bound y.bound) y.column what.ShapeDiffers one.0 one.1, unless_ok (few_components x.bound y.bound) y.column what.TupleTooLong u one.2)

first_is : (args : List Known) (x : Known × List Known) → first_of args ≡ Ok x → args ≡ x.0 ∷ x.1
first_is [] x e = absurd (cc)
first_is (a ∷ bs) x e = let is : (a, bs) ≡ x = cc in ap (λ (p : Known × List Known). p.0 ∷ p.1) is

-- ---- lines

let_typed : (lines : List Statement) (name : Token) (h : Head) (w : Written) (l : Statement) → let_line lines name h w ≡ Ok l → IsTypedAfter lines l
unfolding let_line kinds_at abiding_at components_at type_at unit_at
let_typed lines name h w l e =
    let args = bind_ok (known_all lines w.arguments) _ _ e in
    let first = bind_ok (first_of args.0) _ _ args.2 in
    let x = first.0.0 in
    let ys = first.0.1 in
    let fresh = bind_ok (is_new lines name) _ _ first.2 in
    let kinds = bind_ok (kinds_at h (length w.operators) x ys) _ _ fresh.2 in
    let taken = bind_ok (unless (takes_kind h (length w.operators) x.bound.kind) x.column what.WrongKind) _ _ kinds.1 in
    let ops = bind_ok (operators_at (is_dacc h) x.bound.kind w.operators) _ _ kinds.2 in
    let os = ops.0 in
    let abide = bind_ok (abiding_at os) _ _ ops.2 in
    let types = bind_ok (types_at x.bound.ty w.functions) _ _ abide.2 in
    let fit = bind_ok (components_at types.0 h w.functions) _ _ types.2 in
    let ty = bind_ok (type_at h os types.0 x ys) _ _ fit.2 in
    let unit = bind_ok (unit_at os h x.bound.kind) _ _ ty.2 in
    let pair = bind_ok (pair_at x ys) _ _ unit.2 in
    let number : length (ops_of os) ≡ length w.operators = as_many (is_dacc h) x.bound.kind w.operators os ops.1 in
    let bound = subst (λ (ks : List Known). AreBound lines (map (λ (k : Known). k.line) args.0) (bindings_of ks)) (first_is args.0 first.0 first.1) (all_bound lines w.arguments args.0 args.1) in
    let judged : IsTypedOn (length lines) (let_binding name h (length lines) x.bound ty.0) (let_skeleton h w os args.0) x.bound (bindings_of ys) types.0 = record {
      taken = rw number (unless_ok (takes_kind h (length w.operators) x.bound.kind) x.column what.WrongKind taken.0 taken.1);
      alike = kinds_alike x.bound.kind ys kinds.0 taken.2;
      operators = ops_are_of (is_dacc h) x.bound.kind w.operators os ops.1;
      abide = unless_ok (all_abide (ops_of os)) (second_column os) what.NotAbiding abide.0 abide.1;
      functions = are_typed x.bound.ty w.functions types.0 types.1;
      components = unless_ok (components_fit types.0 h) (last_function w.functions) what.WrongArity fit.0 fit.1;
      type = typed_at_ok (type_column os x) (type_given h (ops_of os) types.0 x.bound.ty (bindings_of ys)) ty.0 ty.1;
      unit = unless_ok (has_unit (ops_of os) h x.bound.kind) (first_column os) what.NoUnit unit.0 unit.1;
      pair = pair_ok x ys pair.0 pair.1;
      kind = refl;
      shape = refl;
      across = refl;
    } in
    subst (λ (m : Statement). IsTypedAfter lines m) (ok_is _ _ _ refl pair.2) (is_new_ok lines name fresh.0 fresh.1, (x.bound, bindings_of ys, types.0, bound, judged))

input_is : (l : Statement) (x : Binding) → bound_by l ≡ Some x → true ≡ is_input l → (k : Option ℕ) × (l ≡ binds_input x k)
input_is (binds_input b like) x e f = (like, cc)
input_is (binds_let b s) x e f = absurd (cc)
input_is (prints n) x e f = absurd (cc)

input_typed : (lines : List Statement) (name : Token) (k : Kind) (l : Statement) → input_line lines name k ≡ Ok l → IsTypedAfter lines l
unfolding input_line
input_typed lines name k l e =
    let fresh = bind_ok (is_new lines name) _ _ e in
    subst (λ (m : Statement). IsTypedAfter lines m) (ok_is _ _ _ refl fresh.2) (is_new_ok lines name fresh.0 fresh.1, refl, (refl, refl))

like_typed : (lines : List Statement) (name : Token) (k : Kind) (like : Token) (l : Statement) → like_line lines name k like ≡ Ok l → IsTypedAfter lines l
unfolding like_line
like_typed lines name k like l e =
    let known = bind_ok (known_at lines like) _ _ e in
    let fresh = bind_ok (is_new lines name) _ _ known.2 in
    let kinds = bind_ok (unless (known.0.input && same_kind known.0.bound.kind k) known.0.column what.WrongKind) _ _ fresh.2 in
    let h = known_bound lines like known.0 known.1 in
    let t = both known.0.input (same_kind known.0.bound.kind k) (unless_ok (known.0.input && same_kind known.0.bound.kind k) known.0.column what.WrongKind kinds.0 kinds.1) in
    let i = input_is h.0 known.0.bound h.2 (sym t.0 ∙ h.3) in
    let there : slice_get lines known.0.line ≡ Some (binds_input known.0.bound i.0) = rw (← i.1) h.1 in
    subst (λ (m : Statement). IsTypedAfter lines m) (ok_is _ _ _ refl kinds.2) (is_new_ok lines name fresh.0 fresh.1, refl, (known.0.bound, i.0, there, t.1, refl, refl))

print_typed : (lines : List Statement) (at : ℕ) (of : Token) (l : Statement) → print_line lines at of ≡ Ok l → IsTypedAfter lines l
unfolding print_line
print_typed lines at of l e =
    let few = bind_ok (unless (nat_lt (length (filter is_print lines)) 64) at what.TooManyPrints) _ _ e in
    let known = bind_ok (known_at lines of) _ _ few.2 in
    let once = bind_ok (unless (not (list_any (prints_line known.0.line) lines)) known.0.column what.Rebound) _ _ known.2 in
    let h = known_bound lines of known.0 known.1 in
    let bound : binding_at lines known.0.line ≡ Some known.0.bound = rw h.1 h.2 in
    subst (λ (m : Statement). IsTypedAfter lines m) (ok_is _ _ _ refl once.2) ((known.0.bound, bound), not_true (list_any (prints_line known.0.line) lines) (unless_ok (not (list_any (prints_line known.0.line) lines)) known.0.column what.Rebound once.0 once.1))

line_typed : (lines : List Statement) (f : Form) (l : Statement) → line_of lines f ≡ Ok l → IsTypedAfter lines l
unfolding line_of
line_typed lines (input_form name k None) l e = input_typed lines name k l e
line_typed lines (input_form name k (Some like)) l e = like_typed lines name k like l e
line_typed lines (let_form name h w) l e = let_typed lines name h w l e
line_typed lines (print_form at of) l e = print_typed lines at of l e

pub at_typed : (lines : List Statement) (ts : List Token) (l : Statement) → line_at lines ts ≡ Ok l → IsTypedAfter lines l
unfolding line_at
at_typed lines ts l e =
    let form = bind_ok (form_at (end_of ts) ts) _ _ e in
    line_typed lines form.0 l form.2

-- ---- scripts

-- the line after these
pub last_is : {A : Type 0} → (xs : List A) (y l : A) → slice_get (xs ++ y ∷ []) (length xs) ≡ Some l → y ≡ l
last_is [] y l e = cc
last_is (x ∷ xs) y l e = last_is xs y l e

pub before_is : {A : Type 0} → (xs : List A) (y l : A) (i : ℕ) → i < length xs → slice_get (xs ++ y ∷ []) i ≡ Some l → slice_get xs i ≡ Some l
before_is [] y l i lt e = absurd (omega arith)
before_is (x ∷ xs) y l zero lt e = e
before_is (x ∷ xs) y l (suc i) lt e = before_is xs y l i (omega arith) e

pub within : {A : Type 0} → (xs : List A) (l : A) (i : ℕ) → slice_get xs i ≡ Some l → i < length xs
within [] l i e = absurd (cc)
within (x ∷ xs) l zero e = omega arith
within (x ∷ xs) l (suc i) e = omega (arith, within xs l i e)

takes_same : {A : Type 0} → (xs : List A) (y : A) (i : ℕ) → i ≤ length xs → take i (xs ++ y ∷ []) ≡ take i xs
takes_same xs y i le = grind (arith, common_steps)

takes_all : {A : Type 0} → (xs : List A) (y : A) → take (length xs) (xs ++ y ∷ []) ≡ xs
takes_all xs y = grind (arith, common_steps)

pub two_places : (i n : ℕ) → i < n + 1 → (i < n) ⊎ (i ≡ n)
two_places i n lt = elim (cases_lt i n) [ inl less ↦ inl less | inr le ↦ inr (omega (arith, le, lt)) ]

pub one_more : (lines : List Statement) (y : Statement) → IsTypedScript lines → IsTypedAfter lines y → IsTypedScript (lines ++ y ∷ [])
one_more lines y h k i l e =
    let lt : i < length lines + 1 = omega (arith, within (lines ++ y ∷ []) l i e, length-append lines (y ∷ [])) in
    elim (two_places i (length lines) lt) [
      | inl p ↦ subst (λ (before : List Statement). IsTypedAfter before l) (sym (takes_same lines y i (omega (arith, p)))) (h i l (before_is lines y l i p e))
      | inr p ↦
          let here : slice_get (lines ++ y ∷ []) (length lines) ≡ Some l = rw (← p) e in
          let all : lines ≡ take i (lines ++ y ∷ []) = rw p (sym (takes_all lines y)) in
          subst (λ (m : Statement). IsTypedAfter (take i (lines ++ y ∷ [])) m) (last_is lines y l here) (subst (λ (before : List Statement). IsTypedAfter before y) all k)
    ]

of_line_ok : {X : Type 0} → (n : ℕ) (r : Read X) (x : X) → of_line n r ≡ Ok x → r ≡ Ok x
of_line_ok n (Ok y) x e = cc
of_line_ok n (Err s) x e = absurd (cc)

then_ok : {A B : Type 0} → (r : Result A ScriptFault) (f : A → Result B ScriptFault) (y : B) → and_then r f ≡ Ok y → (x : A) × (r ≡ Ok x) × (f x ≡ Ok y)
then_ok (Ok x) f y e = (x, refl, e)
then_ok (Err s) f y e = absurd (cc)

lines_typed : (lines : List Statement) (ss : List Source) (total : List Statement) → IsTypedScript lines → lines_at lines ss ≡ Ok total → IsTypedScript total
unfolding lines_at
lines_typed lines [] total h e = let is : lines ≡ total = cc in subst (λ (ls : List Statement). IsTypedScript ls) is h
lines_typed lines (s ∷ ss) total h e =
    let one = then_ok (of_line s.number (line_at lines s.tokens)) _ _ e in
    let l = at_typed lines s.tokens one.0 (of_line_ok s.number _ one.0 one.1) in
    lines_typed (lines ++ one.0 ∷ []) ss total (one_more lines one.0 h l) one.2

nothing_typed : IsTypedScript []
nothing_typed i l e = absurd (cc)

-- the lines that are read are typed
pub all_typed : (ss : List Source) (total : List Statement) → lines_at [] ss ≡ Ok total → IsTypedScript total
all_typed ss total e = lines_typed [] ss total nothing_typed e
