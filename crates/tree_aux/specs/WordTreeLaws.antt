-- Arithmetic modulo 2^64 on trees obeys the laws.
use Rattle.std.proofs.Common.{◌≡◌, ℕ, ◌+◌, ◌≤◌, ℤ, pos, ◌+ℤ◌, ◌*ℤ◌, List, [], ◌∷◌, refl, ap, sym, ◌∙◌, arith}
use Rattle.std.specs.Int.{w64, int_wrap}
use Rattle.std.proofs.Math.IntN.{*ℤ_comm, +ℤ_comm}
use Rattle.std.proofs.lemmas.Int.{ints, int_wrap_fits, SFits-int_wrap, int_wrap-mul_left, int_wrap-mul_right, int_wrap-add_same}
use Rattle.op_laws.specs.declared.TheConstants.{MAX_ELEMENTS}
use Rattle.op_laws.specs.declared.width.Width.{Width}
use Rattle.op_laws.specs.declared.width.Width.TheVariants.{W64}
use Rattle.op_laws.specs.Widths.{FitsWidth}
use Rattle.op_laws.specs.Admits.{Admits}
use Rattle.op_laws.specs.TreeLaws.{UpwardLaws, NothingLaws, DownwardLaws}
use Rattle.op_catalog.specs.Words.{IsWordType, IsWord}
use Rattle.op_catalog.specs.WordLaws.{word_lift_laws, wrapped_fits}
use Rattle.op_catalog.specs.Products.{wrapped_product}
use Rattle.op_catalog.specs.Rings.{*ℤ_assoc, *ℤ-+ℤ}
use Rattle.op_catalog.specs.declared.affine.Line.{Line}
use Rattle.op_catalog.specs.Lines.{line, after_line, IsLine}
use Rattle.op_catalog.specs.LineLaws.{line_combine_laws}
use Rattle.tree_aux.specs.SumTrees.{single, IsAny}
use Rattle.tree_aux.specs.declared.expr_op.Arithmetic.{Arithmetic}
use Rattle.tree_aux.specs.declared.expr_op.Arithmetic.TheVariants.{Plus, Times}
use Rattle.tree_aux.specs.declared.expr_op.OpenExpr.{OpenExpr}
use Rattle.tree_aux.specs.WordTrees.{image, word_type, heap_down, worked, operand, expr_hole, expr_up, IsOpenExpr, weighted, ring_up, IsOpenRing}

pub naught_word : FitsWidth W64 (pos 0)
naught_word = record { low = omega (arith, ints); high = omega (arith, ints) }

one_word : FitsWidth W64 (pos 1)
one_word = record { low = omega (arith, ints); high = omega (arith, ints) }

two_word : FitsWidth W64 (pos 2)
two_word = record { low = omega (arith, ints); high = omega (arith, ints) }

-- a function after a function is that of the two
pub image-after : (a : Line) (na : ℕ) (b : Line) (nb : ℕ) (c : ℤ) → na + nb ≤ MAX_ELEMENTS → IsLine a na → IsLine b nb → FitsWidth W64 c → image b (image a c) ≡ image (after_line a b) c
image-after a na b nb c few fa fb fc =
    ap (λ (d : Line). d.offset) (line_combine_laws.associative (line (pos 0) c) 0 a na b nb (omega arith) (record { scale = naught_word; offset = fc }) fa fb)

pub after_fits : (a b : Line) (n : ℕ) → IsLine (after_line a b) n
after_fits a b n = record { scale = wrapped_fits (a.scale *ℤ b.scale); offset = wrapped_fits ((b.scale *ℤ a.offset) +ℤ b.offset) }

line_grows : (d : Line) (m n : ℕ) → IsLine d m → IsLine d n
line_grows d m n f = record { scale = f.scale; offset = f.offset }

word_finished : (ty : List Width) (c : ℤ) → ty ≡ word_type → FitsWidth W64 c → Admits ty (c ∷ [])
word_finished ty c e f = rw e (f, tt)

pub heap_down_laws : DownwardLaws IsAny (λ _. word_type) heap_down single IsWord IsLine
heap_down_laws = record {
  grows = λ v m n le f. f;
  way_grows = λ d m n le f. line_grows d m n f;
  finished_admitted = λ ty v n taken few f. (f, tt);
  start_fits = λ c f. f;
  left_fits = λ ty e taken admitted. record { scale = two_word; offset = naught_word };
  right_fits = λ ty e taken admitted. record { scale = two_word; offset = one_word };
  then_fits = λ a na b nb few fa fb. after_fits a b (na + nb);
  down_fits = λ c nc d nd few fc fd. wrapped_fits ((d.scale *ℤ c) +ℤ d.offset);
  contract = λ c nc a na b nb few fc fa fb. image-after a na b nb c (omega arith) fa fb fc;
}

-- ---- expressions

pub worked_fits : (op : Arithmetic) (l r : ℤ) → FitsWidth W64 (worked op l r)
worked_fits Plus l r = wrapped_fits (l +ℤ r)
worked_fits Times l r = wrapped_fits (l *ℤ r)

pub operand_fits : (op : Arithmetic) (r : ℤ) (n : ℕ) → FitsWidth W64 r → IsLine (operand op r) n
operand_fits Plus r n f = record { scale = one_word; offset = f }
operand_fits Times r n f = record { scale = f; offset = naught_word }

worked-comm : (op : Arithmetic) (l r : ℤ) → worked op l r ≡ worked op r l
worked-comm Plus l r = ap (int_wrap w64) (+ℤ_comm l r)
worked-comm Times l r = ap (int_wrap w64) (*ℤ_comm l r)

one_times : (l r : ℤ) → l +ℤ r ≡ (pos 1 *ℤ l) +ℤ r
one_times l r = omega (arith, ints)

turned : (l r : ℤ) → l *ℤ r ≡ (r *ℤ l) +ℤ pos 0
turned l r = let e = *ℤ_comm l r in omega (arith, ints)

worked-operand : (op : Arithmetic) (l r : ℤ) → worked op l r ≡ image (operand op r) l
worked-operand Plus l r = ap (int_wrap w64) (one_times l r)
worked-operand Times l r = ap (int_wrap w64) (turned l r)

expr_contracts : (z : ℤ) (h : OpenExpr) (nh : ℕ) (g : OpenExpr) (ng : ℕ) (r : ℤ) (nr : ℕ) → nh + ng + nr ≤ MAX_ELEMENTS → FitsWidth W64 z → IsOpenExpr h nh → IsOpenExpr g ng → FitsWidth W64 r
    → image g.line (worked g.arithmetic (image h.line z) r) ≡ image (expr_hole h g r).line z
expr_contracts z h nh g ng r nr few fz fh fg fr =
    let d = operand g.arithmetic r in
    let fd : IsLine (operand g.arithmetic r) nr = operand_fits g.arithmetic r nr fr in
    let first = image-after h.line nh (operand g.arithmetic r) nr z (omega arith) fh fd fz in
    let both = image-after (after_line h.line (operand g.arithmetic r)) (nh + nr) g.line ng z (omega arith) (after_fits h.line (operand g.arithmetic r) (nh + nr)) fg fz in
    ap (image g.line) (worked-operand g.arithmetic (image h.line z) r ∙ first) ∙ both

pub expr_up_laws : UpwardLaws IsWordType (λ ty. ty) expr_up single IsWord IsOpenExpr
expr_up_laws = record {
  grows = λ v m n le f. f;
  hole_grows = λ g m n le f. line_grows g.line m n f;
  finished_admitted = word_lift_laws.finished_admitted;
  leaf_fits = word_lift_laws.lifted_fits;
  phi_fits = λ ty e taken admitted. record { scale = one_word; offset = naught_word };
  node_fits = λ l nl g ng r nr few fl fg fr. wrapped_fits ((g.line.scale *ℤ worked g.arithmetic l r) +ℤ g.line.offset);
  left_fits = λ h nh g ng r nr few fh fg fr. after_fits (after_line h.line (operand g.arithmetic r)) g.line (nh + ng + nr);
  right_fits = λ l nl g ng h nh few fl fg fh. after_fits (after_line h.line (operand g.arithmetic l)) g.line (nl + ng + nh);
  contract_left = λ x nx h nh y ny g ng r nr few fx fh fy fg fr. expr_contracts (worked h.arithmetic x y) h nh g ng r nr (omega arith) (worked_fits h.arithmetic x y) fh fg fr;
  contract_right = λ l nl g ng x nx h nh y ny few fl fg fx fh fy.
      ap (image g.line) (worked-comm g.arithmetic l (image h.line (worked h.arithmetic x y)))
      ∙ expr_contracts (worked h.arithmetic x y) h nh g ng l nl (omega arith) (worked_fits h.arithmetic x y) fh fg fl;
}

-- ---- sums of products. Two numbers are the same modulo 2^64 where they wrap to one.

abbrev pub SameWord : ℤ → ℤ → Type 0
SameWord a b = int_wrap w64 a ≡ int_wrap w64 b

same_add : (a a' b b' : ℤ) → SameWord a a' → SameWord b b' → SameWord (a +ℤ b) (a' +ℤ b')
same_add a a' b b' ea eb =
    int_wrap-add_same w64 a a' b ea ∙ ap (int_wrap w64) (+ℤ_comm a' b) ∙ int_wrap-add_same w64 b b' a' eb ∙ ap (int_wrap w64) (+ℤ_comm b' a')

pub wrap_wrap : (a : ℤ) → SameWord (int_wrap w64 a) a
wrap_wrap a = int_wrap_fits w64 (int_wrap w64 a) (SFits-int_wrap w64 a)

-- what a sum of three terms is, where each is the same
pub same_three : (a a' b b' c c' : ℤ) → SameWord a a' → SameWord b b' → SameWord c c' → SameWord ((a +ℤ b) +ℤ c) ((a' +ℤ b') +ℤ c')
same_three a a' b b' c c' ea eb ec = same_add (a +ℤ b) (a' +ℤ b') c c' (same_add a a' b b' ea eb) ec

spread_left : (p p1 x q1 y t1 s t : ℤ) → ((p *ℤ (((p1 *ℤ x) +ℤ (q1 *ℤ y)) +ℤ t1)) +ℤ s) +ℤ t ≡ (((p *ℤ p1) *ℤ x) +ℤ ((p *ℤ q1) *ℤ y)) +ℤ (((p *ℤ t1) +ℤ s) +ℤ t)
spread_left p p1 x q1 y t1 s t =
    let a = *ℤ-+ℤ p ((p1 *ℤ x) +ℤ (q1 *ℤ y)) t1 in
    let b = *ℤ-+ℤ p (p1 *ℤ x) (q1 *ℤ y) in
    let c = *ℤ_assoc p p1 x in
    let d = *ℤ_assoc p q1 y in
    omega (arith, ints, a, b, c, d)

swap_two : (a b t : ℤ) → (a +ℤ b) +ℤ t ≡ (b +ℤ a) +ℤ t
swap_two a b t = omega (arith, ints)

-- the outer node's number p for the inner one, and what else it adds
ring_contracts : (p p1 x q1 y t1 s t : ℤ)
    → int_wrap w64 (((p *ℤ weighted p1 x q1 y t1) +ℤ s) +ℤ t) ≡ int_wrap w64 (((wrapped_product p p1 *ℤ x) +ℤ (wrapped_product p q1 *ℤ y)) +ℤ int_wrap w64 (((p *ℤ t1) +ℤ s) +ℤ t))
ring_contracts p p1 x q1 y t1 s t =
    let inner = ((p1 *ℤ x) +ℤ (q1 *ℤ y)) +ℤ t1 in
    let rest = ((p *ℤ t1) +ℤ s) +ℤ t in
    same_three (p *ℤ weighted p1 x q1 y t1) (p *ℤ (((p1 *ℤ x) +ℤ (q1 *ℤ y)) +ℤ t1)) s s t t (int_wrap-mul_right w64 p (((p1 *ℤ x) +ℤ (q1 *ℤ y)) +ℤ t1)) refl refl
    ∙ ap (int_wrap w64) (spread_left p p1 x q1 y t1 s t)
    ∙ sym (same_three (wrapped_product p p1 *ℤ x) ((p *ℤ p1) *ℤ x) (wrapped_product p q1 *ℤ y) ((p *ℤ q1) *ℤ y) (int_wrap w64 (((p *ℤ t1) +ℤ s) +ℤ t)) (((p *ℤ t1) +ℤ s) +ℤ t)
    (int_wrap-mul_left w64 (p *ℤ p1) x) (int_wrap-mul_left w64 (p *ℤ q1) y) (wrap_wrap (((p *ℤ t1) +ℤ s) +ℤ t)))

pub ring_up_laws : UpwardLaws IsWordType (λ ty. ty) ring_up single IsWord IsOpenRing
ring_up_laws = record {
  grows = λ v m n le f. f;
  hole_grows = λ g m n le f. record { children = f.children; siblings = f.siblings; own = f.own };
  finished_admitted = word_lift_laws.finished_admitted;
  leaf_fits = λ ty e taken admitted. naught_word;
  phi_fits = λ ty e taken admitted. let f = word_lift_laws.lifted_fits ty e taken admitted in record { children = f; siblings = one_word; own = f };
  node_fits = λ l nl g ng r nr few fl fg fr. wrapped_fits _;
  left_fits = λ h nh g ng r nr few fh fg fr. record { children = wrapped_fits _; siblings = wrapped_fits _; own = wrapped_fits _ };
  right_fits = λ l nl g ng h nh few fl fg fh. record { children = wrapped_fits _; siblings = wrapped_fits _; own = wrapped_fits _ };
  contract_left = λ x nx h nh y ny g ng r nr few fx fh fy fg fr. ring_contracts g.children h.children x h.siblings y h.own (g.siblings *ℤ r) g.own;
  contract_right = λ l nl g ng x nx h nh y ny few fl fg fx fh fy.
      ap (int_wrap w64) (swap_two (g.children *ℤ l) (g.siblings *ℤ weighted h.children x h.siblings y h.own) g.own)
      ∙ ring_contracts g.siblings h.children x h.siblings y h.own (g.children *ℤ l) g.own
      ∙ ap (λ (z : ℤ). int_wrap w64 (((wrapped_product g.siblings h.children *ℤ x) +ℤ (wrapped_product g.siblings h.siblings *ℤ y)) +ℤ int_wrap w64 z)) (swap_two (g.siblings *ℤ h.own) (g.children *ℤ l) g.own);
}

pub ring_nothing_laws : NothingLaws (pos 0) ring_up IsWord
ring_nothing_laws = record { nothing_fits = naught_word; leaf_is_nothing = λ e. refl }
