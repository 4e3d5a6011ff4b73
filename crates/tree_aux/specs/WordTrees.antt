-- Arithmetic modulo 2^64 on trees. `int_wrap w64 v` is the one number of w64 that differs from v by a multiple of 2^64.
use Rattle.std.specs.Prelude.{ℕ, ℤ, pos, ◌+ℤ◌, ◌*ℤ◌, List, [], ◌∷◌, if◌then◌else◌}
use Rattle.std.specs.Int.{w64, int_wrap}
use Rattle.std.specs.Ordering.{int_eq}
use Rattle.op_laws.specs.declared.width.Width.{Width}
use Rattle.op_laws.specs.declared.width.Width.TheVariants.{W64}
use Rattle.op_laws.specs.Widths.{FitsWidth}
use Rattle.op_laws.specs.Trees.{BTree}
use Rattle.op_laws.specs.TreeFolds.{Upward, Downward, fold_by}
use Rattle.op_laws.specs.Roses.{RoseTree}
use Rattle.op_laws.specs.RoseFolds as rose
use Rattle.op_catalog.specs.Numbers.{number_of}
use Rattle.op_catalog.specs.Sums.{sum_of}
use Rattle.op_catalog.specs.declared.affine.Line.{Line}
use Rattle.op_catalog.specs.Lines.{line, after_line, IsLine}
use Rattle.op_catalog.specs.Products.{wrapped_product}
use Rattle.tree_aux.specs.declared.expr_op.Arithmetic.{Arithmetic}
use Rattle.tree_aux.specs.declared.expr_op.Arithmetic.TheVariants.{Plus, Times}
use Rattle.tree_aux.specs.declared.expr_op.OpenExpr.{OpenExpr}
use Rattle.tree_aux.specs.declared.r_ring.OpenRing.{OpenRing}

abbrev pub wrapped_sum : ℤ → ℤ → ℤ
wrapped_sum a b = int_wrap w64 (a +ℤ b)

-- what the function of a line makes of y
abbrev pub image : Line → ℤ → ℤ
image d y = int_wrap w64 ((d.scale *ℤ y) +ℤ d.offset)

-- ---- places of a heap

abbrev pub word_type : List Width
word_type = W64 ∷ []

abbrev pub heap_down : Downward (List ℤ) ℤ Line
heap_down = record { start = λ c. c; left = λ e. line (pos 2) (pos 0); right = λ e. line (pos 2) (pos 1); then = after_line; down = λ c d. image d c }

abbrev pub heap_left : ℤ → List ℤ → ℤ
heap_left c e = int_wrap w64 (pos 2 *ℤ c)

abbrev pub heap_right : ℤ → List ℤ → ℤ
heap_right c e = int_wrap w64 ((pos 2 *ℤ c) +ℤ pos 1)

-- ---- expressions

-- the value of a node of number b: 0 adds the values of the children, and any other number multiplies them
abbrev pub node_value : ℤ → ℤ → ℤ → ℤ
node_value l b r = if int_eq b (pos 0) then int_wrap w64 (l +ℤ r) else int_wrap w64 (l *ℤ r)

-- the value of an expression
abbrev pub tree_expr : BTree (List ℤ) → ℤ
tree_expr t = fold_by number_of (λ l b r. node_value l (number_of b) r) t

abbrev pub arithmetic_of : ℤ → Arithmetic
arithmetic_of b = if int_eq b (pos 0) then Plus else Times

abbrev pub worked : Arithmetic → ℤ → ℤ → ℤ
worked Plus l r = wrapped_sum l r
worked Times l r = wrapped_product l r

-- the function of the one operand, where the other is known
abbrev pub operand : Arithmetic → ℤ → Line
operand Plus r = line (pos 1) r
operand Times r = line r (pos 0)

abbrev pub open_expr : Arithmetic → Line → OpenExpr
open_expr op d = record { arithmetic = op; line = d }

-- the inner node h below the outer one, whose other child has the value r
abbrev pub expr_hole : OpenExpr → OpenExpr → ℤ → OpenExpr
expr_hole h g r = open_expr h.arithmetic (after_line (after_line h.line (operand g.arithmetic r)) g.line)

abbrev pub expr_up : Upward (List ℤ) ℤ OpenExpr
expr_up = record {
  leaf = number_of;
  phi = λ b. open_expr (arithmetic_of (number_of b)) (line (pos 1) (pos 0));
  node = λ l g r. image g.line (worked g.arithmetic l r);
  hole_left = expr_hole;
  hole_right = λ l g h. expr_hole h g l;
}

-- its line has numbers of w64
abbrev pub IsOpenExpr : OpenExpr → ℕ → Type 0
IsOpenExpr g n = IsLine g.line n

-- ---- sums of products along paths

-- the sum over all nodes of the product of the values from the root to it
abbrev pub rose_ring : RoseTree (List ℤ) → ℤ
rose_ring r = rose.fold_by (λ a vs. int_wrap w64 (number_of a *ℤ (pos 1 +ℤ sum_of vs))) r

-- a times x and b times y and c
abbrev pub weighted : ℤ → ℤ → ℤ → ℤ → ℤ → ℤ
weighted a x b y c = int_wrap w64 (((a *ℤ x) +ℤ (b *ℤ y)) +ℤ c)

abbrev pub open_ring : ℤ → ℤ → ℤ → OpenRing
open_ring p q t = record { children = p; siblings = q; own = t }

abbrev pub ring_up : Upward (List ℤ) ℤ OpenRing
ring_up = record {
  leaf = λ e. pos 0;
  phi = λ b. open_ring (number_of b) (pos 1) (number_of b);
  node = λ x g y. weighted g.children x g.siblings y g.own;
  hole_left = λ h g r. open_ring (wrapped_product g.children h.children) (wrapped_product g.children h.siblings) (weighted g.children h.own g.siblings r g.own);
  hole_right = λ l g h. open_ring (wrapped_product g.siblings h.children) (wrapped_product g.siblings h.siblings) (weighted g.children l g.siblings h.own g.own);
}

-- three numbers of w64, of any weight
pub record IsOpenRing (g : OpenRing) (n : ℕ) : Type 0 where
  pub children : FitsWidth W64 g.children
  pub siblings : FitsWidth W64 g.siblings
  pub own : FitsWidth W64 g.own
