-- How many numbers a scalar holds at once.
use Rattle.std.proofs.Common.{◌≡◌, ℕ, zero, suc, ◌+◌, ◌*◌, ◌<◌, ◌≤◌, max, Bool, true, false, ◌&&◌, List, [], ◌∷◌, drop, slice_get, Some, refl, ap, sym, ◌∙◌, arith}
use Rattle.std.specs.List.{list_all}
use Rattle.op_laws.specs.declared.width.Width.{Width}
use Rattle.op_laws.specs.declared.width.Width.TheVariants.{W64, W96, W128}
use Rattle.scalar_expr.specs.Expr.{Expr, lit, part, two, cond, wrap, depth_of}
use Rattle.scalar_expr.specs.Columns.{is_w64, columns_held, columns_needed}
use Rattle.scalar_expr.proofs.Nodes.{has_depth}

one_held : (s : Expr) → columns_held s ≤ 1
one_held (lit n) = omega arith
one_held (part i) = omega arith
one_held (two op a b) = omega arith
one_held (cond c a b) = omega arith
one_held (wrap a) = omega arith

pub few_needed : (s : Expr) → columns_needed s + 1 ≤ 2 * depth_of s
few_needed (lit n) = omega arith
few_needed (part i) = omega arith
few_needed (two op a b) = omega (arith, few_needed a, few_needed b, one_held a, has_depth a)
few_needed (cond c a b) = omega (arith, few_needed c, few_needed a, few_needed b, one_held c, one_held a, has_depth a)
few_needed (wrap a) = omega (arith, few_needed a)

-- widths from one that is w64 on
pub more_w64 : (ty : List Width) (k : ℕ) → slice_get ty k ≡ Some W64 → list_all is_w64 (drop (suc k) ty) ≡ list_all is_w64 (drop k ty)
more_w64 [] k h = cc
more_w64 (v ∷ ty) zero h = let e : v ≡ W64 = cc in sym (ap (λ w. is_w64 w && list_all is_w64 ty) e)
more_w64 (v ∷ ty) (suc k) h = more_w64 ty k h

-- a list of widths that has one that isn't w64
pub not_w64 : (ty : List Width) (k : ℕ) (w : Width) → slice_get ty k ≡ Some w → is_w64 w ≡ false → list_all is_w64 (drop k ty) ≡ false
not_w64 [] k w h other = cc
not_w64 (v ∷ ty) zero w h other = let e : v ≡ w = cc in ap (λ u. is_w64 u && list_all is_w64 ty) e ∙ ap (λ b. b && list_all is_w64 ty) other
not_w64 (v ∷ ty) (suc k) w h other = not_w64 ty k w h other
