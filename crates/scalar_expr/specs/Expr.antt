-- Scalars as plain data.
use Rattle.std.specs.Prelude.{ℕ, ◌+◌, ℤ, max, List, [], ◌∷◌, ◌++◌}
use Rattle.op_laws.specs.declared.width.Width.TheVariants.{W64}
use Rattle.op_laws.specs.Widths.{FitsWidth}
use Rattle.scalar_expr.specs.declared.pair.Pair.{Pair}

-- a literal, a component, an operator on two parts, a choice by a condition, and a number modulo 2^64
pub data Expr : Type 0 where
  lit : ℤ → Expr
  part : ℕ → Expr
  two : Pair → Expr → Expr → Expr
  cond : Expr → Expr → Expr → Expr
  wrap : Expr → Expr

-- the nodes in postorder, each as the scalar that it is the root of
abbrev pub postorder : Expr → List Expr
postorder (lit n) = lit n ∷ []
postorder (part i) = part i ∷ []
postorder (two op a b) = postorder a ++ (postorder b ++ two op a b ∷ [])
postorder (cond c a b) = postorder c ++ (postorder a ++ (postorder b ++ cond c a b ∷ []))
postorder (wrap a) = postorder a ++ wrap a ∷ []

-- how many nodes there are
abbrev pub nodes : Expr → ℕ
nodes (lit n) = 1
nodes (part i) = 1
nodes (two op a b) = nodes a + nodes b + 1
nodes (cond c a b) = nodes c + nodes a + nodes b + 1
nodes (wrap a) = nodes a + 1

abbrev pub nodes_in : List Expr → ℕ
nodes_in [] = 0
nodes_in (s ∷ ss) = nodes s + nodes_in ss

-- the literals are numbers of w64
abbrev pub HasSmallLiterals : Expr → Type 0
HasSmallLiterals (lit n) = FitsWidth W64 n
HasSmallLiterals (part i) = Unit {0}
HasSmallLiterals (two op a b) = HasSmallLiterals a × HasSmallLiterals b
HasSmallLiterals (cond c a b) = HasSmallLiterals c × HasSmallLiterals a × HasSmallLiterals b
HasSmallLiterals (wrap a) = HasSmallLiterals a

-- a literal and a component have depth 1
abbrev pub depth_of : Expr → ℕ
depth_of (lit n) = 1
depth_of (part i) = 1
depth_of (two op a b) = max (depth_of a) (depth_of b) + 1
depth_of (cond c a b) = max (depth_of c) (max (depth_of a) (depth_of b)) + 1
depth_of (wrap a) = depth_of a + 1
