-- Nodes and depths of scalars.
use Rattle.std.proofs.Common.{◌≡◌, ℕ, ◌+◌, ◌<◌, ◌≤◌, max, List, [], ◌∷◌, ◌++◌, length, length-append, refl, arith}
use Rattle.scalar_expr.specs.declared.pair.Pair.{Pair}
use Rattle.scalar_expr.specs.Expr.{Expr, lit, part, two, cond, wrap, postorder, nodes, depth_of}

pub has_depth : (s : Expr) → 1 ≤ depth_of s
has_depth (lit n) = omega arith
has_depth (part i) = omega arith
has_depth (two op a b) = omega arith
has_depth (cond c a b) = omega arith
has_depth (wrap a) = omega arith

pub has_nodes : (s : Expr) → 1 ≤ nodes s
has_nodes (lit n) = omega arith
has_nodes (part i) = omega arith
has_nodes (two op a b) = omega arith
has_nodes (cond c a b) = omega arith
has_nodes (wrap a) = omega arith

pub length-postorder : (s : Expr) → length (postorder s) ≡ nodes s
length-postorder (lit n) = refl
length-postorder (part i) = refl
length-postorder (two op a b) =
    let x = length-postorder a in
    let y = length-postorder b in
    omega (arith, length-append (postorder a) (postorder b ++ two op a b ∷ []), length-append (postorder b) (two op a b ∷ []))
length-postorder (cond c a b) =
    let z = length-postorder c in
    let x = length-postorder a in
    let y = length-postorder b in
    omega (arith, length-append (postorder c) (postorder a ++ (postorder b ++ cond c a b ∷ [])), length-append (postorder a) (postorder b ++ cond c a b ∷ []), length-append (postorder b) (cond c a b ∷ []))
length-postorder (wrap a) = let x = length-postorder a in omega (arith, length-append (postorder a) (wrap a ∷ []))
