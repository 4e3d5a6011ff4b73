-- The greatest sum along a path, and the greatest sum of a subtree.
use Rattle.std.specs.Prelude.{◌≡◌, ◌⊎◌, ℕ, ℤ, pos, ◌+ℤ◌, ◌≤ℤ◌, List, [], ◌∷◌, Option, Some, None}
use Rattle.std.specs.List.{fold}
use Rattle.std.specs.Int.{int_max}
use Rattle.op_laws.specs.Trees.{BTree, Leaf, Node}
use Rattle.op_laws.specs.TreeFolds.{Upward, fold_by}
use Rattle.op_laws.specs.Roses.{RoseTree}
use Rattle.op_laws.specs.RoseFolds as rose
use Rattle.op_catalog.specs.Numbers.{number_of}
use Rattle.op_catalog.specs.Sums.{IsSumOf}
use Rattle.tree_aux.specs.BoundTrees.{or_chosen}
use Rattle.tree_aux.specs.SumTrees.{tree_sum}
use Rattle.tree_aux.specs.declared.heavy.OpenHeavy.{OpenHeavy}
use Rattle.tree_aux.specs.declared.best_sub.SubtreeSums.{SubtreeSums}
use Rattle.tree_aux.specs.declared.best_sub.OpenSubtrees.{OpenSubtrees}
use Rattle.tree_aux.specs.declared.r_heavy.OpenPaths.{OpenPaths}

-- P holds of r, and of no greater number
pub record IsGreatestWith (P : ℤ → Type 0) (r : ℤ) : Type 0 where
  pub bound : (s : ℤ) → P s → s ≤ℤ r
  pub reached : P r

-- an absent number, or a sum
abbrev pub MayBeSumOf : ℕ → Option ℤ → ℕ → Type 0
MayBeSumOf W None n = Unit {0}
MayBeSumOf W (Some c) n = IsSumOf W c n

-- the number, or a greater one that is there
abbrev pub or_greater : ℤ → Option ℤ → ℤ
or_greater c o = or_chosen int_max c o

-- ---- from the root to a leaf

-- of a node the greater of its children's and its own number
abbrev pub tree_heavy : BTree (List ℤ) → ℤ
tree_heavy t = fold_by number_of (λ l b r. int_max l r +ℤ number_of b) t

-- s is the sum along some path from the root to a leaf
abbrev pub IsPathSum : BTree (List ℤ) → ℤ → Type 0
IsPathSum (Leaf a) s = s ≡ number_of a
IsPathSum (Node b l r) s = (rest : ℤ) × (IsPathSum l rest ⊎ IsPathSum r rest) × (s ≡ rest +ℤ number_of b)

abbrev pub open_heavy : ℤ → Option ℤ → OpenHeavy
open_heavy p q = record { own = p; other = q }

-- the inner node h below the outer one, whose other child has the value r
abbrev pub heavy_hole : OpenHeavy → OpenHeavy → ℤ → OpenHeavy
heavy_hole h g r = open_heavy (h.own +ℤ g.own) (Some (or_greater (or_greater r h.other +ℤ g.own) g.other))

abbrev pub heavy_up : Upward (List ℤ) ℤ OpenHeavy
heavy_up = record {
  leaf = number_of;
  phi = λ b. open_heavy (number_of b) None;
  node = λ l g r. or_greater (int_max l r +ℤ g.own) g.other;
  hole_left = heavy_hole;
  hole_right = λ l g h. heavy_hole h g l;
}

pub record IsOpenHeavy (W : ℕ) (g : OpenHeavy) (n : ℕ) : Type 0 where
  pub own : IsSumOf W g.own n
  pub other : MayBeSumOf W g.other n

-- ---- whole subtrees

-- the greatest of the children's and of the sum of the whole tree
abbrev pub tree_best : BTree (List ℤ) → ℤ
tree_best (Leaf a) = number_of a
tree_best (Node b l r) = int_max (int_max (tree_best l) (tree_best r)) (tree_sum (Node b l r))

-- s is the sum of the tree or of a subtree
abbrev pub IsSubtreeSum : BTree (List ℤ) → ℤ → Type 0
IsSubtreeSum (Leaf a) s = s ≡ tree_sum (Leaf a)
IsSubtreeSum (Node b l r) s = (s ≡ tree_sum (Node b l r)) ⊎ IsSubtreeSum l s ⊎ IsSubtreeSum r s

abbrev pub subtree_sums : ℤ → ℤ → SubtreeSums
subtree_sums s b = record { whole = s; best = b }

abbrev pub open_subtrees : ℤ → ℤ → Option ℤ → OpenSubtrees
open_subtrees p q t = record { whole = p; through = q; best = t }

abbrev pub best_node : SubtreeSums → OpenSubtrees → SubtreeSums → SubtreeSums
best_node l g r = subtree_sums ((l.whole +ℤ g.whole) +ℤ r.whole) (or_greater (int_max (int_max l.best r.best) ((l.whole +ℤ g.through) +ℤ r.whole)) g.best)

-- the inner node h below the outer one, whose other child has the value r
abbrev pub best_hole : OpenSubtrees → OpenSubtrees → SubtreeSums → OpenSubtrees
best_hole h g r = open_subtrees ((h.whole +ℤ g.whole) +ℤ r.whole) (int_max h.through ((h.whole +ℤ g.through) +ℤ r.whole)) (Some (or_greater (or_greater r.best h.best) g.best))

abbrev pub best_of : SubtreeSums → List ℤ
best_of v = v.best ∷ []

abbrev pub best_up : Upward (List ℤ) SubtreeSums OpenSubtrees
best_up = record {
  leaf = λ e. subtree_sums (number_of e) (number_of e);
  phi = λ b. open_subtrees (number_of b) (number_of b) None;
  node = best_node;
  hole_left = best_hole;
  hole_right = λ l g h. best_hole h g l;
}

pub record AreSubtreeSums (W : ℕ) (v : SubtreeSums) (n : ℕ) : Type 0 where
  pub whole : IsSumOf W v.whole n
  pub best : IsSumOf W v.best n

pub record AreOpenSubtrees (W : ℕ) (g : OpenSubtrees) (n : ℕ) : Type 0 where
  pub whole : IsSumOf W g.whole n
  pub through : IsSumOf W g.through n
  pub best : MayBeSumOf W g.best n

-- ---- from the root of a rose tree to any node

-- the greatest sum along a path from the root down to some node
abbrev pub rose_heavy : RoseTree (List ℤ) → ℤ
rose_heavy r = rose.fold_by (λ a vs. number_of a +ℤ fold int_max (pos 0) vs) r

abbrev pub open_paths : ℤ → ℤ → ℤ → OpenPaths
open_paths p q t = record { children = p; siblings = q; own = t }

-- `best`, or `way` and the value below it, where that is there and greater
abbrev pub longer : ℤ → Option ℤ → ℤ → ℤ
longer way None best = best
longer way (Some v) best = int_max best (way +ℤ v)

abbrev pub rose_heavy_up : Upward (List ℤ) (Option ℤ) OpenPaths
rose_heavy_up = record {
  leaf = λ e. None;
  phi = λ b. open_paths (number_of b) (pos 0) (number_of b);
  node = λ x g y. Some (longer g.children x (longer g.siblings y g.own));
  hole_left = λ h g r. open_paths (g.children +ℤ h.children) (g.children +ℤ h.siblings) (longer g.siblings r (int_max g.own (g.children +ℤ h.own)));
  hole_right = λ l g h. open_paths (g.siblings +ℤ h.children) (g.siblings +ℤ h.siblings) (longer g.children l (int_max g.own (g.siblings +ℤ h.own)));
}

pub record AreOpenPaths (W : ℕ) (g : OpenPaths) (n : ℕ) : Type 0 where
  pub children : IsSumOf W g.children n
  pub siblings : IsSumOf W g.siblings n
  pub own : IsSumOf W g.own n
