-- Ceilings of sizes.
use Rattle.std.proofs.Common.{◌≡◌, ℕ, zero, suc, ◌+◌, ◌-◌, ◌*◌, ◌/◌, ◌%◌, ◌<◌, ◌≤◌, refl, arith}
use Rattle.std.proofs.Math.Nat.{lt_of_mul-lt-mul_left}
use Rattle.op_laws.specs.Trees.{BTree, Leaf, Node, size}
use Rattle.bin_tree.proofs.TreeLemmas.{size_pos}
use Rattle.m_bridges.specs.Parts.{rank}

-- k is ⌈n / m⌉
pub record IsCeiling (m n k : ℕ) : Type 0 where
  pub enough : n ≤ m * k
  pub least : m * k < n + m

pub is_ceiling : (m n : ℕ) → 0 < m → IsCeiling m n ((n + (m - 1)) / m)
is_ceiling m n p =
    let k = (n + (m - 1)) / m in
    let r : m * k + (n + (m - 1)) % m ≡ n + (m - 1) = omega arith in
    let s : (n + (m - 1)) % m < m = omega arith in
    record { enough = omega arith; least = omega arith }

-- a ceiling of a greater number is no smaller
pub ceiling_grows : (m n k n' k' : ℕ) → IsCeiling m n k → IsCeiling m n' k' → n ≤ n' → k ≤ k'
ceiling_grows m n k n' k' c c' h =
    let e = c'.enough in let l = c.least in
    let d : m * k < m * (k' + 1) = omega arith in
    let f = lt_of_mul-lt-mul_left m d in omega arith

-- the ceilings of two numbers, and of their sum and one more
pub ceilings_add : (m x i y j n k : ℕ) → IsCeiling m x i → IsCeiling m y j → IsCeiling m n k → n ≡ 1 + x + y → i + j ≤ k + 1
ceilings_add m x i y j n k a b c h =
    let e = c.enough in let f = a.least in let g = b.least in
    let d : m * (i + j) < m * (k + 2) = omega arith in
    let z = lt_of_mul-lt-mul_left m d in omega arith

pub ceiling_pos : (m n k : ℕ) → IsCeiling m n k → 0 < n → 0 < k
ceiling_pos m n zero c p = let e = c.enough in absurd (omega arith)
ceiling_pos m n (suc k) c p = omega arith

pub ceiling_one : (m k : ℕ) → 0 < m → IsCeiling m 1 k → k ≡ 1
ceiling_one m k p c =
    let l = c.least in
    let d : m * k < m * 2 = omega arith in
    let f = lt_of_mul-lt-mul_left m d in
    let q = ceiling_pos m 1 k c (omega arith) in omega arith

-- the ceiling of a number that isn't over m is at most 1
pub ceiling_small : (m n k : ℕ) → IsCeiling m n k → n ≤ m → 0 < m → k ≤ 1
ceiling_small m n k c h p =
    let l = c.least in
    let d : m * k < m * 2 = omega arith in
    let f = lt_of_mul-lt-mul_left m d in omega arith

module _ {A : Type 0} (m : ℕ) (pos_m : 0 < m) where
  pub ranked : (t : BTree A) → IsCeiling m (size t) (rank m t)
  ranked t = is_ceiling m (size t) pos_m

  pub rank_pos : (t : BTree A) → 0 < rank m t
  rank_pos t = ceiling_pos m (size t) (rank m t) (ranked t) (size_pos t)

  pub rank_leaf : (a : A) → rank m (Leaf a) ≡ 1
  rank_leaf a = ceiling_one m (rank m (Leaf a)) pos_m (ranked (Leaf a))

  pub rank_left : (b : A) (l r : BTree A) → rank m l ≤ rank m (Node b l r)
  rank_left b l r = ceiling_grows m (size l) (rank m l) (size (Node b l r)) (rank m (Node b l r)) (ranked l) (ranked (Node b l r)) (omega arith)

  pub rank_right : (b : A) (l r : BTree A) → rank m r ≤ rank m (Node b l r)
  rank_right b l r = ceiling_grows m (size r) (rank m r) (size (Node b l r)) (rank m (Node b l r)) (ranked r) (ranked (Node b l r)) (omega arith)

  pub rank_both : (b : A) (l r : BTree A) → rank m l + rank m r ≤ rank m (Node b l r) + 1
  rank_both b l r = ceilings_add m (size l) (rank m l) (size r) (rank m r) (size (Node b l r)) (rank m (Node b l r)) (ranked l) (ranked r) (ranked (Node b l r)) refl

  pub rank_small : (t : BTree A) → size t ≤ m → rank m t ≤ 1
  rank_small t h = ceiling_small m (size t) (rank m t) (ranked t) h pos_m
