-- Binary trees by the places of their preorder.
use Rattle.std.proofs.Common.{◌≡◌, ℕ, zero, suc, ◌+◌, ◌-◌, ◌<◌, ◌≤◌, true, false, cond, List, length, get_or, refl, sym, ◌∙◌, ap, arith, length-append, nat_lt, inl, inr}
use Rattle.std.proofs.lemmas.Bool.{cases_lt, lt-ltb, le-ltb}
use Rattle.std.proofs.lemmas.List.{get_or_append_left, get_or-append_right}
use Rattle.bin_tree.specs.Trees.{BTree, Leaf, Node, size, is_leaf, sub_at, column}

pub if_lt : {X : Type 0} (i n : ℕ) (x y : X) → i < n → cond (nat_lt i n) x y ≡ x
if_lt i n x y h = ap (λ b. cond b x y) (lt-ltb i n h)

pub if_ge : {X : Type 0} (i n : ℕ) (x y : X) → n ≤ i → cond (nat_lt i n) x y ≡ y
if_ge i n x y h = ap (λ b. cond b x y) (le-ltb i n h)

pub size_pos : {A : Type 0} (t : BTree A) → 0 < size t
size_pos (Leaf a) = omega arith
size_pos (Node b l r) = omega arith

pub sub_at-top : {A : Type 0} (t : BTree A) → sub_at t 0 ≡ t
sub_at-top (Leaf a) = refl
sub_at-top (Node b l r) = refl

-- the places of the left subtree come first
pub sub_at-left : {A : Type 0} (b : A) (l r : BTree A) (i : ℕ) → i < size l → sub_at (Node b l r) (suc i) ≡ sub_at l i
sub_at-left b l r i h = if_lt i (size l) (sub_at l i) (sub_at r (i - size l)) h

pub sub_at-right : {A : Type 0} (b : A) (l r : BTree A) (i j : ℕ) → i ≡ size l + j → sub_at (Node b l r) (suc i) ≡ sub_at r j
sub_at-right b l r i j h = if_ge i (size l) (sub_at l i) (sub_at r (i - size l)) (omega arith) ∙ ap (sub_at r) (omega arith)

-- the subtree at a place ends within the tree
pub within_at : {A : Type 0} (t : BTree A) (i : ℕ) → i < size t → i + size (sub_at t i) ≤ size t
within_at (Leaf a) i h = omega arith
within_at (Node b l r) zero h = omega arith
within_at (Node b l r) (suc i) h =
    elim (cases_lt i (size l)) as (λ _. suc i + size (sub_at (Node b l r) (suc i)) ≤ size (Node b l r)) [
      | inl p ↦ let w = within_at l i p in rw (sub_at-left b l r i p) (omega arith)
      | inr q ↦ let j : i ≡ size l + (i - size l) = omega arith in let w = within_at r (i - size l) (omega arith) in rw (sub_at-right b l r i (i - size l) j) (omega arith)
    ]

module _ {A X : Type 0} (f : BTree A → X) where
  pub length-column : (t : BTree A) → length (column f t) ≡ size t
  length-column (Leaf a) = refl
  length-column (Node b l r) =
      let p = length-column l in let q = length-column r in
      let both = length-append (column f l) (column f r) in omega arith

  -- a column has at a place what f says of the subtree there
  pub get_or-column : (t : BTree A) (i : ℕ) (d : X) → i < size t → get_or (column f t) i d ≡ f (sub_at t i)
  get_or-column (Leaf a) zero d h = refl
  get_or-column (Leaf a) (suc i) d h = absurd (omega arith)
  get_or-column (Node b l r) zero d h = refl
  get_or-column (Node b l r) (suc i) d h =
      elim (cases_lt i (size l)) as (λ _. get_or (column f (Node b l r)) (suc i) d ≡ f (sub_at (Node b l r) (suc i))) [
        | inl p ↦ get_or_append_left (column f l) (column f r) d i (let n = length-column l in omega arith) ∙ (get_or-column l i d p ∙ ap f (sym (sub_at-left b l r i p)))
        | inr q ↦ let j : i ≡ size l + (i - size l) = omega arith in
            get_or-append_right (column f l) (column f r) (size l) i d (length-column l) q ∙ (get_or-column r (i - size l) d (omega arith) ∙ ap f (sym (sub_at-right b l r i (i - size l) j)))
      ]

  -- a column that is kept is as long as the tree, and has at a place what f says of the subtree there
  pub length-kept : (xs : List X) (t t' : BTree A) → xs ≡ column f t → t ≡ t' → length xs ≡ size t'
  length-kept xs t t' e g = ap length e ∙ (length-column t ∙ ap size g)

  pub get_or-kept : (xs : List X) (t t' : BTree A) (i : ℕ) (d : X) → xs ≡ column f t → t ≡ t' → i < size t' → get_or xs i d ≡ f (sub_at t' i)
  get_or-kept xs t t' i d e g h = ap (λ ys. get_or ys i d) (e ∙ ap (column f) g) ∙ get_or-column t' i d h

-- an inner node stands at a place, and its subtrees begin at these places
pub record IsNodeAt {A : Type 0} (t : BTree A) (i : ℕ) (b : A) (l r : BTree A) : Type 0 where
  pub is : sub_at t i ≡ Node b l r
  pub left : sub_at t (i + 1) ≡ l
  pub right : sub_at t (i + 1 + size l) ≡ r
  pub within : i + (1 + size l + size r) ≤ size t

module _ {A : Type 0} where
  at_root : (b : A) (l r : BTree A) → IsNodeAt (Node b l r) 0 b l r
  at_root b l r = record {
    is = refl;
    left = sub_at-left b l r 0 (size_pos l) ∙ sub_at-top l;
    right = ap (sub_at (Node b l r)) (let e : 0 + 1 + size l ≡ suc (size l) = omega arith in e) ∙ (sub_at-right b l r (size l) 0 (omega arith) ∙ sub_at-top r);
    within = omega arith;
  }

  in_left : (a b : A) (s l r other : BTree A) (i : ℕ) → i < size s → IsNodeAt s i b l r → IsNodeAt (Node a s other) (suc i) b l r
  in_left a b s l r other i h n =
      let w = n.within in let p = size_pos l in let q = size_pos r in
      record {
        is = sub_at-left a s other i h ∙ n.is;
        left = ap (sub_at (Node a s other)) (let e : suc i + 1 ≡ suc (i + 1) = omega arith in e) ∙ (sub_at-left a s other (i + 1) (omega arith) ∙ n.left);
        right = ap (sub_at (Node a s other)) (let e : suc i + 1 + size l ≡ suc (i + 1 + size l) = omega arith in e) ∙ (sub_at-left a s other (i + 1 + size l) (omega arith) ∙ n.right);
        within = omega arith;
      }

  in_right : (a b : A) (s l r other : BTree A) (i j : ℕ) → i ≡ size other + j → IsNodeAt s j b l r → IsNodeAt (Node a other s) (suc i) b l r
  in_right a b s l r other i j e n =
      let w = n.within in
      record {
        is = sub_at-right a other s i j e ∙ n.is;
        left = ap (sub_at (Node a other s)) (let e : suc i + 1 ≡ suc (i + 1) = omega arith in e) ∙ (sub_at-right a other s (i + 1) (j + 1) (omega arith) ∙ n.left);
        right = ap (sub_at (Node a other s)) (let e : suc i + 1 + size l ≡ suc (i + 1 + size l) = omega arith in e) ∙ (sub_at-right a other s (i + 1 + size l) (j + 1 + size l) (omega arith) ∙ n.right);
        within = omega arith;
      }

  -- a place that is no leaf is an inner node
  pub node_at : (t : BTree A) (i : ℕ) → i < size t → is_leaf (sub_at t i) ≡ false → (b : A) × (l : BTree A) × (r : BTree A) × IsNodeAt t i b l r
  node_at (Leaf a) i h f = absurd (cc)
  node_at (Node b l r) zero h f = (b, l, r, at_root b l r)
  node_at (Node a s u) (suc i) h f =
      elim (cases_lt i (size s)) as (λ _. (b : A) × (l : BTree A) × (r : BTree A) × IsNodeAt (Node a s u) (suc i) b l r) [
        | inl p ↦ let (b, l, r, n) = node_at s i p (ap is_leaf (sym (sub_at-left a s u i p)) ∙ f) in (b, l, r, in_left a b s l r u i p n)
        | inr q ↦
            let e : i ≡ size s + (i - size s) = omega arith in
            let (b, l, r, n) = node_at u (i - size s) (omega arith) (ap is_leaf (sym (sub_at-right a s u i (i - size s) e)) ∙ f) in
            (b, l, r, in_right a b u l r s i (i - size s) e n)
      ]

  pub size-leaf : (t : BTree A) → is_leaf t ≡ true → size t ≡ 1
  size-leaf (Leaf a) e = refl
  size-leaf (Node b l r) e = absurd (cc)
