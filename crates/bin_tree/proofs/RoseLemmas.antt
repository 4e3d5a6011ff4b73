-- Rose trees by the places of their preorder.
use Rattle.std.proofs.Common.{◌≡◌, ℕ, zero, suc, ◌-◌, ◌<◌, List, length, get_or, refl, sym, ◌∙◌, ap, arith, length-append, inl, inr}
use Rattle.std.proofs.lemmas.Bool.{cases_lt}
use Rattle.std.proofs.lemmas.List.{get_or_append_left, get_or-append_right}
use Rattle.bin_tree.specs.Roses.{Forest, Bare, Plant, RoseTree, forest_size, size, planted_at, sub_at, forest_column, column}
use Rattle.bin_tree.proofs.TreeLemmas.{if_lt, if_ge}

module _ {A X : Type 0} (f : RoseTree A → X) where
  length-forest_column : (g : Forest A) → length (forest_column f g) ≡ forest_size g
  length-forest_column Bare = refl
  length-forest_column (Plant a below after) =
      let p = length-forest_column below in let q = length-forest_column after in
      let both = length-append (forest_column f below) (forest_column f after) in omega arith

  pub length-column : (r : RoseTree A) → length (column f r) ≡ size r
  length-column r = let n = length-forest_column r.below in omega arith

  get_or-forest_column : (other : RoseTree A) (g : Forest A) (i : ℕ) (d : X) → i < forest_size g → get_or (forest_column f g) i d ≡ f (planted_at other g i)
  get_or-forest_column other Bare i d h = absurd (omega arith)
  get_or-forest_column other (Plant a below after) zero d h = refl
  get_or-forest_column other (Plant a below after) (suc i) d h =
      let j = i - forest_size below in
      elim (cases_lt i (forest_size below)) as (λ _. get_or (forest_column f (Plant a below after)) (suc i) d ≡ f (planted_at other (Plant a below after) (suc i))) [
        | inl p ↦
            get_or_append_left (forest_column f below) (forest_column f after) d i (let n = length-forest_column below in omega arith)
            ∙ get_or-forest_column other below i d p
            ∙ ap f (sym (if_lt i (forest_size below) (planted_at other below i) (planted_at other after j) p))
        | inr q ↦
            get_or-append_right (forest_column f below) (forest_column f after) (forest_size below) i d (length-forest_column below) q
            ∙ get_or-forest_column other after j d (omega arith)
            ∙ ap f (sym (if_ge i (forest_size below) (planted_at other below i) (planted_at other after j) q))
      ]

  -- a column has at a place what f says of the subtree there
  pub get_or-column : (r : RoseTree A) (i : ℕ) (d : X) → i < size r → get_or (column f r) i d ≡ f (sub_at r i)
  get_or-column r zero d h = refl
  get_or-column r (suc i) d h = get_or-forest_column r r.below i d (omega arith)

  -- a column that is kept is as long as the tree, and has at a place what f says of the subtree there
  pub length-kept : (xs : List X) (r r' : RoseTree A) → xs ≡ column f r → r ≡ r' → length xs ≡ size r'
  length-kept xs r r' e g = ap length e ∙ (length-column r ∙ ap size g)

  pub get_or-kept : (xs : List X) (r r' : RoseTree A) (i : ℕ) (d : X) → xs ≡ column f r → r ≡ r' → i < size r' → get_or xs i d ≡ f (sub_at r' i)
  get_or-kept xs r r' i d e g h = ap (λ ys. get_or ys i d) (e ∙ ap (column f) g) ∙ get_or-column r' i d h
