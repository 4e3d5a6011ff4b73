-- Operators that join all values in one way obey the laws, whatever the way is, where it is associative and commutative.
use Rattle.std.proofs.Common.{◌≡◌, ℕ, ◌+◌, ◌≤◌, ℤ, List, ap, sym, ◌∙◌, arith}
use Rattle.op_laws.specs.declared.TheConstants.{MAX_ELEMENTS}
use Rattle.op_laws.specs.declared.width.Width.{Width}
use Rattle.op_laws.specs.declared.width.Width.TheVariants.{W64}
use Rattle.op_laws.specs.Widths.{FitsWidth}
use Rattle.op_laws.specs.Admits.{Admits}
use Rattle.op_laws.specs.Laws.{LiftLaws}
use Rattle.op_laws.specs.TreeLaws.{UpwardLaws, DownwardLaws}
use Rattle.tree_aux.specs.Joined.{joins_up, joins_down}

-- what the laws ask of the way to join
pub record IsJoin {C : Type 0} (fits : C → ℕ → Type 0) (join : C → C → C) : Type 0 where
  pub closed : (a : C) (m : ℕ) (b : C) (n : ℕ) → m + n ≤ MAX_ELEMENTS → fits a m → fits b n → fits (join a b) (m + n)
  pub associative : (a b c : C) → join (join a b) c ≡ join a (join b c)
  pub commutative : (a b : C) → join a b ≡ join b a

module _ {C : Type 0} {takes : List Width → Type 0} {gives : List Width → List Width} {number : List ℤ → C} {finished : C → List ℤ} {fits : C → ℕ → Type 0} {join : C → C → C}
    (lifts : LiftLaws takes gives number finished fits) (way : IsJoin fits join) where
  three_fit : (a : C) (l : ℕ) (b : C) (m : ℕ) (c : C) (n : ℕ) → l + m + n ≤ MAX_ELEMENTS → fits a l → fits b m → fits c n → fits (join (join a b) c) (l + m + n)
  three_fit a l b m c n few fa fb fc = way.closed (join a b) (l + m) c n few (way.closed a l b m (omega arith) fa fb) fc

  -- five values in the one order and in the other
  five_left : (x h y g r : C) → join (join (join (join x h) y) g) r ≡ join (join x (join (join h g) r)) y
  five_left x h y g r =
      way.associative (join (join x h) y) g r
      ∙ way.associative (join x h) y (join g r)
      ∙ ap (join (join x h)) (way.commutative y (join g r))
      ∙ sym (way.associative (join x h) (join g r) y)
      ∙ ap (λ z. join z y) (way.associative x h (join g r) ∙ ap (join x) (sym (way.associative h g r)))

  five_right : (l g x h y : C) → join (join l g) (join (join x h) y) ≡ join (join x (join (join l g) h)) y
  five_right l g x h y =
      sym (way.associative (join l g) (join x h) y)
      ∙ ap (λ z. join z y) (sym (way.associative (join l g) x h) ∙ ap (λ z. join z h) (way.commutative (join l g) x) ∙ way.associative x (join l g) h)

  pub joins_up_laws : (leaf : List ℤ → C) → ((ty : List Width) (e : List ℤ) → takes ty → Admits ty e → fits (leaf e) 1) → UpwardLaws takes gives (joins_up leaf number join) finished fits fits
  joins_up_laws leaf leaf_fits = record {
    grows = lifts.grows;
    hole_grows = lifts.grows;
    finished_admitted = lifts.finished_admitted;
    leaf_fits = leaf_fits;
    phi_fits = lifts.lifted_fits;
    node_fits = three_fit;
    left_fits = three_fit;
    right_fits = three_fit;
    contract_left = λ x nx h nh y ny g ng r nr few fx fh fy fg fr. five_left x h y g r;
    contract_right = λ l nl g ng x nx h nh y ny few fl fg fx fh fy. five_right l g x h y;
  }

  pub joins_down_laws : (start : ℤ → C) (left right : List ℤ → C) → ((c : ℤ) → FitsWidth W64 c → fits (start c) 1)
      → ((ty : List Width) (e : List ℤ) → takes ty → Admits ty e → fits (left e) 2) → ((ty : List Width) (e : List ℤ) → takes ty → Admits ty e → fits (right e) 2)
      → DownwardLaws takes gives (joins_down start left right join) finished fits fits
  joins_down_laws start left right start_fits left_fits right_fits = record {
    grows = lifts.grows;
    way_grows = lifts.grows;
    finished_admitted = lifts.finished_admitted;
    start_fits = start_fits;
    left_fits = left_fits;
    right_fits = right_fits;
    then_fits = way.closed;
    down_fits = way.closed;
    contract = λ c nc a na b nb few fc fa fb. way.associative c a b;
  }
