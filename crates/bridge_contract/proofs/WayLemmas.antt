-- The way from a root to a hole, one step further.
use Rattle.std.proofs.Common.{◌≡◌, ℕ, zero, suc, ◌+◌, ◌-◌, ◌*◌, ◌<◌, ◌≤◌, ◌⊎◌, Bool, true, false, cond, nat_lt, ℤ, List, Option, Some, None, refl, sym, ◌∙◌, ap, subst, arith, inl, inr}
use Rattle.std.proofs.lemmas.Bool.{cases_lt}
use Rattle.op_laws.specs.declared.TheConstants.{MAX_ELEMENTS}
use Rattle.op_laws.specs.Trees.{BTree, Leaf, Node, size, sub_at, is_leaf, top}
use Rattle.op_laws.specs.TreeFolds.{Downward}
use Rattle.bin_tree.proofs.TreeLemmas.{if_lt, if_ge, size_pos, within_at, IsNodeAt, node_at}
use Rattle.bin_tree.proofs.Places.{sub_sub, node_of_size}
use Rattle.m_bridges.specs.Parts.{Part, End, Stop, Join, own, holes, cut_at}
use Rattle.m_bridges.specs.Places.{HoleFits, IsBridgeOf, part_at, back}
use Rattle.m_bridges.specs.declared.bridge.Bridge.{Bridge}
use Rattle.bridge_contract.specs.Downs.{first_some, below_hole, one_more, path_length, LeadsDown}
use Rattle.bridge_contract.specs.Ways.{weight_of, FitsWay, gone, onto, rest_at, LeadsOn, IsOnWay}
use Rattle.bridge_contract.specs.declared.down_summary.DownSummary.{DownSummary}
use Rattle.bridge_contract.specs.declared.down_summary.DownSummary.TheVariants.{End as Ended, Both}
use Rattle.bridge_contract.proofs.DownLaws.{DownLaws}
use Rattle.bridge_contract.proofs.CutLemmas.{holes_whole, cut_is, IsCutOf}

abbrev pub some_two : {X : Type 0} → X → X → Option (X × X)
some_two x y = Some (x, y)

pub two_same : {X : Type 0} (a b c d : X) → some_two a b ≡ some_two c d → (a ≡ c) × (b ≡ d)
two_same {X} a b c d e =
    let both : (let u : X × X = (a, b) in u) ≡ (c, d) = cc in
    (ap (λ (z : X × X). z.0) both, ap (λ (z : X × X). z.1) both)

pub first_some-none : {X : Type 0} (o : Option X) → first_some o None ≡ o
first_some-none None = refl
first_some-none (Some x) = refl

pub one_more_is : (n : ℕ) → 0 < n → one_more n ≡ 1 + n
one_more_is zero h = absurd (omega arith)
one_more_is (suc n) h = omega arith

pub path_whole : (t : BTree (List ℤ)) → path_length (cut_at t None) ≡ 0
path_whole (Leaf a) = refl
path_whole (Node b l r) = let p = path_whole l in let q = path_whole r in let sum : path_length (cut_at l None) + path_length (cut_at r None) ≡ 0 = omega arith in ap one_more sum

pub path_some : (p : Part (List ℤ)) → holes p ≡ 1 → 0 < path_length p
path_some (End a) h = absurd (omega arith)
path_some (Stop b) h = omega arith
path_some (Join b p q) h =
    elim (cases_lt 0 (holes p)) as (λ _. 0 < path_length (Join b p q)) [
      | inl g ↦ let u = path_some p (omega arith) in let e = one_more_is (path_length p + path_length q) (omega arith) in omega arith
      | inr g ↦ let u = path_some q (omega arith) in let e = one_more_is (path_length p + path_length q) (omega arith) in omega arith
    ]

pub inner_size : (t : BTree (List ℤ)) → is_leaf t ≡ false → 3 ≤ size t
inner_size (Leaf a) e = absurd (cc)
inner_size (Node b l r) e = let p = size_pos l in let q = size_pos r in omega arith

module _ {V D : Type 0} (k : Downward (List ℤ) V D) where
  pub below_whole : (c : V) (t : BTree (List ℤ)) → below_hole k c (cut_at t None) ≡ None
  below_whole c (Leaf a) = refl
  below_whole c (Node b l r) = ap (λ o. first_some o (below_hole k (k.down c (k.right b)) (cut_at r None))) (below_whole (k.down c (k.left b)) l) ∙ below_whole (k.down c (k.right b)) r

-- the hole of a bridge lies in the subtree at a place
pub record HoleBelow (t : BTree (List ℤ)) (i hole : ℕ) : Type 0 where
  pub in_tree : i < size t
  pub above : i ≤ hole
  pub within : hole < i + size (sub_at t i)
  pub inner : is_leaf (sub_at t hole) ≡ false

pub rest_one : (t : BTree (List ℤ)) (i hole : ℕ) → HoleBelow t i hole → holes (rest_at t i hole) ≡ 1
rest_one t i hole h =
    let a = h.above in let w = h.within in
    let there : i + (hole - i) ≡ hole = omega arith in
    let at_h : sub_at (sub_at t i) (hole - i) ≡ sub_at t hole = sym (sub_sub t i (hole - i) h.in_tree (omega arith)) ∙ ap (sub_at t) there in
    let (n, x) = cut_is (sub_at t i) (hole - i) (omega arith) (ap is_leaf at_h ∙ h.inner) in x.one

-- above the hole stands an inner node
pub node_above : (t : BTree (List ℤ)) (i hole : ℕ) → HoleBelow t i hole → i < hole → (b : List ℤ) × (l : BTree (List ℤ)) × (r : BTree (List ℤ)) × IsNodeAt t i b l r
node_above t i hole h g = let w = h.within in node_at t i h.in_tree (node_of_size (sub_at t i) (omega arith))

pub inside : (t : BTree (List ℤ)) (i hole : ℕ) → HoleBelow t i hole → i < hole → i + 1 < size t
inside t i hole h g = let w = h.within in let u = within_at t i h.in_tree in omega arith

module _ (t : BTree (List ℤ)) (i hole : ℕ) (h : HoleBelow t i hole) (g : i < hole) (b : List ℤ) (l r : BTree (List ℤ)) (n : IsNodeAt t i b l r) where
  rest_left : hole < i + 1 + size l → rest_at t i hole ≡ Join b (rest_at t (i + 1) hole) (cut_at r None)
  rest_left w =
      let back : hole - i ≡ suc (hole - (i + 1)) = omega arith in
      ap (λ s. cut_at s (Some (hole - i))) n.is ∙ ap (λ j. cut_at (Node b l r) (Some j)) back
      ∙ if_lt (hole - (i + 1)) (size l) (Join b (cut_at l (Some (hole - (i + 1)))) (cut_at r None)) (Join b (cut_at l None) (cut_at r (Some (hole - (i + 1) - size l)))) (omega arith)
      ∙ ap (λ s. Join b (cut_at s (Some (hole - (i + 1)))) (cut_at r None)) (sym n.left)

  rest_right : i + 1 + size l ≤ hole → rest_at t i hole ≡ Join b (cut_at l None) (rest_at t (i + 1 + size l) hole)
  rest_right w =
      let back : hole - i ≡ suc (hole - (i + 1)) = omega arith in
      let far : hole - (i + 1) - size l ≡ hole - (i + 1 + size l) = omega arith in
      ap (λ s. cut_at s (Some (hole - i))) n.is ∙ ap (λ j. cut_at (Node b l r) (Some j)) back
      ∙ if_ge (hole - (i + 1)) (size l) (Join b (cut_at l (Some (hole - (i + 1)))) (cut_at r None)) (Join b (cut_at l None) (cut_at r (Some (hole - (i + 1) - size l)))) (omega arith)
      ∙ ap (λ j. Join b (cut_at l None) (cut_at r (Some j))) far
      ∙ ap (λ s. Join b (cut_at l None) (cut_at s (Some (hole - (i + 1 + size l))))) (sym n.right)

  module _ {V D : Type 0} (k : Downward (List ℤ) V D) where
    pub leads_left : hole < i + 1 + size l → LeadsOn k t i hole (k.left b) (i + 1)
    leads_left w =
        let whole = ap size n.is in let left = ap size n.left in let p = size_pos r in let u = n.within in
        let below : HoleBelow t (i + 1) hole = record { in_tree = omega arith; above = omega arith; within = omega arith; inner = h.inner } in
        let some = path_some (rest_at t (i + 1) hole) (rest_one t (i + 1) hole below) in
        let other = path_whole r in
        let sum : path_length (rest_at t (i + 1) hole) + path_length (cut_at r None) ≡ path_length (rest_at t (i + 1) hole) = omega arith in
        record {
          from = omega arith;
          above = omega arith;
          within = omega arith;
          in_tree = omega arith;
          smaller = omega arith;
          value = λ c. ap (below_hole k c) (rest_left w) ∙ ap (λ o. first_some (below_hole k (k.down c (k.left b)) (rest_at t (i + 1) hole)) o) (below_whole k (k.down c (k.right b)) r)
              ∙ first_some-none (below_hole k (k.down c (k.left b)) (rest_at t (i + 1) hole));
          longer = ap path_length (rest_left w) ∙ ap one_more sum ∙ one_more_is (path_length (rest_at t (i + 1) hole)) some;
        }

    pub leads_right : i + 1 + size l ≤ hole → LeadsOn k t i hole (k.right b) (i + 1 + size l)
    leads_right w =
        let whole = ap size n.is in let right = ap size n.right in let p = size_pos l in let u = n.within in let v = h.within in
        let below : HoleBelow t (i + 1 + size l) hole = record { in_tree = omega arith; above = omega arith; within = omega arith; inner = h.inner } in
        let some = path_some (rest_at t (i + 1 + size l) hole) (rest_one t (i + 1 + size l) hole below) in
        let other = path_whole l in
        let sum : path_length (cut_at l None) + path_length (rest_at t (i + 1 + size l) hole) ≡ path_length (rest_at t (i + 1 + size l) hole) = omega arith in
        record {
          from = omega arith;
          above = omega arith;
          within = omega arith;
          in_tree = omega arith;
          smaller = omega arith;
          value = λ c. ap (below_hole k c) (rest_right w) ∙ ap (λ o. first_some o (below_hole k (k.down c (k.right b)) (rest_at t (i + 1 + size l) hole))) (below_whole k (k.down c (k.left b)) l);
          longer = ap path_length (rest_right w) ∙ ap one_more sum ∙ one_more_is (path_length (rest_at t (i + 1 + size l) hole)) some;
        }

module _ {V D : Type 0} (k : Downward (List ℤ) V D) where
  -- the step by the node's value, and the place that the code computes
  pub steps_left : (t : BTree (List ℤ)) (i hole : ℕ) (v : List ℤ) (left next : ℕ) → HoleBelow t i hole → i < hole → v ≡ top (sub_at t i) → left ≡ size (sub_at t (i + 1)) → hole < i + 1 + left → next ≡ i + 1
      → LeadsOn k t i hole (k.left v) next
  steps_left t i hole v left next h g ev el w en =
      let (b, l, r, n) = node_above t i hole h g in
      let same : v ≡ b = ev ∙ ap top n.is in
      let size_is : left ≡ size l = el ∙ ap size n.left in
      subst (λ d. LeadsOn k t i hole (k.left d) next) (sym same) (subst (λ j. LeadsOn k t i hole (k.left b) j) (sym en) (leads_left t i hole h g b l r n k (omega arith)))

  pub steps_right : (t : BTree (List ℤ)) (i hole : ℕ) (v : List ℤ) (left next : ℕ) → HoleBelow t i hole → i < hole → v ≡ top (sub_at t i) → left ≡ size (sub_at t (i + 1)) → i + 1 + left ≤ hole → next ≡ i + 1 + left
      → LeadsOn k t i hole (k.right v) next
  steps_right t i hole v left next h g ev el w en =
      let (b, l, r, n) = node_above t i hole h g in
      let same : v ≡ b = ev ∙ ap top n.is in
      let size_is : left ≡ size l = el ∙ ap size n.left in
      let next_is : i + 1 + size l ≡ next = omega arith in
      subst (λ d. LeadsOn k t i hole (k.right d) next) (sym same) (subst (λ j. LeadsOn k t i hole (k.right b) j) next_is (leads_right t i hole h g b l r n k (omega arith)))

  -- ---- the way

  pub starts : (fits : V → ℕ → Type 0) (fits_way : D → ℕ → Type 0) (t : BTree (List ℤ)) (root hole : ℕ) → HoleBelow t root hole → IsOnWay k fits fits_way t root hole root None
  starts fits fits_way t root hole h = record {
    from = omega arith;
    above = h.above;
    within = h.within;
    in_tree = h.in_tree;
    few = omega arith;
    fit = tt;
    length = omega arith;
    value = λ c nc few fc. refl;
  }

  pub below_of : (fits : V → ℕ → Type 0) (fits_way : D → ℕ → Type 0) (t : BTree (List ℤ)) (root hole i : ℕ) (way : Option (D × ℕ)) → is_leaf (sub_at t hole) ≡ false → IsOnWay k fits fits_way t root hole i way → HoleBelow t i hole
  below_of fits fits_way t root hole i way e o = record { in_tree = o.in_tree; above = o.above; within = o.within; inner = e }

  module _ (takes : List ℤ → Type 0) (fits : V → ℕ → Type 0) (fits_way : D → ℕ → Type 0) (laws : DownLaws k takes fits fits_way) where
    -- the value after one step more
    onto_is : (way : Option (D × ℕ)) (d : D) (c : V) (nc : ℕ) → nc + (weight_of way + 2) ≤ MAX_ELEMENTS → fits c nc → FitsWay fits_way way → fits_way d 2 → k.down (gone k c way) d ≡ k.down c (onto k way d).0
    onto_is None d c nc few fc fw fd = refl
    onto_is (Some w) d c nc few fc fw fd = laws.contract c nc w.0 w.1 d 2 (omega arith) fc fw fd

    onto_weight : (way : Option (D × ℕ)) (d : D) → (onto k way d).1 ≡ weight_of way + 2
    onto_weight None d = refl
    onto_weight (Some w) d = refl

    pub onto_fits : (way : Option (D × ℕ)) (d : D) → weight_of way + 2 ≤ MAX_ELEMENTS → FitsWay fits_way way → fits_way d 2 → fits_way (onto k way d).0 (onto k way d).1
    onto_fits None d few fw fd = fd
    onto_fits (Some w) d few fw fd = laws.then_fits w.0 w.1 d 2 few fw fd

    pub goes_on : (t : BTree (List ℤ)) (root hole i : ℕ) (way : Option (D × ℕ)) (d : D) (next : ℕ) → size (sub_at t root) ≤ MAX_ELEMENTS → fits_way d 2 → LeadsOn k t i hole d next
        → IsOnWay k fits fits_way t root hole i way → IsOnWay k fits fits_way t root hole next (Some (onto k way d))
    goes_on t root hole i way d next small fd leads on =
        let weight = onto_weight way d in let less = leads.smaller in let few = on.few in let from = leads.from in let since = on.from in let len = on.length in let more = leads.longer in
        record {
          from = omega arith;
          above = leads.above;
          within = leads.within;
          in_tree = leads.in_tree;
          few = omega arith;
          fit = onto_fits way d (omega arith) on.fit fd;
          length = omega arith;
          value = λ c nc enough fc. on.value c nc (omega arith) fc ∙ leads.value (gone k c way)
              ∙ ap (λ v. below_hole k v (rest_at t next hole)) (onto_is way d c nc (omega arith) fc on.fit fd);
        }

    -- at the hole both ways are made
    pub arrives : (t : BTree (List ℤ)) (root hole : ℕ) (way : Option (D × ℕ)) (v : List ℤ) → size (sub_at t root) ≤ MAX_ELEMENTS → takes v → HoleBelow t root hole → v ≡ top (sub_at t hole)
        → IsOnWay k fits fits_way t root hole hole way
        → LeadsDown k fits fits_way (rest_at t root hole) (Both (onto k way (k.left v)).0 (onto k way (k.right v)).0 (onto k way (k.left v)).1)
    arrives t root hole way v small tv h ev on =
        let (b, l, r, n) = node_at t hole on.in_tree h.inner in
        let same : v ≡ b = ev ∙ ap top n.is in
        let none : hole - hole ≡ 0 = omega arith in
        let here : rest_at t hole hole ≡ Stop b = ap (λ s. cut_at s (Some (hole - hole))) n.is ∙ ap (λ j. cut_at (Node b l r) (Some j)) none in
        let one = ap path_length here in let len = on.length in let few = on.few in let whole = ap size n.is in let pl = size_pos l in let pr = size_pos r in
        let wl = onto_weight way (k.left v) in let wr = onto_weight way (k.right v) in
        let fl = laws.left_fits v tv in let fr = laws.right_fits v tv in
        let weights : (onto k way (k.right v)).1 ≡ (onto k way (k.left v)).1 = wr ∙ sym wl in (
          rest_one t root hole h,
          omega arith,
          onto_fits way (k.left v) (omega arith) on.fit fl,
          subst (fits_way (onto k way (k.right v)).0) weights (onto_fits way (k.right v) (omega arith) on.fit fr),
          (λ c nc enough fc.
              on.value c nc (omega arith) fc ∙ ap (below_hole k (gone k c way)) (here ∙ ap (λ (x : List ℤ). Stop x) (sym same))
              ∙ ap (λ (x : V). some_two x (k.down (gone k c way) (k.right v))) (onto_is way (k.left v) c nc (omega arith) fc on.fit fl)
              ∙ ap (λ (y : V). some_two (k.down c (onto k way (k.left v)).0) y) (onto_is way (k.right v) c nc (omega arith) fc on.fit fr)),
        )

-- the hole of a bridge lies below its root
pub hole_below : (t : BTree (List ℤ)) (b : Bridge) (h : ℕ) → IsBridgeOf t b → b.hole ≡ Some h → HoleBelow t b.root h
hole_below t b h i e =
    let f = subst (HoleFits t b.root b.own) e i.hole in
    let above = f.0 in let within = f.1 in
    record { in_tree = i.within; above = omega arith; within = omega arith; inner = f.2 }

-- the path to the hole has no more nodes than are owned
pub hole_near : (t : BTree (List ℤ)) (b : Bridge) (h : ℕ) → IsBridgeOf t b → b.hole ≡ Some h → h + 1 ≤ b.root + b.own
hole_near t b h i e =
    let f = subst (HoleFits t b.root b.own) e i.hole in
    let above = f.0 in let within = f.1 in let own_is = f.3 in
    let there : b.root + (h - b.root) ≡ h = omega arith in
    let at_h : sub_at (sub_at t b.root) (h - b.root) ≡ sub_at t h = sym (sub_sub t b.root (h - b.root) i.within within) ∙ ap (sub_at t) there in
    let inside = within_at (sub_at t b.root) (h - b.root) within in let same = ap size at_h in omega arith

pub no_hole : (t : BTree (List ℤ)) (b : Bridge) → b.hole ≡ None → holes (part_at t b) ≡ 0
no_hole t b e = ap (λ o. holes (cut_at (sub_at t b.root) (back b.root o))) e ∙ holes_whole (sub_at t b.root)

pub part_rest : (t : BTree (List ℤ)) (b : Bridge) (h : ℕ) → b.hole ≡ Some h → rest_at t b.root h ≡ part_at t b
part_rest t b h e = ap (λ o. cut_at (sub_at t b.root) (back b.root o)) (sym e)
