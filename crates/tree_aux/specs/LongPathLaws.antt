-- Greatest sums along paths and of subtrees obey the laws.
use Rattle.std.proofs.Common.{◌≡◌, ℕ, ◌+◌, ◌≤◌, ℤ, pos, ◌+ℤ◌, List, Option, Some, None, refl, ap, sym, ◌∙◌, arith}
use Rattle.std.specs.Int.{int_max}
use Rattle.std.proofs.lemmas.Int.{ints, clamps}
use Rattle.op_laws.specs.declared.TheConstants.{MAX_ELEMENTS}
use Rattle.op_laws.specs.declared.width.Width.{Width}
use Rattle.op_laws.specs.Admits.{Admits}
use Rattle.op_laws.specs.TreeLaws.{UpwardLaws, NothingLaws}
use Rattle.op_catalog.specs.Sums.{IsSummed, sum_type, IsSumOf}
use Rattle.op_catalog.specs.SumLaws.{sum_lift_laws}
use Rattle.tree_aux.specs.SumTrees.{single}
use Rattle.tree_aux.specs.SumTreeLaws.{is_join, naught_fits, number_fits, wider}
use Rattle.tree_aux.specs.BoundTrees.{single_or_naught}
use Rattle.tree_aux.specs.BoundTreeLaws.{max_choice}
use Rattle.tree_aux.specs.declared.heavy.OpenHeavy.{OpenHeavy}
use Rattle.tree_aux.specs.declared.best_sub.SubtreeSums.{SubtreeSums}
use Rattle.tree_aux.specs.declared.best_sub.OpenSubtrees.{OpenSubtrees}
use Rattle.tree_aux.specs.declared.r_heavy.OpenPaths.{OpenPaths}
use Rattle.tree_aux.specs.LongPaths.{MayBeSumOf, or_greater, open_heavy, heavy_hole, heavy_up, IsOpenHeavy, subtree_sums, open_subtrees, best_node, best_hole, best_of, best_up, AreSubtreeSums, AreOpenSubtrees, open_paths, longer, rose_heavy_up, AreOpenPaths}

-- ---- weights

pub greater_fits : (W : ℕ) (a b : ℤ) (n : ℕ) → IsSumOf W a n → IsSumOf W b n → IsSumOf W (int_max a b) n
greater_fits W a b n fa fb = record { low = omega (arith, ints, clamps, fa.low, fb.low); high = omega (arith, ints, clamps, fa.high, fb.high) }

pub or_fits : (W : ℕ) (a : ℤ) (o : Option ℤ) (n : ℕ) → IsSumOf W a n → MayBeSumOf W o n → IsSumOf W (or_greater a o) n
or_fits W a None n fa fo = fa
or_fits W a (Some b) n fa fo = greater_fits W a b n fa fo

pub may_grow : (W : ℕ) (o : Option ℤ) (m n : ℕ) → m ≤ n → MayBeSumOf W o m → MayBeSumOf W o n
may_grow W None m n le f = tt
may_grow W (Some c) m n le f = wider W c m n le f

pub sum_fits : (W : ℕ) (a : ℤ) (m : ℕ) (b : ℤ) (n : ℕ) → m + n ≤ MAX_ELEMENTS → IsSumOf W a m → IsSumOf W b n → IsSumOf W (a +ℤ b) (m + n)
sum_fits W = (is_join W).closed

pub three_fit : (W : ℕ) (a : ℤ) (l : ℕ) (b : ℤ) (m : ℕ) (c : ℤ) (n : ℕ) → l + m + n ≤ MAX_ELEMENTS → IsSumOf W a l → IsSumOf W b m → IsSumOf W c n → IsSumOf W ((a +ℤ b) +ℤ c) (l + m + n)
three_fit W a l b m c n few fa fb fc = sum_fits W (a +ℤ b) (l + m) c n few (sum_fits W a l b m (omega arith) fa fb) fc

-- ---- from the root to a leaf

pub heavy_same : (p p' : ℤ) (q q' : Option ℤ) → p ≡ p' → q ≡ q' → open_heavy p q ≡ open_heavy p' q'
heavy_same p p' q q' ep eq = cc

heavy_contracts : (m r p1 p : ℤ) (q1 q : Option ℤ)
    → or_greater (int_max (or_greater (m +ℤ p1) q1) r +ℤ p) q ≡ or_greater (m +ℤ (p1 +ℤ p)) (Some (or_greater (or_greater r q1 +ℤ p) q))
heavy_contracts m r p1 p None None = omega (arith, ints, clamps)
heavy_contracts m r p1 p (Some q1) None = omega (arith, ints, clamps)
heavy_contracts m r p1 p None (Some q) = omega (arith, ints, clamps)
heavy_contracts m r p1 p (Some q1) (Some q) = omega (arith, ints, clamps)

heavy_node_fits : (W : ℕ) (l : ℤ) (nl : ℕ) (g : OpenHeavy) (ng : ℕ) (r : ℤ) (nr : ℕ) → nl + ng + nr ≤ MAX_ELEMENTS → IsSumOf W l nl → IsOpenHeavy W g ng → IsSumOf W r nr
    → IsSumOf W (or_greater (int_max l r +ℤ g.own) g.other) (nl + ng + nr)
heavy_node_fits W l nl g ng r nr few fl fg fr =
    let children = greater_fits W l r (nl + nr) (wider W l nl (nl + nr) (omega arith) fl) (wider W r nr (nl + nr) (omega arith) fr) in
    let path = sum_fits W (int_max l r) (nl + nr) g.own ng (omega arith) children fg.own in
    or_fits W (int_max l r +ℤ g.own) g.other (nl + ng + nr) (wider W (int_max l r +ℤ g.own) ((nl + nr) + ng) (nl + ng + nr) (omega arith) path)
    (may_grow W g.other ng (nl + ng + nr) (omega arith) fg.other)

heavy_hole_fits : (W : ℕ) (h : OpenHeavy) (nh : ℕ) (g : OpenHeavy) (ng : ℕ) (r : ℤ) (nr n : ℕ) → nh + ng + nr ≤ n → n ≤ MAX_ELEMENTS → IsOpenHeavy W h nh → IsOpenHeavy W g ng → IsSumOf W r nr
    → IsOpenHeavy W (heavy_hole h g r) n
heavy_hole_fits W h nh g ng r nr n within few fh fg fr =
    let longest = or_fits W r h.other (nh + nr) (wider W r nr (nh + nr) (omega arith) fr) (may_grow W h.other nh (nh + nr) (omega arith) fh.other) in
    let path = sum_fits W (or_greater r h.other) (nh + nr) g.own ng (omega arith) longest fg.own in
    record {
      own = wider W (h.own +ℤ g.own) (nh + ng) n (omega arith) (sum_fits W h.own nh g.own ng (omega arith) fh.own fg.own);
      other = or_fits W (or_greater r h.other +ℤ g.own) g.other n (wider W (or_greater r h.other +ℤ g.own) ((nh + nr) + ng) n (omega arith) path) (may_grow W g.other ng n (omega arith) fg.other);
    }

pub heavy_up_laws : (W : ℕ) → UpwardLaws (IsSummed W) (λ _. sum_type W) heavy_up single (IsSumOf W) (IsOpenHeavy W)
heavy_up_laws W = record {
  grows = (sum_lift_laws W).grows;
  hole_grows = λ g m n le f. record { own = wider W g.own m n le f.own; other = may_grow W g.other m n le f.other };
  finished_admitted = (sum_lift_laws W).finished_admitted;
  leaf_fits = number_fits W;
  phi_fits = λ ty e taken admitted. record { own = number_fits W ty e taken admitted; other = tt };
  node_fits = heavy_node_fits W;
  left_fits = λ h nh g ng r nr few fh fg fr. heavy_hole_fits W h nh g ng r nr (nh + ng + nr) (omega arith) few fh fg fr;
  right_fits = λ l nl g ng h nh few fl fg fh. heavy_hole_fits W h nh g ng l nl (nl + ng + nh) (omega arith) few fh fg fl;
  contract_left = λ x nx h nh y ny g ng r nr few fx fh fy fg fr. heavy_contracts (int_max x y) r h.own g.own h.other g.other;
  contract_right = λ l nl g ng x nx h nh y ny few fl fg fx fh fy.
      ap (λ (z : ℤ). or_greater (z +ℤ g.own) g.other) (max_choice.commutative l (or_greater (int_max x y +ℤ h.own) h.other))
      ∙ heavy_contracts (int_max x y) l h.own g.own h.other g.other;
}

-- ---- whole subtrees

pub sums_same : (s s' b b' : ℤ) → s ≡ s' → b ≡ b' → subtree_sums s b ≡ subtree_sums s' b'
sums_same s s' b b' es eb = cc

pub open_same : (p p' q q' : ℤ) (t t' : Option ℤ) → p ≡ p' → q ≡ q' → t ≡ t' → open_subtrees p q t ≡ open_subtrees p' q' t'
open_same p p' q q' t t' ep eq et = cc

best_turned : (l : SubtreeSums) (g : OpenSubtrees) (r : SubtreeSums) → best_node l g r ≡ best_node r g l
best_turned l g r =
    sums_same _ _ _ _ (turn l.whole g.whole r.whole)
    (ap (λ (z : ℤ). or_greater (int_max z ((l.whole +ℤ g.through) +ℤ r.whole)) g.best) (max_choice.commutative l.best r.best)
    ∙ ap (λ (z : ℤ). or_greater (int_max (int_max r.best l.best) z) g.best) (turn l.whole g.through r.whole))
  where
    turn : (a b c : ℤ) → (a +ℤ b) +ℤ c ≡ (c +ℤ b) +ℤ a
    turn a b c = omega (arith, ints)

wholes : (x p1 y p r : ℤ) → (((x +ℤ p1) +ℤ y) +ℤ p) +ℤ r ≡ (x +ℤ ((p1 +ℤ p) +ℤ r)) +ℤ y
wholes x p1 y p r = omega (arith, ints)

-- the sum through both nodes
throughs : (x q1 p1 y q r : ℤ) → (x +ℤ int_max q1 ((p1 +ℤ q) +ℤ r)) +ℤ y ≡ int_max ((x +ℤ q1) +ℤ y) ((((x +ℤ p1) +ℤ y) +ℤ q) +ℤ r)
throughs x q1 p1 y q r = omega (arith, ints, clamps)

-- the greatest of the same numbers in another order
in_two : (a t r : ℤ) → int_max (int_max a t) r ≡ int_max a (int_max r t)
in_two a t r = omega (arith, ints, clamps)

last_two : (a c v : ℤ) → int_max (int_max a c) v ≡ int_max (int_max a v) c
last_two a c v = omega (arith, ints, clamps)

two_and_two : (a c v t : ℤ) → int_max (int_max (int_max a c) v) t ≡ int_max (int_max a v) (int_max c t)
two_and_two a c v t = omega (arith, ints, clamps)

bests : (m u r v : ℤ) (t1 t : Option ℤ) → or_greater (int_max (int_max (or_greater (int_max m u) t1) r) v) t ≡ or_greater (int_max m (int_max u v)) (Some (or_greater (or_greater r t1) t))
bests m u r v None None = last_two (int_max m u) r v ∙ ap (λ (z : ℤ). int_max z r) (max_choice.associative m u v)
bests m u r v (Some t1) None =
    ap (λ (z : ℤ). int_max z v) (in_two (int_max m u) t1 r) ∙ last_two (int_max m u) (int_max r t1) v ∙ ap (λ (z : ℤ). int_max z (int_max r t1)) (max_choice.associative m u v)
bests m u r v None (Some t) = two_and_two (int_max m u) r v t ∙ ap (λ (z : ℤ). int_max z (int_max r t)) (max_choice.associative m u v)
bests m u r v (Some t1) (Some t) =
    ap (λ (z : ℤ). int_max (int_max z v) t) (in_two (int_max m u) t1 r) ∙ two_and_two (int_max m u) (int_max r t1) v t
    ∙ ap (λ (z : ℤ). int_max z (int_max (int_max r t1) t)) (max_choice.associative m u v)

best_contracts : (x : SubtreeSums) (h : OpenSubtrees) (y : SubtreeSums) (g : OpenSubtrees) (r : SubtreeSums) → best_node (best_node x h y) g r ≡ best_node x (best_hole h g r) y
best_contracts x h y g r =
    sums_same _ _ _ _ (wholes x.whole h.whole y.whole g.whole r.whole)
    (bests (int_max x.best y.best) ((x.whole +ℤ h.through) +ℤ y.whole) r.best ((((x.whole +ℤ h.whole) +ℤ y.whole) +ℤ g.through) +ℤ r.whole) h.best g.best
    ∙ ap (λ (z : ℤ). or_greater (int_max (int_max x.best y.best) z) (Some (or_greater (or_greater r.best h.best) g.best))) (sym (throughs x.whole h.through h.whole y.whole g.through r.whole)))

best_node_fits : (W : ℕ) (l : SubtreeSums) (nl : ℕ) (g : OpenSubtrees) (ng : ℕ) (r : SubtreeSums) (nr : ℕ) → nl + ng + nr ≤ MAX_ELEMENTS
    → AreSubtreeSums W l nl → AreOpenSubtrees W g ng → AreSubtreeSums W r nr → AreSubtreeSums W (best_node l g r) (nl + ng + nr)
best_node_fits W l nl g ng r nr few fl fg fr =
    let n = nl + ng + nr in
    let children = greater_fits W l.best r.best (nl + ng + nr) (wider W l.best nl (nl + ng + nr) (omega arith) fl.best) (wider W r.best nr (nl + ng + nr) (omega arith) fr.best) in
    let through = three_fit W l.whole nl g.through ng r.whole nr few fl.whole fg.through fr.whole in
    record {
      whole = three_fit W l.whole nl g.whole ng r.whole nr few fl.whole fg.whole fr.whole;
      best = or_fits W _ g.best (nl + ng + nr) (greater_fits W _ _ (nl + ng + nr) children through) (may_grow W g.best ng (nl + ng + nr) (omega arith) fg.best);
    }

best_hole_fits : (W : ℕ) (h : OpenSubtrees) (nh : ℕ) (g : OpenSubtrees) (ng : ℕ) (r : SubtreeSums) (nr n : ℕ) → nh + ng + nr ≤ n → n ≤ MAX_ELEMENTS
    → AreOpenSubtrees W h nh → AreOpenSubtrees W g ng → AreSubtreeSums W r nr → AreOpenSubtrees W (best_hole h g r) n
best_hole_fits W h nh g ng r nr n within few fh fg fr =
    let whole = three_fit W h.whole nh g.whole ng r.whole nr (omega arith) fh.whole fg.whole fr.whole in
    let through = three_fit W h.whole nh g.through ng r.whole nr (omega arith) fh.whole fg.through fr.whole in
    record {
      whole = wider W _ (nh + ng + nr) n within whole;
      through = greater_fits W _ _ n (wider W h.through nh n (omega arith) fh.through) (wider W _ (nh + ng + nr) n within through);
      best = or_fits W _ g.best n (or_fits W r.best h.best n (wider W r.best nr n (omega arith) fr.best) (may_grow W h.best nh n (omega arith) fh.best)) (may_grow W g.best ng n (omega arith) fg.best);
    }

pub best_up_laws : (W : ℕ) → UpwardLaws (IsSummed W) (λ _. sum_type W) best_up best_of (AreSubtreeSums W) (AreOpenSubtrees W)
best_up_laws W = record {
  grows = λ v m n le f. record { whole = wider W v.whole m n le f.whole; best = wider W v.best m n le f.best };
  hole_grows = λ g m n le f. record { whole = wider W g.whole m n le f.whole; through = wider W g.through m n le f.through; best = may_grow W g.best m n le f.best };
  finished_admitted = λ ty v n taken few f. (sum_lift_laws W).finished_admitted ty v.best n taken few f.best;
  leaf_fits = λ ty e taken admitted. let f = number_fits W ty e taken admitted in record { whole = f; best = f };
  phi_fits = λ ty e taken admitted. let f = number_fits W ty e taken admitted in record { whole = f; through = f; best = tt };
  node_fits = best_node_fits W;
  left_fits = λ h nh g ng r nr few fh fg fr. best_hole_fits W h nh g ng r nr (nh + ng + nr) (omega arith) few fh fg fr;
  right_fits = λ l nl g ng h nh few fl fg fh. best_hole_fits W h nh g ng l nl (nl + ng + nh) (omega arith) few fh fg fl;
  contract_left = λ x nx h nh y ny g ng r nr few fx fh fy fg fr. best_contracts x h y g r;
  contract_right = λ l nl g ng x nx h nh y ny few fl fg fx fh fy. best_turned l g (best_node x h y) ∙ best_contracts x h y g l;
}

-- ---- from the root of a rose tree to any node

pub paths_same : (p p' q q' t t' : ℤ) → p ≡ p' → q ≡ q' → t ≡ t' → open_paths p q t ≡ open_paths p' q' t'
paths_same p p' q q' t t' ep eq et = cc

longer_fits : (W : ℕ) (way : ℤ) (m : ℕ) (o : Option ℤ) (n : ℕ) (best : ℤ) (k : ℕ) → m + n ≤ k → k ≤ MAX_ELEMENTS → IsSumOf W way m → MayBeSumOf W o n → IsSumOf W best k → IsSumOf W (longer way o best) k
longer_fits W way m None n best k within few fw fo fb = fb
longer_fits W way m (Some v) n best k within few fw fo fb = greater_fits W best (way +ℤ v) k fb (wider W (way +ℤ v) (m + n) k within (sum_fits W way m v n (omega arith) fw fo))

open_fits : (W : ℕ) (p : ℤ) (np : ℕ) (h : OpenPaths) (nh : ℕ) (q : ℤ) (nq : ℕ) (o : Option ℤ) (n_o : ℕ) (t : ℤ) (n : ℕ) → np + nh ≤ n → nq + n_o ≤ n → n ≤ MAX_ELEMENTS
    → IsSumOf W p np → AreOpenPaths W h nh → IsSumOf W q nq → MayBeSumOf W o n_o → IsSumOf W t n
    → AreOpenPaths W (open_paths (p +ℤ h.children) (p +ℤ h.siblings) (longer q o (int_max t (p +ℤ h.own)))) n
open_fits W p np h nh q nq o n_o t n inner outer few fp fh fq fo ft =
    let children = wider W (p +ℤ h.children) (np + nh) n inner (sum_fits W p np h.children nh (omega arith) fp fh.children) in
    let siblings = wider W (p +ℤ h.siblings) (np + nh) n inner (sum_fits W p np h.siblings nh (omega arith) fp fh.siblings) in
    let own = wider W (p +ℤ h.own) (np + nh) n inner (sum_fits W p np h.own nh (omega arith) fp fh.own) in
    record { children = children; siblings = siblings; own = longer_fits W q nq o n_o (int_max t (p +ℤ h.own)) n outer few fq fo (greater_fits W t (p +ℤ h.own) n ft own) }

over_three : (p a b c : ℤ) → p +ℤ int_max (int_max a b) c ≡ int_max (int_max (p +ℤ a) (p +ℤ b)) (p +ℤ c)
over_three p a b c = omega (arith, ints, clamps)

mixed : (t r s y : ℤ) → int_max (int_max t r) (int_max s y) ≡ int_max (int_max (int_max t s) r) y
mixed t r s y = omega (arith, ints, clamps)

added : (p a b : ℤ) → p +ℤ (a +ℤ b) ≡ (p +ℤ a) +ℤ b
added p a b = omega (arith, ints)

paths_contract_left : (x y r : Option ℤ) (p1 q1 t1 p q t : ℤ)
    → longer p (Some (longer p1 x (longer q1 y t1))) (longer q r t) ≡ longer (p +ℤ p1) x (longer (p +ℤ q1) y (longer q r (int_max t (p +ℤ t1))))
paths_contract_left None None None p1 q1 t1 p q t = omega (arith, ints, clamps)
paths_contract_left None None (Some r) p1 q1 t1 p q t = omega (arith, ints, clamps)
paths_contract_left None (Some y) None p1 q1 t1 p q t = omega (arith, ints, clamps)
paths_contract_left None (Some y) (Some r) p1 q1 t1 p q t = omega (arith, ints, clamps)
paths_contract_left (Some x) None None p1 q1 t1 p q t = omega (arith, ints, clamps)
paths_contract_left (Some x) None (Some r) p1 q1 t1 p q t = omega (arith, ints, clamps)
paths_contract_left (Some x) (Some y) None p1 q1 t1 p q t = omega (arith, ints, clamps)
paths_contract_left (Some x) (Some y) (Some r) p1 q1 t1 p q t =
    ap (λ (z : ℤ). int_max (int_max t (q +ℤ r)) z) (over_three p t1 (q1 +ℤ y) (p1 +ℤ x))
    ∙ sym (max_choice.associative (int_max t (q +ℤ r)) (int_max (p +ℤ t1) (p +ℤ (q1 +ℤ y))) (p +ℤ (p1 +ℤ x)))
    ∙ ap (λ (z : ℤ). int_max z (p +ℤ (p1 +ℤ x))) (mixed t (q +ℤ r) (p +ℤ t1) (p +ℤ (q1 +ℤ y)))
    ∙ ap (λ (z : ℤ). int_max (int_max (int_max (int_max t (p +ℤ t1)) (q +ℤ r)) z) (p +ℤ (p1 +ℤ x))) (added p q1 y)
    ∙ ap (λ (z : ℤ). int_max (int_max (int_max (int_max t (p +ℤ t1)) (q +ℤ r)) ((p +ℤ q1) +ℤ y)) z) (added p p1 x)

longer_swap : (p q : ℤ) (x y : Option ℤ) (t : ℤ) → longer p x (longer q y t) ≡ longer q y (longer p x t)
longer_swap p q None y t = refl
longer_swap p q (Some x) None t = refl
longer_swap p q (Some x) (Some y) t = omega (arith, ints, clamps)

pub rose_heavy_up_laws : (W : ℕ) → UpwardLaws (IsSummed W) (λ _. sum_type W) rose_heavy_up single_or_naught (MayBeSumOf W) (AreOpenPaths W)
rose_heavy_up_laws W = record {
  grows = may_grow W;
  hole_grows = λ g m n le f. record { children = wider W g.children m n le f.children; siblings = wider W g.siblings m n le f.siblings; own = wider W g.own m n le f.own };
  finished_admitted = finished_fits;
  leaf_fits = λ ty e taken admitted. tt;
  phi_fits = λ ty e taken admitted. let f = number_fits W ty e taken admitted in record { children = f; siblings = naught_fits W 1; own = f };
  node_fits = λ x nx g ng y ny few fx fg fy.
      longer_fits W g.children ng x nx _ (nx + ng + ny) (omega arith) few fg.children fx
      (longer_fits W g.siblings ng y ny g.own (nx + ng + ny) (omega arith) few fg.siblings fy (wider W g.own ng (nx + ng + ny) (omega arith) fg.own));
  left_fits = λ h nh g ng r nr few fh fg fr.
      open_fits W g.children ng h nh g.siblings ng r nr g.own (nh + ng + nr) (omega arith) (omega arith) few fg.children fh fg.siblings fr (wider W g.own ng (nh + ng + nr) (omega arith) fg.own);
  right_fits = λ l nl g ng h nh few fl fg fh.
      open_fits W g.siblings ng h nh g.children ng l nl g.own (nl + ng + nh) (omega arith) (omega arith) few fg.siblings fh fg.children fl (wider W g.own ng (nl + ng + nh) (omega arith) fg.own);
  contract_left = λ x nx h nh y ny g ng r nr few fx fh fy fg fr. ap Some (paths_contract_left x y r h.children h.siblings h.own g.children g.siblings g.own);
  contract_right = λ l nl g ng x nx h nh y ny few fl fg fx fh fy.
      ap Some (longer_swap g.children g.siblings l (Some (longer h.children x (longer h.siblings y h.own))) g.own
      ∙ paths_contract_left x y l h.children h.siblings h.own g.siblings g.children g.own);
}
  where
    finished_fits : (ty : List Width) (o : Option ℤ) (n : ℕ) → IsSummed W ty → n ≤ MAX_ELEMENTS → MayBeSumOf W o n → Admits (sum_type W) (single_or_naught o)
    finished_fits ty None n taken few f = (sum_lift_laws W).finished_admitted ty (pos 0) n taken few (naught_fits W n)
    finished_fits ty (Some c) n taken few f = (sum_lift_laws W).finished_admitted ty c n taken few f

pub rose_heavy_nothing_laws : (W : ℕ) → NothingLaws None rose_heavy_up (MayBeSumOf W)
rose_heavy_nothing_laws W = record { nothing_fits = tt; leaf_is_nothing = λ e. refl }
