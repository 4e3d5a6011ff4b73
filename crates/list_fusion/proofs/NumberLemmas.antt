-- Elements of one number each.
use Rattle.std.proofs.Common.{◌≡◌, ℕ, ◌+◌, ◌-◌, ◌<◌, ◌≤◌, ℤ, List, [], ◌∷◌, length, get_or, map, take, drop, slice_range, reverse, ap, refl, arith, pos, sym, ◌∙◌, subst, suc}
use Rattle.std.specs.Prelude.{slice_index_or}
use Rattle.std.specs.List.{All}
use Rattle.std.proofs.Math.Seq.{drop-cons}
use Rattle.std.proofs.lemmas.List.{take-map, drop-map, same_lists, length-drop, length-reverse, length-take-le, get_or-take, get_or-drop, get_or-reverse}
use Rattle.std.proofs.lemmas.List.Elements.{All-head, All-tail, All-take, All-drop}
use Rattle.op_laws.specs.declared.width.Width.TheVariants.{W64}
use Rattle.op_laws.specs.Admits.{Admits}
use Rattle.op_laws.specs.Elements.{Elements, singles}
use Rattle.list_fusion.specs.Pipes.{Flow, turned, places, block_of, type_of}
use Rattle.list_fusion.specs.Stages.{staged, type_along}
use Rattle.list_fusion.specs.Kept.{IsPlain, AreNumbers}

single : (e : List ℤ) → Admits (W64 ∷ []) e → slice_index_or e 0 (pos 0) ∷ [] ≡ e
single [] a = absurd a
single (x ∷ []) a = refl
single (x ∷ y ∷ e) a = absurd a.1

-- elements of one number are their first numbers alone
pub singles-firsts : (es : List (List ℤ)) → All (Admits (W64 ∷ [])) es → singles (map (λ e. slice_index_or e 0 (pos 0)) es) ≡ es
singles-firsts [] all = refl
singles-firsts (e ∷ es) all = let one = single e (All-head (Admits (W64 ∷ [])) e es all) in let more = singles-firsts es (All-tail (Admits (W64 ∷ [])) e es all) in cc

-- the numbers from place i on
pub singles-drop : (xs : List ℤ) (i : ℕ) (x : ℤ) → i < length xs → x ≡ get_or xs i (pos 0) → singles (drop i xs) ≡ (x ∷ []) ∷ singles (drop (i + 1) xs)
singles-drop xs i x within is =
    let next : suc i ≡ i + 1 = omega arith in
    ap singles (drop-cons xs i (pos 0) within) ∙ ap (λ y. (y ∷ []) ∷ singles (drop (suc i) xs)) (sym is) ∙ ap (λ k. (x ∷ []) ∷ singles (drop k xs)) next

pub range-singles : (xs : List ℤ) (from to : ℕ) → slice_range (singles xs) from to ≡ singles (slice_range xs from to)
range-singles xs from to = ap (take (to - from)) (drop-map (λ y. y ∷ []) from xs) ∙ take-map (λ y. y ∷ []) (to - from) (drop from xs)

-- a block of a pipe that does nothing to numbers
pub plain-block : (p : Flow) (xs : List ℤ) (from to : ℕ) → AreNumbers p xs → block_of p from to ≡ singles (slice_range xs from to)
plain-block p xs from to plain =
    ap (λ ss. staged ss (slice_range (places p) from to)) plain.stages
    ∙ ap (λ es. slice_range es from to) (ap (λ b. turned b p.head.items) plain.forward ∙ plain.items)
    ∙ range-singles xs from to

pub plain-type : (p : Flow) (xs : List ℤ) → AreNumbers p xs → type_of p ≡ W64 ∷ []
plain-type p xs plain = ap (λ ss. type_along ss p.head.ty) plain.stages ∙ plain.ty

-- its elements are of its type
pub plain-admitted : (p : Flow) (xs : List ℤ) (from to : ℕ) → AreNumbers p xs → All (Admits (type_of p)) (block_of p from to)
plain-admitted p xs from to plain =
    let all = All-take (Admits (W64 ∷ [])) (to - from) (drop from (singles xs)) (All-drop (Admits (W64 ∷ [])) from (singles xs) plain.admitted) in
    let here : All (Admits (W64 ∷ [])) (singles (slice_range xs from to)) = subst (All (Admits (W64 ∷ []))) (range-singles xs from to) all in
    subst (λ ty. All (Admits ty) (block_of p from to)) (sym (plain-type p xs plain)) (subst (All (Admits (W64 ∷ []))) (sym (plain-block p xs from to plain)) here)

-- a part of a list that is turned round is the part from behind, turned round
pub range-reverse : {X : Type 0} (xs : List X) (from to : ℕ) → from ≤ to → to ≤ length xs
    → slice_range (reverse xs) from to ≡ reverse (slice_range xs (length xs - to) (length xs - from))
range-reverse xs from to ordered within =
    let n = length xs in
    let back = slice_range xs (n - to) (n - from) in
    let behind = drop (n - to) xs in
    let count : (n - from) - (n - to) ≡ to - from = omega arith in
    let long_behind : length behind ≡ n - (n - to) = length-drop (n - to) xs in
    let long_back : length back ≡ to - from = length-take-le ((n - from) - (n - to)) behind (omega arith) ∙ count in
    let long_front : length (drop from (reverse xs)) ≡ n - from = length-drop from (reverse xs) ∙ ap (λ k. k - from) (length-reverse xs) in
    let long : length (slice_range (reverse xs) from to) ≡ to - from = length-take-le (to - from) (drop from (reverse xs)) (omega arith) in
    same_lists (slice_range (reverse xs) from to) (reverse back) (long ∙ sym long_back ∙ sym (length-reverse back))
    (λ k d h.
    let below : k < to - from = omega (arith, h, long) in
    let at : n - 1 - (from + k) ≡ (n - to) + (length back - 1 - k) = omega (arith, long_back, below) in
    let there : from + k < length xs = omega arith in
    let here : k < length back = omega arith in
    let inside : length back - 1 - k < (n - from) - (n - to) = omega arith in
    get_or-take (to - from) (drop from (reverse xs)) k d below
    ∙ get_or-drop from (reverse xs) k d
    ∙ get_or-reverse xs (from + k) d there
    ∙ ap (λ i. get_or xs i d) at
    ∙ sym (get_or-drop (n - to) xs (length back - 1 - k) d)
    ∙ sym (get_or-take ((n - from) - (n - to)) behind (length back - 1 - k) d inside)
    ∙ sym (get_or-reverse back k d here))

-- a block of a pipe that is a list, turned round or not
pub list-block : (p : Flow) (x : Elements) (from to : ℕ) → IsPlain p x → block_of p from to ≡ slice_range (turned p.reversed x.items) from to
list-block p x from to plain =
    ap (λ ss. staged ss (slice_range (places p) from to)) plain.stages ∙ ap (λ (h : Elements). slice_range (turned p.reversed h.items) from to) plain.head

pub list-type : (p : Flow) (x : Elements) → IsPlain p x → type_of p ≡ x.ty
list-type p x plain = ap (λ ss. type_along ss p.head.ty) plain.stages ∙ ap (λ (h : Elements). h.ty) plain.head
