-- Turns of the loops over lines.
use Rattle.std.proofs.Common.{◌≡◌, ℕ, suc, ◌+◌, ◌<◌, ◌≤◌, Bool, List, [], ◌∷◌, ◌++◌, length, map, get_or, take, drop, Option, Some, refl, sym, ap, ◌∙◌, subst, arith, add-one, drop-cons}
use Rattle.std.specs.Prelude.{slice_get, option_map}
use Rattle.std.proofs.lemmas.Option.{slice_get-map, slice_get_read, slice_get_within, get_or_from_slice_get}
use Rattle.std.proofs.lemmas.List.{length-map, drop_all, take_at}
use Rattle.script_lang.specs.declared.line.Line.{Line}
use Rattle.script_lang.specs.Syntax.{Statement}
use Rattle.script_lang.specs.Views.{statement_of}
use Rattle.fuse_rewrite.specs.declared.demand.Demand.{Demand}
use Rattle.fuse_rewrite.specs.Uses.{Uses, uses_of, is_needed, uses_with, uses_above, uses_from}
use Rattle.fuse_rewrite.specs.Demands.{AreDemands, demand_of, used_by}
use Rattle.fuse_rewrite.proofs.DemandLemmas.{uses_next, uses_none}
use Rattle.fuse_rewrite.proofs.StepLemmas.{used_is}

-- a line that is read
pub line_is : (ls : List Line) (i : ℕ) (l : Line) → i < length ls → l ≡ get_or ls i l → slice_get (map statement_of ls) i ≡ Some (statement_of l)
line_is ls i l lt is = slice_get-map statement_of ls i ∙ ap (λ (o : Option Line). option_map statement_of o) (slice_get_read ls (length ls) i l refl lt is)

pub drop_at : (ls : List Statement) (k : ℕ) (l : Statement) → slice_get ls k ≡ Some l → drop k ls ≡ l ∷ drop (k + 1) ls
drop_at ls k l at =
    let cons : drop k ls ≡ get_or ls k l ∷ drop (suc k) ls = drop-cons ls k l (slice_get_within ls k l at) in
    rw (add-one, cons, get_or_from_slice_get ls k l l at) refl

-- one line more, from the last up
pub turn : (ls : List Statement) (k n : ℕ) (l : Statement) (needed : Bool) (d : Demand) (new : List Demand) → n ≡ k + 1 → slice_get ls k ≡ Some l
    → d ≡ demand_of (uses_of k (uses_from n (drop n ls))) → needed ≡ used_by d
    → AreDemands (uses_with needed l (uses_from n (drop n ls))) new → AreDemands (uses_from k (drop k ls)) new
turn ls k n l needed d new up at demand used more =
    let below = uses_from n (drop n ls) in
    let is : needed ≡ is_needed (uses_of k below) = used ∙ (ap (λ (e : Demand). used_by e) demand ∙ sym (used_is (uses_of k below))) in
    let next : uses_from k (drop k ls) ≡ uses_above k l (uses_from (k + 1) (drop (k + 1) ls)) = uses_next k l (drop k ls) (drop (k + 1) ls) (drop_at ls k l at) in
    let same : uses_from k (drop k ls) ≡ uses_with needed l below = rw (is, up) next in
    subst (λ (us : Uses). AreDemands us new) (sym same) more

-- below the last line
pub turn_none : (ls : List Line) (ds : List Demand) → AreDemands [] ds → AreDemands (uses_from (length ls) (drop (length ls) (map statement_of ls))) ds
turn_none ls ds are =
    let le : length (map statement_of ls) ≤ length ls = rw (length-map ls statement_of) (omega arith) in
    let none : drop (length ls) (map statement_of ls) ≡ [] = drop_all (length ls) (map statement_of ls) le in
    subst (λ (us : Uses). AreDemands us ds) (sym (uses_none (length ls) (drop (length ls) (map statement_of ls)) none)) are

-- all of a list is written
pub written : (new rest : List Demand) (count : ℕ) → count ≡ length new → take count (new ++ rest) ≡ new
written new rest count e = take_at new rest count (sym e)
