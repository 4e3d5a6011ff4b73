-- What is kept of the uses of a name while they are counted. No public clause cites this file.
use Rattle.std.specs.Prelude.{◌≡◌, ℕ, ◌<◌, Bool, true, false, not, ◌&&◌, List, [], ◌∷◌, length, Option, Some, None, slice_get, if◌then◌else◌}
use Rattle.script_lang.specs.declared.kind.Kind.TheVariants as kind
use Rattle.script_lang.specs.Tables.{same_kind}
use Rattle.script_lang.specs.Syntax.{Binding, Skeleton, Statement, binds_input, binds_let, prints}
use Rattle.fuse_rewrite.specs.declared.demand.Demand.{Demand}
use Rattle.fuse_rewrite.specs.declared.demand.Demand.TheVariants as demand
use Rattle.fuse_rewrite.specs.Uses.{Use, by_pipe, Uses, uses_of}
use Rattle.fuse_rewrite.specs.Steps.{makes_pipe, last_of}

abbrev pub is_by_pipe : Use → Bool
is_by_pipe by_pipe = true
is_by_pipe u = false

abbrev pub demand_of : List Use → Demand
demand_of [] = demand.Unused
demand_of (by_pipe ∷ []) = demand.Piped
demand_of us = demand.Built

-- with one more use
abbrev pub more_demand : Bool → Demand → Demand
more_demand true demand.Unused = demand.Piped
more_demand piped d = demand.Built

-- what is kept of these uses of each name
abbrev pub AreDemands : Uses → List Demand → Type 0
AreDemands us ds = (n : ℕ) → n < length ds → slice_get ds n ≡ Some (demand_of (uses_of n us))

abbrev pub AllBelow : ℕ → List ℕ → Type 0
AllBelow end [] = Unit {0}
AllBelow end (n ∷ ns) = (n < end) × AllBelow end ns

-- the names that a line uses
abbrev pub names_in : Statement → List ℕ
names_in (binds_input b like) = []
names_in (binds_let b s) = s.arguments
names_in (prints n) = n ∷ []

-- ---- what follows from it

abbrev pub used_by : Demand → Bool
used_by demand.Unused = false
used_by demand.Piped = true
used_by demand.Built = true

abbrev pub fused_by : Demand → Binding → Skeleton → Bool
fused_by demand.Unused b s = false
fused_by demand.Piped b s = same_kind b.kind kind.List && makes_pipe s.head
fused_by demand.Built b s = false

abbrev pub kept_by : Demand → Binding → Skeleton → Bool
kept_by d b s = used_by d && not (fused_by d b s)

abbrev pub argument_by : Demand → Statement → Option ℕ
argument_by d (binds_input b like) = None
argument_by d (binds_let b s) = if fused_by d b s then Some (last_of s.arguments) else None
argument_by d (prints n) = None
