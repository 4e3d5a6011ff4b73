-- One element through the stages: words on how blocks are computed, which no public clause cites.
use Rattle.std.specs.Prelude.{ℤ, if◌then◌else◌, List, [], ◌∷◌, Option, Some, None}
use Rattle.std.specs.Option.{option_and_then}
use Rattle.scalar_expr.specs.Values.{values_of}
use Rattle.list_fusion.specs.declared.stage.Stage.{Stage}
use Rattle.list_fusion.specs.declared.stage.Stage.TheVariants.{Map, Keep}
use Rattle.list_fusion.specs.Stages.{is_kept}

-- what a stage makes of an element, if it keeps it
abbrev pub after_stage : Stage → List ℤ → Option (List ℤ)
after_stage (Map f) e = Some (values_of f.scalars e)
after_stage (Keep f) e = if is_kept f.scalars e then Some e else None

abbrev pub through : List Stage → List ℤ → Option (List ℤ)
through [] e = Some e
through (s ∷ ss) e = option_and_then (through ss) (after_stage s e)
