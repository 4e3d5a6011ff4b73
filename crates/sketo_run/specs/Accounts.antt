-- What a command tells of a script, as the code keeps it.
use Rattle.std.specs.Prelude.{◌≡◌, ℕ, List, map, Ok}
use Rattle.script_lang.specs.Syntax.{Statement}
use Rattle.script_lang.specs.Views.{statement_of}
use Rattle.script_lang.specs.Script.{script}
use Rattle.script_lang.specs.TypesText.{types_text}
use Rattle.fuse_rewrite.specs.PlanText.{plan_text}
use Rattle.sketo_run.specs.declared.telling.Told.{Told}
use Rattle.sketo_run.specs.declared.telling.Account.{Account}
use Rattle.sketo_run.specs.declared.telling.Account.TheVariants as account
use Rattle.sketo_run.specs.Ends.{told_text}

abbrev pub account_text : Account → List ℕ
account_text (account.Types s) = types_text (map statement_of s)
account_text (account.Plan p) = plan_text (map statement_of p.script)

-- this is the text of what is told of the script of these bytes
abbrev pub IsAccount : Told → List ℕ → List ℕ → Type 0
IsAccount what bytes text = (lines : List Statement) × (script bytes ≡ Ok lines) × (text ≡ told_text what lines)
