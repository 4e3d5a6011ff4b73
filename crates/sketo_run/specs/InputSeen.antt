-- What the code's view of an input is.
use Rattle.script_lang.specs.Views.{binding_of}
use Rattle.sketo_run.specs.declared.input_names.Input as named
use Rattle.sketo_run.specs.Inputs.{Input}

-- the input with what it stands for
abbrev pub input_seen : named.Input → Input
input_seen x = record { bound = binding_of x.bound.now; like = x.like }
