-- The inputs of a script by their numbers, counted from 0.
use Rattle.std.specs.Prelude.{ℕ, List, [], Option, Some, None, option_map, option_and_then, slice_get}
use Rattle.std.specs.List.{filter_map}
use Rattle.script_lang.specs.Syntax.{Binding, Statement, binds_input, binds_let, prints}
use Rattle.script_lang.specs.Sound.{binding_at}

-- what an input line binds, and the line of the input that it is like
pub record Input : Type 0 where
  pub bound : Binding
  pub like : Option ℕ

abbrev pub input_by : Statement → Option Input
input_by (binds_input b like) = Some (record { bound = b; like = like })
input_by (binds_let b s) = None
input_by (prints n) = None

-- the inputs, in the order of their lines
abbrev pub inputs_of : List Statement → List Input
inputs_of lines = filter_map input_by lines

abbrev pub input_at : List Statement → ℕ → Option Input
input_at lines i = slice_get (inputs_of lines) i

abbrev pub name_bound : Option Binding → List ℕ
name_bound (Some b) = b.name
name_bound None = []

-- the name of an input
abbrev pub input_name : List Statement → ℕ → List ℕ
input_name lines i = name_bound (option_map (λ (x : Input). x.bound) (input_at lines i))

-- the name of the input that an input is like
abbrev pub like_name : List Statement → ℕ → List ℕ
like_name lines i = name_bound (option_and_then (binding_at lines) (option_and_then (λ (x : Input). x.like) (input_at lines i)))
