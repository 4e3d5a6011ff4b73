-- How the code's scalars and functions are seen, and how the code reads a tuple.
use Rattle.std.specs.Prelude.{ℕ, List, ◌∷◌, Ok}
use Rattle.scalar_expr.specs.Views.{expr_of, scalars_of}
use Rattle.script_words.specs.declared.spelled.SpelledScalar.{SpelledScalar}
use Rattle.script_words.specs.declared.spelled.SpelledFunction.{SpelledFunction}
use Rattle.script_words.specs.Lines.{Token}
use Rattle.script_words.specs.Read.{Read, ◌>>=◌}
use Rattle.script_words.specs.Functions.{Spelled, Function, function_with}

abbrev pub spelled_of : SpelledScalar → Spelled
spelled_of s = record { scalar = expr_of s.scalar; columns = s.columns.items }

abbrev pub function_of : SpelledFunction → Function
function_of f = record { scalars = scalars_of f.func; columns = f.columns.items; at = f.at }

-- the function of the scalars that are read, whose first word has this column
abbrev pub function_from : ℕ → Read (List Spelled × List Token) → Read (Function × List Token)
function_from at read = read >>= λ ss. Ok (function_with ss.0 at, ss.1)

-- the function of two scalars and those that are read after them
abbrev pub tuple_from : Spelled → Spelled → ℕ → Read (List Spelled × List Token) → Read (Function × List Token)
tuple_from a b at read = read >>= λ ss. Ok (function_with (a ∷ b ∷ ss.0) at, ss.1)
