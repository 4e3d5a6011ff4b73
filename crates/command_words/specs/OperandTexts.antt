-- The operands so far, as texts. No public clause cites this.
use Rattle.std.specs.Prelude.{ℕ, List, [], ◌∷◌}
use Rattle.command_words.specs.declared.operands.Operands.{Operands}
use Rattle.command_words.specs.declared.operands.Operands.TheVariants.{Nothing, One, Two}

abbrev pub operand_texts : Operands → List (List ℕ)
operand_texts Nothing = []
operand_texts (One first) = first.now ∷ []
operand_texts (Two first second) = first.now ∷ second.now ∷ []
