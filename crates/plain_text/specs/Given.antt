-- What a call did that was given bytes for an outlet and its sink.
use Rattle.std.specs.Prelude.{◌≡◌, ℕ, ◌+◌, ◌%◌, ◌⊎◌, List, ◌++◌, length, Option, true, false}
use Rattle.outside.specs.Outside.{Rose, AppendsFront}
use Rattle.plain_text.specs.Hands.{Hands}
use Rattle.plain_text.specs.Pending.{Pending, piece_len}

-- The bytes were given: what was held and given went out but for a rest, which is held. Whole pieces
-- went out as soon as they were there.
pub record IsGiven (bytes : List ℕ) (before after : Pending) (written written' : Option (List ℕ)) : Type 0 where
  pub worked : before.failed ≡ false
  pub works : after.failed ≡ false
  pub hands : Hands written written' (before.held ++ bytes) after.held
  pub rest : length after.held ≡ (length before.held + length bytes) % piece_len

-- The sink failed in this call, or the outlet had failed before: a front of what was held and given went out.
pub record IsCutOff (bytes : List ℕ) (before after : Pending) (written written' : Option (List ℕ)) (faults faults' : ℕ) : Type 0 where
  pub failed : after.failed ≡ true
  pub front : AppendsFront written written' (before.held ++ bytes)
  pub cause : Rose faults faults' ⊎ (before.failed ≡ true)
