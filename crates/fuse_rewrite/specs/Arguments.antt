-- How the code's arguments of a skeleton are seen. No public clause cites this file.
use Rattle.std.specs.Prelude.{ℕ, List, [], ◌∷◌, Option, Some, None}
use Rattle.fuse_rewrite.specs.declared.skeleton.Arguments.{Arguments}

abbrev pub listed : Option ℕ → ℕ → List ℕ
listed None y = y ∷ []
listed (Some x) y = x ∷ y ∷ []

abbrev pub list_of : Arguments → List ℕ
list_of a = listed a.first a.last
