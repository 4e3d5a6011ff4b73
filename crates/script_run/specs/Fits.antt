-- Data that fits a script over lists.
use Rattle.std.specs.Prelude.{◌≡◌, ℕ, ℤ, List, length, Option, Some, None, slice_get}
use Rattle.data_text.specs.Data.{many, Section}
use Rattle.script_lang.specs.declared.kind.Kind.TheVariants as kind
use Rattle.script_lang.specs.Syntax.{Binding, Statement, binds_input}
use Rattle.fuse_rewrite.specs.Meaning.{content_under}

-- the list of an input that this one is like is as long
abbrev pub IsAsLong : List Statement → List Section → Option ℕ → ℕ → Type 0
IsAsLong lines sections None long = Unit {0}
IsAsLong lines sections (Some m) long = (c : Binding) (k : Option ℕ) (ys : List ℤ) → slice_get lines m ≡ Some (binds_input c k) → content_under c.name sections ≡ Some (many ys) → long ≡ length ys

-- an input is a list, and the data has a list of its name
pub record IsListInput (lines : List Statement) (sections : List Section) (b : Binding) (like : Option ℕ) : Type 0 where
  pub kind : b.kind ≡ kind.List
  pub numbers : List ℤ
  pub there : content_under b.name sections ≡ Some (many numbers)
  pub alike : IsAsLong lines sections like (length numbers)

-- all inputs are
abbrev pub FitsLists : List Statement → List Section → Type 0
FitsLists lines sections = (n : ℕ) (b : Binding) (like : Option ℕ) → slice_get lines n ≡ Some (binds_input b like) → IsListInput lines sections b like
