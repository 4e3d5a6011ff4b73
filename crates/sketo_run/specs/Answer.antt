-- What a script makes of data.
use Rattle.std.specs.Prelude.{◌≡◌, ℕ, List, Result, Ok, Err, true}
use Rattle.data_text.specs.declared.value.Named.{Named}
use Rattle.data_text.specs.declared.data_fault.DataFault.{DataFault}
use Rattle.data_text.specs.Data.{Section, sections_of}
use Rattle.script_lang.specs.Syntax.{Statement}
use Rattle.script_lang.specs.Script.{script}
use Rattle.fuse_rewrite.specs.Meaning.{script_meaning}
use Rattle.script_run.specs.declared.fitting.FitFault.{FitFault}
use Rattle.script_run.specs.Fit.{Fit, fit_of, over_lists}

-- why data is refused
pub data DataRefusal : Type 0 where
  faulty : DataFault → DataRefusal
  unfit : FitFault → DataRefusal

abbrev pub if_fit : Fit → List Section → Result (List Section) DataRefusal
if_fit (Ok x) sections = Ok sections
if_fit (Err fault) sections = Err (unfit fault)

-- the sections of data that fits a script, or why the data is refused
abbrev pub fitting : List Statement → Result (List Section) DataFault → Result (List Section) DataRefusal
fitting lines (Err fault) = Err (faulty fault)
fitting lines (Ok sections) = if_fit (fit_of lines sections) sections

-- The script is accepted and is over lists, the data fits it, and these are the printed names with their values.
pub record IsAnswer (program input : List ℕ) (answer : List Named) : Type 0 where
  pub lines : List Statement
  pub sections : List Section
  pub accepted : script program ≡ Ok lines
  pub lists : over_lists lines ≡ true
  pub fits : fitting lines (sections_of input) ≡ Ok sections
  pub values : answer ≡ script_meaning sections lines

-- The script is accepted, has these lines, and is over lists; the data is refused.
pub record IsRefused (program input : List ℕ) (lines : List Statement) (refusal : DataRefusal) : Type 0 where
  pub accepted : script program ≡ Ok lines
  pub lists : over_lists lines ≡ true
  pub unfits : fitting lines (sections_of input) ≡ Err refusal
