-- How a run ends, and a command that tells of a script.
use Rattle.std.proofs.Common.{◌≡◌, ℕ, ◌⊎◌, inl, inr, List, Option, Some, None, IfSome, Result, Ok, Err, ap, sym, refl, ◌∙◌}
use Rattle.std.specs.Prelude.{IsSomeAnd, IsErr, Bool, true, false, map}
use Rattle.std.specs.Result.{is_err}
use Rattle.outside.specs.Outside.{Rose, Appends, AppendsFront}
use Rattle.data_text.specs.declared.value.Named.{Named}
use Rattle.data_text.specs.Data.{Section, sections_of}
use Rattle.script_lang.specs.declared.fault.ScriptFault.{ScriptFault}
use Rattle.script_lang.specs.Syntax.{Statement}
use Rattle.script_lang.specs.Script.{script}
use Rattle.command_words.specs.Commands.{Files}
use Rattle.script_lang.specs.Views.{statement_of}
use Rattle.script_run.specs.Fit.{over_lists}
use Rattle.sketo_run.specs.Built.{IsBuilt, IsNotBuilt}
use Rattle.sketo_run.specs.ValuesText.{values_text}
use Rattle.sketo_run.specs.Answer.{IsAnswer, IsRefused, DataRefusal, faulty, unfit, fitting}
use Rattle.sketo_run.specs.Causes.{IsOfScript, IsRefusalOf, IsScriptOf, IsCauseOf}
use Rattle.sketo_run.specs.Report.{IsReported, read_failed}
use Rattle.sketo_run.specs.declared.status.Status.{Status}
use Rattle.sketo_run.specs.declared.status.Status.TheVariants as status
use Rattle.sketo_run.specs.declared.stop.Stop.{Stop}
use Rattle.sketo_run.specs.declared.stop.Stop.TheVariants as stop
use Rattle.sketo_run.specs.Statuses.{code_of}
use Rattle.sketo_run.specs.Stops.{status_of, line_of}
use Rattle.sketo_run.specs.Ends.{WhereTold, IsPrinted, IsPrintedInPart, IsTold, IsToldInPart, IsScriptRefused, IsDataRefused, IsUnread, IsRefusedStatus, IsUnbuiltStatus, IsFaultless, IsTellingFaultless}
use Rattle.sketo_run.specs.declared.telling.Told.{Told}
use Rattle.sketo_run.specs.Accounts.{IsAccount}
use Rattle.sketo_run.proofs.AnswerLemmas.{one}

-- what follows from the contents of two files
where_told : (o p : Option (List ℕ)) (P Q : List ℕ → List ℕ → Type 0) → IfSome o (λ s. IfSome p (λ d. P s d)) → ((s d : List ℕ) → P s d → Q s d) → IfSome o (λ s. IfSome p (λ d. Q s d))
where_told None p P Q h f = tt
where_told (Some s) None P Q h f = tt
where_told (Some s) (Some d) P Q h f = f s d h

pub printed : (content : List ℕ → Option (List ℕ)) (files : Files) (answer : List Named) (w w' : Option (List ℕ))
    → WhereTold content files (λ s d. IsAnswer s d answer) → Appends w w' (values_text answer) → WhereTold content files (IsPrinted w w')
printed content files answer w w' h went =
    where_told (content files.script) (content files.input) (λ s d. IsAnswer s d answer) (IsPrinted w w') h (λ s d a. (answer, a, went))

pub printed_in_part : (content : List ℕ → Option (List ℕ)) (files : Files) (answer : List Named) (w w' : Option (List ℕ))
    → WhereTold content files (λ s d. IsAnswer s d answer) → AppendsFront w w' (values_text answer) → WhereTold content files (IsPrintedInPart w w')
printed_in_part content files answer w w' h went =
    where_told (content files.script) (content files.input) (λ s d. IsAnswer s d answer) (IsPrintedInPart w w') h (λ s d a. (answer, a, went))

pub told_printed : (o : Option (List ℕ)) (what : Told) (text : List ℕ) (w w' : Option (List ℕ)) → IfSome o (λ bytes. IsAccount what bytes text) → Appends w w' text → IfSome o (IsTold what w w')
told_printed o what text w w' h went = one o (λ bytes. IsAccount what bytes text) (IsTold what w w') h (λ bytes a. (a.0, a.1, rw (sym a.2) went))

pub told_in_part : (o : Option (List ℕ)) (what : Told) (text : List ℕ) (w w' : Option (List ℕ)) → IfSome o (λ bytes. IsAccount what bytes text) → AppendsFront w w' text → IfSome o (IsToldInPart what w w')
told_in_part o what text w w' h went = one o (λ bytes. IsAccount what bytes text) (IsToldInPart what w w') h (λ bytes a. (a.0, a.1, rw (sym a.2) went))

-- which status has a number
pub answered_code : (s : Status) (r : ℕ) → r ≡ code_of s → r ≡ 0 → s ≡ status.Answered
answered_code status.Answered r e z = refl
answered_code status.WordsRefused r e z = let different : ◌≡◌ {A = ℕ} 2 0 = sym e ∙ z in cc
answered_code status.ScriptRefused r e z = let different : ◌≡◌ {A = ℕ} 3 0 = sym e ∙ z in cc
answered_code status.DataRefused r e z = let different : ◌≡◌ {A = ℕ} 4 0 = sym e ∙ z in cc
answered_code status.ReadFailed r e z = let different : ◌≡◌ {A = ℕ} 5 0 = sym e ∙ z in cc
answered_code status.WriteFailed r e z = let different : ◌≡◌ {A = ℕ} 6 0 = sym e ∙ z in cc
answered_code status.NoMemory r e z = let different : ◌≡◌ {A = ℕ} 7 0 = sym e ∙ z in cc
answered_code status.NotBuilt r e z = let different : ◌≡◌ {A = ℕ} 8 0 = sym e ∙ z in cc

pub write_code : (s : Status) (r : ℕ) → r ≡ code_of s → r ≡ 6 → s ≡ status.WriteFailed
write_code status.Answered r e z = let different : ◌≡◌ {A = ℕ} 0 6 = sym e ∙ z in cc
write_code status.WordsRefused r e z = let different : ◌≡◌ {A = ℕ} 2 6 = sym e ∙ z in cc
write_code status.ScriptRefused r e z = let different : ◌≡◌ {A = ℕ} 3 6 = sym e ∙ z in cc
write_code status.DataRefused r e z = let different : ◌≡◌ {A = ℕ} 4 6 = sym e ∙ z in cc
write_code status.ReadFailed r e z = let different : ◌≡◌ {A = ℕ} 5 6 = sym e ∙ z in cc
write_code status.WriteFailed r e z = refl
write_code status.NoMemory r e z = let different : ◌≡◌ {A = ℕ} 7 6 = sym e ∙ z in cc
write_code status.NotBuilt r e z = let different : ◌≡◌ {A = ℕ} 8 6 = sym e ∙ z in cc

-- a script that is refused
refused_why : (file : List ℕ) (files : Files) (s : Stop) (r : ℕ) (w w' : Option (List ℕ)) (f f' : ℕ) (bytes : List ℕ) → file ≡ files.script → r ≡ code_of (status_of s) → r ≡ 3
    → IsScriptOf s bytes → IsReported (line_of s files) w w' f f' → IsScriptRefused file w w' f f' bytes
refused_why file files stop.ScriptUnread r w w' f f' bytes same e z why told = let different : ◌≡◌ {A = ℕ} 5 3 = sym e ∙ z in cc
refused_why file files stop.DataUnread r w w' f f' bytes same e z why told = let different : ◌≡◌ {A = ℕ} 5 3 = sym e ∙ z in cc
refused_why file files (stop.BadScript fault) r w w' f f' bytes same e z why told = (fault, why, rw same told)
refused_why file files (stop.BadData fault) r w w' f f' bytes same e z why told = let different : ◌≡◌ {A = ℕ} 4 3 = sym e ∙ z in cc
refused_why file files (stop.Unfit fault s') r w w' f f' bytes same e z why told = let different : ◌≡◌ {A = ℕ} 4 3 = sym e ∙ z in cc
refused_why file files stop.NoMemory r w w' f f' bytes same e z why told = let different : ◌≡◌ {A = ℕ} 7 3 = sym e ∙ z in cc
refused_why file files stop.NotBuilt r w w' f f' bytes same e z why told = let different : ◌≡◌ {A = ℕ} 8 3 = sym e ∙ z in cc

-- a stop of a run ends with status 3 where the script is refused, and tells why
pub stops_script : (content : List ℕ → Option (List ℕ)) (files : Files) (s : Stop) (r : ℕ) (w w' : Option (List ℕ)) (f f' : ℕ) → r ≡ code_of (status_of s)
    → IfSome (content files.script) (IsScriptOf s) → IsReported (line_of s files) w w' f f' → r ≡ 3 → IfSome (content files.script) (IsScriptRefused files.script w w' f f')
stops_script content files s r w w' f f' e cause told three =
    one (content files.script) (IsScriptOf s) (IsScriptRefused files.script w w' f f') cause (λ bytes why. refused_why files.script files s r w w' f f' bytes refl e three why told)

unbuilt : (s : Stop) (r : ℕ) (bytes : List ℕ) → r ≡ code_of (status_of s) → r ≡ 8 → IsScriptOf s bytes → IsNotBuilt bytes
unbuilt stop.ScriptUnread r bytes e z why = let different : ◌≡◌ {A = ℕ} 5 8 = sym e ∙ z in cc
unbuilt stop.DataUnread r bytes e z why = let different : ◌≡◌ {A = ℕ} 5 8 = sym e ∙ z in cc
unbuilt (stop.BadScript fault) r bytes e z why = let different : ◌≡◌ {A = ℕ} 3 8 = sym e ∙ z in cc
unbuilt (stop.BadData fault) r bytes e z why = let different : ◌≡◌ {A = ℕ} 4 8 = sym e ∙ z in cc
unbuilt (stop.Unfit fault s') r bytes e z why = let different : ◌≡◌ {A = ℕ} 4 8 = sym e ∙ z in cc
unbuilt stop.NoMemory r bytes e z why = let different : ◌≡◌ {A = ℕ} 7 8 = sym e ∙ z in cc
unbuilt stop.NotBuilt r bytes e z why = why

pub stops_unbuilt : (o : Option (List ℕ)) (s : Stop) (r : ℕ) → r ≡ code_of (status_of s) → IfSome o (IsScriptOf s) → r ≡ 8 → IfSome o IsNotBuilt
stops_unbuilt o s r e cause eight = one o (IsScriptOf s) IsNotBuilt cause (λ bytes why. unbuilt s r bytes e eight why)

-- a stop of a run ends with status 5 where a file couldn't be read
pub stops_unread : (content : List ℕ → Option (List ℕ)) (files : Files) (s : Stop) (r : ℕ) (faults faults' : List ℕ → ℕ) (w w' : Option (List ℕ)) (f f' : ℕ) → r ≡ code_of (status_of s)
    → IfSome (content files.script) (IsScriptOf s)
    → (s ≡ stop.ScriptUnread → Rose (faults files.script) (faults' files.script)) → (s ≡ stop.DataUnread → Rose (faults files.input) (faults' files.input))
    → IsReported (line_of s files) w w' f f' → r ≡ 5 → (file : List ℕ) × IsUnread content files faults faults' file × IsReported (read_failed file) w w' f f'
stops_unread content files stop.ScriptUnread r g g' w w' f f' e cause script input told z =
    (files.script, record { named = inl refl; rose = script refl; after_script = λ differ same. absurd (differ same) }, told)
stops_unread content files stop.DataUnread r g g' w w' f f' e cause script input told z =
    (files.input, record { named = inr refl; rose = input refl; after_script = λ differ same. cause }, told)
stops_unread content files (stop.BadScript fault) r g g' w w' f f' e cause script input told z = let different : ◌≡◌ {A = ℕ} 3 5 = sym e ∙ z in cc
stops_unread content files (stop.BadData fault) r g g' w w' f f' e cause script input told z = let different : ◌≡◌ {A = ℕ} 4 5 = sym e ∙ z in cc
stops_unread content files (stop.Unfit fault s') r g g' w w' f f' e cause script input told z = let different : ◌≡◌ {A = ℕ} 4 5 = sym e ∙ z in cc
stops_unread content files stop.NoMemory r g g' w w' f f' e cause script input told z = let different : ◌≡◌ {A = ℕ} 7 5 = sym e ∙ z in cc
stops_unread content files stop.NotBuilt r g g' w w' f f' e cause script input told z = let different : ◌≡◌ {A = ℕ} 8 5 = sym e ∙ z in cc

-- a script has one list of lines
same_lines : (bytes : List ℕ) (ls ms : List Statement) → script bytes ≡ Ok ls → script bytes ≡ Ok ms → ms ≡ ls
same_lines bytes ls ms h k =
    let both_are : ◌≡◌ {A = Result (List Statement) ScriptFault} (Ok ms) (Ok ls) = sym k ∙ h in cc

not_both : (program input : List ℕ) (lines : List Statement) (why : DataRefusal) (answer : List Named) → IsRefused program input lines why → IsAnswer program input answer → ⊥
not_both program input lines why answer h k =
    let same : k.lines ≡ lines = same_lines program lines k.lines h.accepted k.accepted in
    let both_are : ◌≡◌ {A = Result (List Section) DataRefusal} (Ok k.sections) (Err why) = sym k.fits ∙ ap (λ (l : List Statement). fitting l (sections_of input)) same ∙ h.unfits in cc

-- an answer is where the data is refused
no_refusal : (s : Stop) (o p : Option (List ℕ)) → ((script input : List ℕ) (answer : List Named) → IsCauseOf s script input → IsAnswer script input answer → ⊥) → IfSome o (λ script. IfSome p (λ input. IsCauseOf s script input))
    → IsSomeAnd o (λ script. IsSomeAnd p (λ input. (answer : List Named) × IsAnswer script input answer)) → ⊥
no_refusal s None p never why has = has
no_refusal s (Some script) None never why has = has
no_refusal s (Some script) (Some input) never why has = never script input has.0 why has.1

-- an answer is where the script has another form, or is refused
no_script : (o p : Option (List ℕ)) (P : List ℕ → Type 0) → ((bytes : List ℕ) (lines : List Statement) → P bytes → script bytes ≡ Ok lines → over_lists lines ≡ true → ⊥) → IfSome o P
    → IsSomeAnd o (λ script. IsSomeAnd p (λ input. (answer : List Named) × IsAnswer script input answer)) → ⊥
no_script None p P never h has = has
no_script (Some script) None P never h has = has
no_script (Some script) (Some input) P never h has = never script has.1.lines h has.1.accepted has.1.lists

other_form : (bytes : List ℕ) (lines : List Statement) → IsNotBuilt bytes → script bytes ≡ Ok lines → over_lists lines ≡ true → ⊥
other_form bytes lines h accepted lists =
    let same : h.lines ≡ lines = same_lines bytes lines h.lines accepted h.accepted in
    let both_say : ◌≡◌ {A = Bool} true false = sym lists ∙ ap over_lists (sym same) ∙ h.others in cc

at_fault : (fault : ScriptFault) (bytes : List ℕ) (lines : List Statement) → script bytes ≡ Err fault → script bytes ≡ Ok lines → over_lists lines ≡ true → ⊥
at_fault fault bytes lines h accepted lists =
    let both_are : ◌≡◌ {A = Result (List Statement) ScriptFault} (Ok lines) (Err fault) = sym accepted ∙ h in cc

-- a run without faults whose files have an answer stops for want of memory alone
pub stops_faultless : (content : List ℕ → Option (List ℕ)) (files : Files) (s : Stop) (r : ℕ) (faults faults' : List ℕ → ℕ) (out out' : ℕ) → r ≡ code_of (status_of s)
    → WhereTold content files (IsCauseOf s) → IfSome (content files.script) (IsScriptOf s)
    → (s ≡ stop.ScriptUnread → Rose (faults files.script) (faults' files.script)) → (s ≡ stop.DataUnread → Rose (faults files.input) (faults' files.input))
    → IsFaultless content files faults faults' out out' → (r ≡ 0) ⊎ (r ≡ 7)
stops_faultless content files stop.ScriptUnread r f f' o o' e cause form script input h = absurd (h.script_read (script refl))
stops_faultless content files stop.DataUnread r f f' o o' e cause form script input h = absurd (h.input_read (input refl))
stops_faultless content files stop.NoMemory r f f' o o' e cause form script input h = inr e
stops_faultless content files stop.NotBuilt r f f' o o' e cause form script input h = absurd (no_script (content files.script) (content files.input) IsNotBuilt other_form form h.has_answer)
stops_faultless content files (stop.BadScript fault) r f f' o o' e cause form script input h =
    absurd (no_script (content files.script) (content files.input) (IsRefusalOf (stop.BadScript fault)) (at_fault fault) form h.has_answer)
stops_faultless content files (stop.BadData fault) r f f' o o' e cause form script input h =
    absurd (no_refusal (stop.BadData fault) (content files.script) (content files.input) (λ s d a why k. not_both s d why.0 (faulty fault) a why.1 k) cause h.has_answer)
stops_faultless content files (stop.Unfit fault s') r f f' o o' e cause form script input h =
    absurd (no_refusal (stop.Unfit fault s') (content files.script) (content files.input) (λ s d a why k. not_both s d (map statement_of s') (unfit fault) a why k) cause h.has_answer)

-- the line of a stop tells why the data is refused
told_why : (file : List ℕ) (files : Files) (s : Stop) (r : ℕ) (script input : List ℕ) (w w' : Option (List ℕ)) (f f' : ℕ) → file ≡ files.input → r ≡ code_of (status_of s) → r ≡ 4 → IsCauseOf s script input
    → IsReported (line_of s files) w w' f f' → IsDataRefused file w w' f f' script input
told_why file files stop.ScriptUnread r script input w w' f f' same e z why told = let different : ◌≡◌ {A = ℕ} 5 4 = sym e ∙ z in cc
told_why file files stop.DataUnread r script input w w' f f' same e z why told = let different : ◌≡◌ {A = ℕ} 5 4 = sym e ∙ z in cc
told_why file files (stop.BadScript fault) r script input w w' f f' same e z why told = let different : ◌≡◌ {A = ℕ} 3 4 = sym e ∙ z in cc
told_why file files (stop.BadData fault) r script input w w' f f' same e z why told = (why.0, faulty fault, why.1, rw same told)
told_why file files (stop.Unfit fault s') r script input w w' f f' same e z why told = (map statement_of s', unfit fault, why, rw same told)
told_why file files stop.NoMemory r script input w w' f f' same e z why told = let different : ◌≡◌ {A = ℕ} 7 4 = sym e ∙ z in cc
told_why file files stop.NotBuilt r script input w w' f f' same e z why told = let different : ◌≡◌ {A = ℕ} 8 4 = sym e ∙ z in cc

-- a stop of a run ends with status 4 where the data is refused, and tells why
pub stops_refused : (content : List ℕ → Option (List ℕ)) (files : Files) (s : Stop) (r : ℕ) (w w' : Option (List ℕ)) (f f' : ℕ) → r ≡ code_of (status_of s)
    → WhereTold content files (IsCauseOf s) → IsReported (line_of s files) w w' f f' → r ≡ 4 → WhereTold content files (IsDataRefused files.input w w' f f')
stops_refused content files s r w w' f f' e cause told four =
    where_told (content files.script) (content files.input) (IsCauseOf s) (IsDataRefused files.input w w' f f') cause
    (λ script input why. told_why files.input files s r script input w w' f f' refl e four why told)

-- ---- scripts alone

telling_why : (file : List ℕ) (files : Files) (s : Stop) (r : ℕ) (w w' : Option (List ℕ)) (f f' : ℕ) (bytes : List ℕ) → file ≡ files.script → r ≡ code_of (status_of s) → r ≡ 3
    → IsRefusalOf s bytes → IsReported (line_of s files) w w' f f' → IsScriptRefused file w w' f f' bytes
telling_why file files stop.ScriptUnread r w w' f f' bytes same e z why told = let different : ◌≡◌ {A = ℕ} 5 3 = sym e ∙ z in cc
telling_why file files stop.DataUnread r w w' f f' bytes same e z why told = let different : ◌≡◌ {A = ℕ} 5 3 = sym e ∙ z in cc
telling_why file files (stop.BadScript fault) r w w' f f' bytes same e z why told = (fault, why, rw same told)
telling_why file files (stop.BadData fault) r w w' f f' bytes same e z why told = let different : ◌≡◌ {A = ℕ} 4 3 = sym e ∙ z in cc
telling_why file files (stop.Unfit fault s') r w w' f f' bytes same e z why told = let different : ◌≡◌ {A = ℕ} 4 3 = sym e ∙ z in cc
telling_why file files stop.NoMemory r w w' f f' bytes same e z why told = let different : ◌≡◌ {A = ℕ} 7 3 = sym e ∙ z in cc
telling_why file files stop.NotBuilt r w w' f f' bytes same e z why told = let different : ◌≡◌ {A = ℕ} 8 3 = sym e ∙ z in cc

pub telling_script : (o : Option (List ℕ)) (files : Files) (s : Stop) (r : ℕ) (w w' : Option (List ℕ)) (f f' : ℕ) → r ≡ code_of (status_of s)
    → IfSome o (IsRefusalOf s) → IsReported (line_of s files) w w' f f' → r ≡ 3 → IfSome o (IsScriptRefused files.script w w' f f')
telling_script o files s r w w' f f' e cause told three =
    one o (IsRefusalOf s) (IsScriptRefused files.script w w' f f') cause (λ bytes why. telling_why files.script files s r w w' f f' bytes refl e three why told)

-- a command that tells of a script without faults of a script that is accepted stops for want of memory alone
refused_and_accepted : (o : Option (List ℕ)) (fault : ScriptFault) → IfSome o (λ bytes. script bytes ≡ Err fault) → IsSomeAnd o (λ bytes. (lines : List Statement) × (script bytes ≡ Ok lines)) → ⊥
refused_and_accepted None fault h k = k
refused_and_accepted (Some bytes) fault h k =
    let both_are : ◌≡◌ {A = Result (List Statement) ScriptFault} (Ok k.0) (Err fault) = sym k.1 ∙ h in cc

pub telling_faultless : (content : List ℕ → Option (List ℕ)) (file : List ℕ) (s : Stop) (r : ℕ) (faults faults' : List ℕ → ℕ) (out out' : ℕ) → r ≡ code_of (status_of s)
    → IfSome (content file) (IsRefusalOf s) → IsOfScript s → (s ≡ stop.ScriptUnread → Rose (faults file) (faults' file))
    → IsTellingFaultless content file faults faults' out out' → (r ≡ 0) ⊎ (r ≡ 7)
telling_faultless content file stop.ScriptUnread r f f' o o' e cause alone script h = absurd (h.script_read (script refl))
telling_faultless content file stop.NoMemory r f f' o o' e cause alone script h = inr e
telling_faultless content file (stop.BadScript fault) r f f' o o' e cause alone script h = absurd (refused_and_accepted (content file) fault cause h.accepted)
telling_faultless content file stop.DataUnread r f f' o o' e cause alone script h = absurd alone
telling_faultless content file (stop.BadData fault) r f f' o o' e cause alone script h = absurd alone
telling_faultless content file (stop.Unfit fault s') r f f' o o' e cause alone script h = absurd alone
telling_faultless content file stop.NotBuilt r f f' o o' e cause alone script h = absurd alone

-- ---- scripts at fault

-- an accepted script isn't at fault
at_no_fault : (bytes : List ℕ) (lines : List Statement) → script bytes ≡ Ok lines → IsErr (script bytes) → ⊥
at_no_fault bytes lines e h = let never : is_err {E = ScriptFault} (Ok lines) ≡ true = rw e at h in cc

run_of_fault : (s : Stop) (r : ℕ) (bytes : List ℕ) → r ≡ code_of (status_of s) → IsScriptOf s bytes → IsErr (script bytes) → IsRefusedStatus r
run_of_fault stop.ScriptUnread r bytes e why h = inr (inl e)
run_of_fault stop.DataUnread r bytes e why h = absurd (at_no_fault bytes why.lines why.accepted h)
run_of_fault (stop.BadScript fault) r bytes e why h = inl e
run_of_fault (stop.BadData fault) r bytes e why h = absurd (at_no_fault bytes why.lines why.accepted h)
run_of_fault (stop.Unfit fault s') r bytes e why h = absurd (at_no_fault bytes why.lines why.accepted h)
run_of_fault stop.NoMemory r bytes e why h = inr (inr e)
run_of_fault stop.NotBuilt r bytes e why h = absurd (at_no_fault bytes why.lines why.accepted h)

pub run_at_fault : (o : Option (List ℕ)) (s : Stop) (r : ℕ) → r ≡ code_of (status_of s) → IfSome o (IsScriptOf s) → IfSome o (λ bytes. IsErr (script bytes) → IsRefusedStatus r)
run_at_fault o s r e cause = one o (IsScriptOf s) (λ bytes. IsErr (script bytes) → IsRefusedStatus r) cause (λ bytes why h. run_of_fault s r bytes e why h)

pub no_run_at_fault : (o : Option (List ℕ)) (r : ℕ) → IfSome o IsBuilt → IfSome o (λ bytes. IsErr (script bytes) → IsRefusedStatus r)
no_run_at_fault o r built = one o IsBuilt (λ bytes. IsErr (script bytes) → IsRefusedStatus r) built (λ bytes b h. absurd (at_no_fault bytes b.lines b.accepted h))

-- ---- scripts that aren't built

-- a script is of one form
one_form : (bytes : List ℕ) → IsBuilt bytes → IsNotBuilt bytes → ⊥
one_form bytes built h = other_form bytes built.lines h built.accepted built.lists

unbuilt_status : (s : Stop) (r : ℕ) (bytes : List ℕ) → r ≡ code_of (status_of s) → IsScriptOf s bytes → IsNotBuilt bytes → IsUnbuiltStatus r
unbuilt_status stop.ScriptUnread r bytes e why h = inr (inl e)
unbuilt_status stop.NoMemory r bytes e why h = inr (inr e)
unbuilt_status stop.NotBuilt r bytes e why h = inl e
unbuilt_status (stop.BadScript fault) r bytes e why h =
    let both_are : ◌≡◌ {A = Result (List Statement) ScriptFault} (Ok h.lines) (Err fault) = sym h.accepted ∙ why in cc
unbuilt_status stop.DataUnread r bytes e why h = absurd (one_form bytes why h)
unbuilt_status (stop.BadData fault) r bytes e why h = absurd (one_form bytes why h)
unbuilt_status (stop.Unfit fault s') r bytes e why h = absurd (one_form bytes why h)

pub run_unbuilt : (o : Option (List ℕ)) (s : Stop) (r : ℕ) → r ≡ code_of (status_of s) → IfSome o (IsScriptOf s) → IfSome o (λ bytes. IsNotBuilt bytes → IsUnbuiltStatus r)
run_unbuilt o s r e cause = one o (IsScriptOf s) (λ bytes. IsNotBuilt bytes → IsUnbuiltStatus r) cause (λ bytes why h. unbuilt_status s r bytes e why h)

pub no_run_unbuilt : (o : Option (List ℕ)) (r : ℕ) → IfSome o IsBuilt → IfSome o (λ bytes. IsNotBuilt bytes → IsUnbuiltStatus r)
no_run_unbuilt o r built = one o IsBuilt (λ bytes. IsNotBuilt bytes → IsUnbuiltStatus r) built (λ bytes b h. absurd (one_form bytes b h))

-- ---- what is told of scripts at fault

telling_of_fault : (s : Stop) (r : ℕ) → r ≡ code_of (status_of s) → IsOfScript s → IsRefusedStatus r
telling_of_fault stop.ScriptUnread r e alone = inr (inl e)
telling_of_fault (stop.BadScript fault) r e alone = inl e
telling_of_fault stop.NoMemory r e alone = inr (inr e)
telling_of_fault stop.DataUnread r e alone = absurd alone
telling_of_fault (stop.BadData fault) r e alone = absurd alone
telling_of_fault (stop.Unfit fault s') r e alone = absurd alone
telling_of_fault stop.NotBuilt r e alone = absurd alone

pub telling_at_fault : (o : Option (List ℕ)) (s : Stop) (r : ℕ) → r ≡ code_of (status_of s) → IsOfScript s → IfSome o (λ bytes. IsErr (script bytes) → IsRefusedStatus r)
telling_at_fault None s r e alone = tt
telling_at_fault (Some bytes) s r e alone = λ h. telling_of_fault s r e alone

pub no_telling_at_fault : (o : Option (List ℕ)) (what : Told) (text : List ℕ) (r : ℕ) → IfSome o (λ bytes. IsAccount what bytes text) → IfSome o (λ bytes. IsErr (script bytes) → IsRefusedStatus r)
no_telling_at_fault o what text r good = one o (λ bytes. IsAccount what bytes text) (λ bytes. IsErr (script bytes) → IsRefusedStatus r) good (λ bytes a h. absurd (at_no_fault bytes a.0 a.1 h))
