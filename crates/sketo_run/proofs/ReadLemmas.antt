-- Which files a run leaves as they were.
use Rattle.std.proofs.Common.{◌≡◌, ℕ, List, Option, IfSome, Ok, true, inl, inr, ◌∙◌}
use Rattle.outside.specs.Outside.{OthersKept}
use Rattle.script_lang.specs.Syntax.{Statement}
use Rattle.script_lang.specs.Script.{script}
use Rattle.script_run.specs.Fit.{over_lists}
use Rattle.sketo_run.specs.Built.{IsBuilt}
use Rattle.command_words.specs.Commands.{Files}
use Rattle.sketo_run.specs.Reads.{OthersUnread}
use Rattle.sketo_run.proofs.AnswerLemmas.{one}

-- a run that reads its script alone
pub script_alone : (files : Files) (content : List ℕ → Option (List ℕ)) (old new : List ℕ → ℕ) → OthersKept content files.script old new → OthersUnread files content old new
script_alone files content old new h = λ file told unread. h file told (λ e. unread (inl e))

built_of : (o : Option (List ℕ)) (lines : List Statement) → IfSome o (λ bytes. script bytes ≡ Ok lines) → over_lists lines ≡ true → IfSome o IsBuilt
built_of o lines accepted lists = one o (λ bytes. script bytes ≡ Ok lines) IsBuilt accepted (λ bytes e. record { lines = lines; accepted = e; lists = lists })

-- a run that reads its data, after a script over lists
pub script_and_data : (files : Files) (content content' : List ℕ → Option (List ℕ)) (old mid new : List ℕ → ℕ) (lines : List Statement) → IfSome (content files.script) (λ bytes. script bytes ≡ Ok lines) → over_lists lines ≡ true
    → OthersKept content files.script old mid → content' ≡ content → OthersKept content' files.input mid new → OthersUnread files content old new
script_and_data files content content' old mid new lines accepted lists h same k = λ file told unread.
    (rw same at k) file told (λ e. unread (inr (e, built_of (content files.script) lines accepted lists))) ∙ h file told (λ e. unread (inl e))
