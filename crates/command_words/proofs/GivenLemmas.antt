-- What items give, one item after another.
use Rattle.std.proofs.Common.{◌≡◌, ℕ, Bool, true, false, List, [], ◌∷◌, ◌++◌, Option, Some, None, ap, refl, sym, ◌∙◌, append_assoc}
use Rattle.std.specs.Prelude.{find, bytes_eq, is_some, option_and_then, option_map, if◌then◌else◌}
use Rattle.std.specs.Option.{option_or}
use Rattle.std.proofs.lemmas.List.{append-nil}
use Rattle.std.proofs.lemmas.List.Elements.{filter_map-append}
use Rattle.std.proofs.lemmas.Slice.Eq.{bytes_eq-Decides}
use Rattle.command_words.specs.declared.command.Verb.{Verb}
use Rattle.command_words.specs.declared.command.Setting.{Setting}
use Rattle.command_words.specs.declared.command.Setting.TheVariants.{M, Block, Workers}
use Rattle.command_words.specs.declared.operands.Operands.{Operands}
use Rattle.command_words.specs.declared.given.Given.{Given}
use Rattle.command_words.specs.Commands.{setting_of, settings_of, option_of}
use Rattle.command_words.specs.Refusals.{at}
use Rattle.command_words.specs.Words.{Item, operand, option, items_of, operand_in, operands_of, value_in, value_by, value_of, operand_fault, value_fault, first_fault}
use Rattle.command_words.specs.OperandTexts.{operand_texts}
use Rattle.command_words.specs.Given.{value_kept, kept_with, IsGiven, IsGivenNext}

option_or-assoc : {X : Type 0} (a b c : Option X) → option_or a (option_or b c) ≡ option_or (option_or a b) c
option_or-assoc None b c = refl
option_or-assoc (Some x) b c = refl

option_or-none : {X : Type 0} (a : Option X) → option_or a None ≡ a
option_or-none None = refl
option_or-none (Some x) = refl

value_of-append : (s : Setting) (xs ys : List Item) → value_of s (xs ++ ys) ≡ option_or (value_of s xs) (value_of s ys)
value_of-append s [] ys = refl
value_of-append s (x ∷ xs) ys = ap (option_or (value_by s x)) (value_of-append s xs ys) ∙ option_or-assoc (value_by s x) (value_of s xs) (value_of s ys)

-- one item more
value_of-one : (s : Setting) (xs : List Item) (x : Item) → value_of s (xs ++ x ∷ []) ≡ option_or (value_of s xs) (value_by s x)
value_of-one s xs x = value_of-append s xs (x ∷ []) ∙ ap (option_or (value_of s xs)) (option_or-none (value_by s x))

same_values : (s : Setting) (given : Given) (operands : Operands) → value_kept s given ≡ value_kept s (record given { operands = operands })
same_values M given operands = refl
same_values Block given operands = refl
same_values Workers given operands = refl

-- an operand more
pub with_operand : (verb : Verb) (before : List Item) (word : List ℕ) (given : Given) (operands : Operands) → operand_fault verb (operand_texts given.operands) word ≡ None
    → operand_texts operands ≡ operand_texts given.operands ++ word ∷ [] → IsGiven before given → IsGivenNext verb before (operand word) (record given { operands = operands })
with_operand verb before word given operands fault more h = record {
  faultless = rw h.operands (ap (option_map (at word)) fault);
  given_now = record {
    operands = filter_map-append operand_in before (operand word ∷ []) ∙ (ap (λ (l : List (List ℕ)). l ++ word ∷ []) h.operands ∙ sym more);
    values = λ s. value_of-one s before (operand word) ∙ (option_or-none (value_of s before) ∙ (h.values s ∙ same_values s given operands));
  };
}

found_at : (p : Setting → Bool) (x y : Setting) (xs : List Setting) (b : Bool) → p x ≡ b → (find p xs ≡ Some y → p y ≡ true) → (if b then Some x else find p xs) ≡ Some y → p y ≡ true
found_at p x y xs true e rest is = let same : x ≡ y = cc in rw (← same) e
found_at p x y xs false e rest is = rest is

-- what is found passes the test
find-passes : (p : Setting → Bool) (xs : List Setting) (y : Setting) → find p xs ≡ Some y → p y ≡ true
find-passes p [] y e = cc
find-passes p (x ∷ xs) y e = found_at p x y xs (p x) refl (find-passes p xs y) e

named : (verb : Verb) (word : List ℕ) (s : Setting) → setting_of verb word ≡ Some s → word ≡ option_of s
named verb word s e = (bytes_eq-Decides word (option_of s)).0 (find-passes (λ t. bytes_eq word (option_of t)) (settings_of verb) s e)

none_had : (o : Option ℕ) → is_some o ≡ false → o ≡ None
none_had None e = refl
none_had (Some n) e = cc

-- what an option gives to each setting
valued : (s t : Setting) (n : ℕ) (value : Option (List ℕ)) (given : Given) → value_kept s given ≡ None → option_and_then (value_in s) value ≡ Some n
    → option_or (value_kept t given) (value_by t (option (option_of s) value)) ≡ value_kept t (kept_with s n given)
valued M M n value given none is = rw (none) is
valued M Block n value given none is = option_or-none given.block
valued M Workers n value given none is = option_or-none given.workers
valued Block M n value given none is = option_or-none given.m
valued Block Block n value given none is = rw (none) is
valued Block Workers n value given none is = option_or-none given.workers
valued Workers M n value given none is = option_or-none given.m
valued Workers Block n value given none is = option_or-none given.block
valued Workers Workers n value given none is = rw (none) is

kept_operands : (s : Setting) (n : ℕ) (given : Given) → (kept_with s n given).operands ≡ given.operands
kept_operands M n given = refl
kept_operands Block n given = refl
kept_operands Workers n given = refl

-- an option more
pub with_option : (verb : Verb) (before : List Item) (word : List ℕ) (value : Option (List ℕ)) (given : Given) (s : Setting) (n : ℕ) → setting_of verb word ≡ Some s
    → is_some (value_kept s given) ≡ false → value_fault s word value ≡ None → option_and_then (value_in s) value ≡ Some n → IsGiven before given
    → IsGivenNext verb before (option word value) (kept_with s n given)
with_option verb before word value given s n is new faultless_value has h = record {
  faultless = rw (is, h.values s, new) faultless_value;
  given_now = record {
    operands = filter_map-append operand_in before (option word value ∷ []) ∙ (append-nil (operands_of before) ∙ (h.operands ∙ sym (ap operand_texts (kept_operands s n given))));
    values = λ t. value_of-one t before (option word value) ∙ rw (named verb word s is, h.values t) (valued s t n value given (none_had (value_kept s given) new) has);
  };
}

-- The items up to a word gave this, and the first fault is that of the rest after them.
pub record IsReading (verb : Verb) (words rest : List (List ℕ)) (given : Given) : Type 0 where
  pub before : List Item
  pub parts : items_of words ≡ before ++ items_of rest
  pub faults : first_fault verb [] (items_of words) ≡ first_fault verb before (items_of rest)
  pub given_now : IsGiven before given

-- one item more
pub reads_on : (verb : Verb) (words rest after : List (List ℕ)) (item : Item) (given given' : Given) (h : IsReading verb words rest given)
    → items_of rest ≡ item ∷ items_of after → IsGivenNext verb h.before item given' → IsReading verb words after given'
reads_on verb words rest after item given given' h next one = record {
  before = h.before ++ item ∷ [];
  parts = h.parts ∙ (ap (λ (l : List Item). h.before ++ l) next ∙ sym (append_assoc h.before (item ∷ []) (items_of after)));
  faults = h.faults ∙ rw (next, one.faultless) refl;
  given_now = one.given_now;
}
