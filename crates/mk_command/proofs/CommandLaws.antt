-- Each command is read from its text, and from no other.
use Rattle.std.specs.Prelude.{◌≡◌, ◌≢◌, ℕ, ◌≤◌, List, [], ◌∷◌, ◌++◌, length, nat_le, codes, decimal}
use Rattle.std.specs.Prelude.{Option, Some, None, IfSome, Result, Ok, Err, IfOk, OnErr, MatchResult}
use Rattle.std.proofs.Common.{refl, sym, ◌∙◌, inl, inr}
use Rattle.std.proofs.lemmas.Bool.{leb-true, le-leb}
use Rattle.mk_addition.specs.Adds.{IsAddText, addition_text, add_text}
use Rattle.mk_addition.specs.declared.add.AddText.{AddText}
use Rattle.mk_addition.proofs.AddLaws.{addition_reads}
use Rattle.mk_net.specs.declared.words.PairText.{PairText}
use Rattle.mk_names.specs.Name.{IsName}
use Rattle.mk_net.specs.declared.words.QuestionText.{QuestionText}
use Rattle.mk_net.specs.declared.words.Syntax.{Syntax}
use Rattle.mk_text.specs.Numbers.{IsShort}
use Rattle.mk_text.specs.Joined.{spaced, AreSeveral}
use Rattle.mk_text.specs.Texts.{condition_text, IsCondition, question_text, IsQuestionText}
use Rattle.mk_text.specs.Words.{after, EndsWord}
use Rattle.mk_text.specs.Reading.{Read, both, behind, given, nothing, read_name, read_short, read_several, read_condition, read_question}
use Rattle.mk_text.proofs.ReadingLaws.{passed_reads, reads_same}
use Rattle.mk_text.proofs.ReadingLaws.{Took, Reads, Tells, Spelled, MayFollow, BothFit, both_text, behind_text, both_reads, behind_reads, perhaps_reads, spelled_by, spelled_alone, choose_takes, nothing_takes, made_last, whole_one}
use Rattle.mk_text.proofs.PartLaws.{EndsQuestion, EndsSeveral, name_reads, short_reads, shorts_reads, pair_reads, condition_reads, question_reads}
use Rattle.mk_command.specs.Commands.{command_of, command_text, IsCommand, at_text}
use Rattle.mk_command.specs.inner.Reading.{read_user, read_deposit, read_withdraw, read_price, read_limits, read_at, read_edit, held, read_bounds, read_spread, read_worst, read_resolve, forms, read_form}
use Rattle.mk_command.specs.inner.Reading.{read_prices, read_position, read_short_addition}
use Rattle.mk_command.specs.inner.Reading.{read_paid, read_add, other_forms, read_other}
use Rattle.mk_command.specs.declared.command.Command.{Command}
use Rattle.mk_command.specs.declared.command.CommandRef.{CommandRef}
use Rattle.mk_command.specs.declared.command.Command.TheVariants.{User, Deposit, Withdraw, Price, Limits, Edit, Bounds, Spread, Worst, Resolve, Settle, Bound}
use Rattle.mk_command.specs.declared.command.Command.TheVariants.{Prices, Position, Status, Add}
use Rattle.mk_command.specs.declared.command.Command.TheVariants.{Paid}

abbrev OfCommand : List ℕ × Read Command → Type 0
OfCommand = Spelled command_text IsCommand

abbrev NameFirst : {X : Type 0} → (X → List ℕ) → List ℕ × X → List ℕ
NameFirst t = both_text (λ (name : List ℕ). name) (behind_text (codes " ") t)

user_and_bits : Reads (both read_name (behind (codes " ") read_short)) (NameFirst decimal) (BothFit IsName IsShort) EndsWord
user_and_bits = both_reads name_reads (behind_reads (codes " ") short_reads) (λ bits rest fits ends. refl)

user_and_question : Reads (both read_name (behind (codes " ") read_question)) (NameFirst question_text) (BothFit IsName IsQuestionText) EndsQuestion
user_and_question = both_reads name_reads (behind_reads (codes " ") question_reads) (λ question rest fits ends. refl)

abbrev IfShort : Option ℕ → Type 0
IfShort at = IfSome at IsShort

at_reads : Reads read_at at_text IfShort (MayFollow (codes " at ") EndsWord)
unfolding read_at
at_reads = perhaps_reads (codes " at ") short_reads

before_at : (at : Option ℕ) (rest : List ℕ) → EndsWord rest → EndsWord (at_text at ++ rest)
before_at None rest ends = ends
before_at (Some at) rest ends = refl

before_to : (rest : List ℕ) → EndsQuestion (codes " to " ++ rest)
unfolding after
before_to rest = record { word = refl; comma = refl; bar = refl }

-- the number that an edit asks for, and the revision that it names
to_and_at : Reads (both read_short read_at) (both_text decimal at_text) (BothFit IsShort IfShort) (MayFollow (codes " at ") EndsWord)
to_and_at = both_reads short_reads at_reads (λ at rest fits ends. before_at at rest (ends.follows))

abbrev moved_text : QuestionText × (ℕ × Option ℕ) → List ℕ
moved_text = both_text question_text (behind_text (codes " to ") (both_text decimal at_text))

moved : Reads (both read_question (behind (codes " to ") (both read_short read_at))) moved_text
    (BothFit IsQuestionText (BothFit IsShort IfShort)) (MayFollow (codes " at ") EndsWord)
moved = both_reads question_reads (behind_reads (codes " to ") to_and_at) (λ parts rest fits ends. before_to (both_text decimal at_text parts ++ rest))

edit_parts : Reads (both read_name (behind (codes " ") (both read_question (behind (codes " to ") (both read_short read_at))))) (NameFirst moved_text)
    (BothFit IsName (BothFit IsQuestionText (BothFit IsShort IfShort))) (MayFollow (codes " at ") EndsWord)
edit_parts = both_reads name_reads (behind_reads (codes " ") moved) (λ parts rest fits ends. refl)

abbrev values_text : List ℕ × (List ℕ × List PairText) → List ℕ
values_text = NameFirst (both_text (λ (name : List ℕ). name) condition_text)

abbrev ValuesFit : List ℕ × (List ℕ × List PairText) → Type 0
ValuesFit = BothFit IsName (BothFit IsName IsCondition)

-- no word goes on before a condition
before_condition : (pairs : List PairText) (rest : List ℕ) → EndsWord rest → EndsWord (condition_text pairs ++ rest)
before_condition [] rest ends = ends
before_condition (pair ∷ pairs) rest ends = refl

-- a variable and the condition behind it
variable_reads : Reads (both read_name read_condition)
    (both_text (λ (name : List ℕ). name) condition_text) (BothFit IsName IsCondition) EndsQuestion
variable_reads =
    both_reads name_reads condition_reads (λ pairs rest fits ends. before_condition pairs rest
    (ends.word))

values_reads : Reads (both read_name (behind (codes " ") (both read_name read_condition))) values_text ValuesFit EndsQuestion
values_reads = both_reads name_reads (behind_reads (codes " ") variable_reads)
    (λ parts rest fits ends. refl)

-- the numbers that a spread asks for, and the revision that it names
abbrev EndsMoves : List ℕ → Type 0
EndsMoves rest = MayFollow (codes " at ") EndsSeveral rest

ends_numbers : (at : Option ℕ) (rest : List ℕ) → EndsMoves rest → EndsSeveral (at_text at ++ rest)
unfolding after
ends_numbers None rest ends = ends.follows
ends_numbers (Some at) rest ends = record { word = refl; ends = record { stopped = inl refl } }

revision_reads : Reads read_at at_text IfShort EndsMoves
unfolding read_at
revision_reads = weaker at_reads (λ rest ends. record { follows = ends.follows.word; missing = ends.missing })
  where
    weaker : {X : Type 0} {read : Read X} {t : X → List ℕ} {F : X → Type 0} {V W : List ℕ → Type 0} → Reads read t F V → ((rest : List ℕ) → W rest → V rest) → Reads read t F W
    weaker a stronger = record { takes = a.takes; again = λ x rest fits w. a.again x rest fits (stronger rest w) }

abbrev moves_text : List ℕ × Option ℕ → List ℕ
moves_text = both_text (spaced decimal) at_text

moves : Reads (both (read_several read_short) read_at) moves_text (BothFit (AreSeveral IsShort) IfShort) EndsMoves
moves = both_reads shorts_reads revision_reads (λ at rest fits ends. ends_numbers at rest ends)

abbrev spread_text : List PairText × (List ℕ × Option ℕ) → List ℕ
spread_text = both_text condition_text (behind_text (codes " to ") moves_text)

abbrev SpreadFits : List PairText × (List ℕ × Option ℕ) → Type 0
SpreadFits = BothFit IsCondition (BothFit (AreSeveral IsShort) IfShort)

condition_and_moves : Reads (both read_condition (behind (codes " to ") (both (read_several read_short) read_at))) spread_text SpreadFits EndsMoves
condition_and_moves = both_reads condition_reads (behind_reads (codes " to ") moves) (λ parts rest fits ends. before_to (moves_text parts ++ rest))

-- no word goes on before them
before_moves : (pairs : List PairText) (text rest : List ℕ) → EndsWord ((condition_text pairs ++ (codes " to " ++ text)) ++ rest)
before_moves [] text rest = refl
before_moves (pair ∷ pairs) text rest = refl

spread_parts : Reads (both read_name (behind (codes " ") (both read_name (both read_condition (behind (codes " to ") (both (read_several read_short) read_at))))))
    (NameFirst (both_text (λ (name : List ℕ). name) spread_text)) (BothFit IsName (BothFit IsName SpreadFits)) EndsMoves
spread_parts = both_reads name_reads (behind_reads (codes " ") (both_reads name_reads condition_and_moves (λ parts rest fits ends. before_moves (parts.0) (moves_text (parts.1)) rest)))
    (λ parts rest fits ends. refl)

user_form : OfCommand (codes "user ", read_user)
unfolding read_user
user_form = spelled_by (codes "user ") (λ user. User user) name_reads (λ user fits. (refl, fits))

deposit_form : OfCommand (codes "deposit ", read_deposit)
unfolding read_deposit
deposit_form = spelled_by (codes "deposit ") (λ parts. Deposit (parts.0) (parts.1)) user_and_bits (λ parts fits. (refl, fits))

withdraw_form : OfCommand (codes "withdraw ", read_withdraw)
unfolding read_withdraw
withdraw_form = spelled_by (codes "withdraw ") (λ parts. Withdraw (parts.0) (parts.1)) user_and_bits (λ parts fits. (refl, fits))

price_form : OfCommand (codes "price ", read_price)
unfolding read_price
price_form = spelled_by (codes "price ") (λ question. Price question) question_reads (λ question fits. (refl, fits))

limits_form : OfCommand (codes "limits ", read_limits)
unfolding read_limits
limits_form = spelled_by (codes "limits ") (λ parts. Limits (parts.0) (parts.1)) user_and_question (λ parts fits. (refl, fits))

edit_form : OfCommand (codes "edit ", read_edit)
unfolding read_edit
edit_form = spelled_by (codes "edit ") (λ parts. Edit (parts.0) (parts.1.0) (parts.1.1.0) (parts.1.1.1)) edit_parts
    (λ parts fits. (refl, (fits.0, fits.1.0, fits.1.1.0, fits.1.1.1)))

bounds_form : OfCommand (codes "bounds ", read_bounds)
unfolding read_bounds
bounds_form = spelled_by (codes "bounds ") (λ parts. Bounds (parts.0) (parts.1.0) (held (parts.1.1))) values_reads (λ parts fits. (refl, (fits.0, fits.1.0, fits.1.1)))

spread_form : OfCommand (codes "spread ", read_spread)
unfolding read_spread
spread_form = spelled_by (codes "spread ") (λ parts. Spread (parts.0) (parts.1.0) (held (parts.1.1.0)) (held (parts.1.1.1.0)) (parts.1.1.1.1)) spread_parts
    (λ parts fits. (refl, (fits.0, fits.1.0, fits.1.1.0, fits.1.1.1.0, fits.1.1.1.1)))

worst_form : OfCommand (codes "worst ", read_worst)
unfolding read_worst
worst_form = spelled_by (codes "worst ") (λ user. Worst user) name_reads (λ user fits. (refl, fits))

paid_form : OfCommand (codes "paid ", read_paid)
unfolding read_paid
paid_form = spelled_by (codes "paid ") (λ user. Paid user) name_reads (λ user fits. (refl, fits))

resolve_form : OfCommand (codes "resolve ", read_resolve)
unfolding read_resolve
resolve_form = spelled_by (codes "resolve ") (λ pair. Resolve pair) pair_reads (λ pair fits. (refl, fits))

settle_form : OfCommand (codes "settle", given Settle)
settle_form = spelled_alone command_text IsCommand (codes "settle") Settle refl tt

bound_form : OfCommand (codes "bound", given Bound)
bound_form = spelled_alone command_text IsCommand (codes "bound") Bound refl tt

prices_form : OfCommand (codes "prices ", read_prices)
unfolding read_prices
prices_form = spelled_by (codes "prices ") (λ parts. Prices (parts.0) (held (parts.1)))
    variable_reads (λ parts fits. (refl, (fits.0, fits.1)))

position_form : OfCommand (codes "position ", read_position)
unfolding read_position
position_form =
    spelled_by (codes "position ") (λ parts. Position (parts.0) (parts.1.0) (held (parts.1.1)))
    values_reads (λ parts fits. (refl, (fits.0, fits.1.0, fits.1.1)))

status_form : OfCommand (codes "status", given Status)
status_form = spelled_alone command_text IsCommand (codes "status") Status refl tt

-- an added question, and the length of its text
abbrev IsShortAddition : AddText → Type 0
IsShortAddition addition = IsAddText addition × (length (add_text addition) ≤ 1024)

short_addition_reads : Reads read_short_addition addition_text IsShortAddition EndsWord
short_addition_reads =
    let tested = λ (addition : AddText). nat_le (length (add_text addition)) 1024 in
    reads_same (passed_reads tested addition_reads)
    (λ addition fits. (fits.0, leb-true (length (add_text addition)) 1024 (fits.1)))
    (λ addition fits. (fits.0, le-leb (length (add_text addition)) 1024 (fits.1)))

add_form : OfCommand (codes "add ", read_add)
unfolding read_add
add_form = spelled_by (codes "add ") (λ addition. Add addition) short_addition_reads
    (λ addition fits. (refl, fits))

abbrev Takes : Read Command → Type 0
Takes read = (bytes : List ℕ) (c : Command) (rest : List ℕ) →
    read bytes ≡ Some (c, rest) → Took command_text IsCommand bytes c rest

other_takes : Takes read_other
unfolding read_other
other_takes = choose_takes command_text IsCommand other_forms nothing (
  settle_form,
  (bound_form, (paid_form, (prices_form, (position_form, (status_form, (add_form, tt)))))),
)
    (nothing_takes command_text IsCommand)

form_takes : Takes read_form
unfolding read_form
form_takes = choose_takes command_text IsCommand forms read_other (
  user_form,
  (
    deposit_form,
    (
      withdraw_form,
      (
        price_form,
        (
          limits_form,
          (edit_form, (bounds_form, (spread_form, (worst_form, (resolve_form, tt))))),
        ),
      ),
    ),
  ),
) other_takes

ends_edit : MayFollow (codes " at ") EndsWord []
unfolding after
ends_edit = record { follows = refl; missing = refl }

ends_question : EndsQuestion []
unfolding after
ends_question = record { word = refl; comma = refl; bar = refl }

ends_moves : EndsMoves []
unfolding after
ends_moves = record { follows = record { word = refl; ends = record { stopped = inr refl } }; missing = refl }

form_last : (c : Command) → IsCommand c → read_form (command_text c) ≡ Some (c, [])
unfolding read_form read_other read_paid read_prices read_position read_add read_user read_deposit
    read_withdraw read_price read_limits read_edit read_bounds read_spread read_worst read_resolve after
form_last (User user) fits = made_last (λ user. User user) name_reads user fits refl
form_last (Deposit user bits) fits = made_last (λ parts. Deposit (parts.0) (parts.1)) user_and_bits (user, bits) fits refl
form_last (Withdraw user bits) fits = made_last (λ parts. Withdraw (parts.0) (parts.1)) user_and_bits (user, bits) fits refl
form_last (Price question) fits = made_last (λ question. Price question) question_reads question fits ends_question
form_last (Limits user question) fits = made_last (λ parts. Limits (parts.0) (parts.1)) user_and_question (user, question) fits ends_question
form_last (Edit user question to at) fits = made_last (λ parts. Edit (parts.0) (parts.1.0) (parts.1.1.0) (parts.1.1.1)) edit_parts
    (user, (question, (to, at))) (fits.0, (fits.1, (fits.2, fits.3))) ends_edit
form_last (Bounds user variable condition) fits =
    made_last (λ parts. Bounds (parts.0) (parts.1.0) (held (parts.1.1))) values_reads (user, (variable, condition.items)) (fits.0, (fits.1, fits.2)) ends_question
form_last (Spread user variable condition to at) fits =
    made_last (λ parts. Spread (parts.0) (parts.1.0) (held (parts.1.1.0)) (held (parts.1.1.1.0)) (parts.1.1.1.1)) spread_parts
    (user, (variable, (condition.items, (to.items, at)))) (fits.0, (fits.1, (fits.2, (fits.3, fits.4)))) ends_moves
form_last (Worst user) fits = made_last (λ user. Worst user) name_reads user fits refl
form_last (Paid user) fits = made_last (λ user. Paid user) name_reads user fits refl
form_last (Resolve pair) fits = made_last (λ pair. Resolve pair) pair_reads pair fits refl
form_last Settle fits = refl
form_last Bound fits = refl
form_last (Prices variable condition) fits =
    made_last (λ parts. Prices (parts.0) (held (parts.1))) variable_reads
    (variable, condition.items) (fits.0, fits.1) ends_question
form_last (Position user variable condition) fits =
    made_last (λ parts. Position (parts.0) (parts.1.0) (held (parts.1.1))) values_reads
    (user, (variable, condition.items)) (fits.0, (fits.1, fits.2)) ends_question
form_last Status fits = refl
form_last (Add addition) fits =
    made_last (λ addition. Add addition) short_addition_reads addition fits refl

pub form_tells : Tells read_form command_text IsCommand
form_tells = record { takes = form_takes; last = form_last }

-- what is read of a command's text
pub read_again : (line : List ℕ) (c : Command) (read : Result CommandRef Syntax) → IsCommand c → line ≡ command_text c →
    IfOk read (λ d. IsCommand (command_of d) × (line ≡ command_text (command_of d))) → OnErr read ((d : Command) → IsCommand d → line ≢ command_text d) →
    MatchResult read (λ d. command_of d ≡ c) (λ _. ⊥)
read_again line c (Ok d) fits same found none = whole_one form_tells (command_of d) c (found.0) fits (sym (found.1) ∙ same)
read_again line c (Err e) fits same found none = none c fits same
