-- The first LF of a record ends its command.
use Rattle.std.proofs.Common.{◌≡◌, ◌≢◌, ℕ, Bool, true, false, not, ◌&&◌, List, []}
use Rattle.std.proofs.Common.{◌∷◌, ◌++◌, Option, Some, None, IfSome, refl, sym, ap, ap₂, ◌∙◌, arith}
use Rattle.std.proofs.Common.{All, length, length-append}
use Rattle.std.specs.Prelude.{◌==◌, codes, decimal}
use Rattle.std.specs.List.{AllByRecursion, list_all}
use Rattle.std.proofs.lemmas.Bool.{eq-eqb, and_parts}
use Rattle.std.proofs.lemmas.Bool.Decides.{nat_tests}
use Rattle.std.proofs.lemmas.Fmt.{decimal_is_IsNumeral}
use Rattle.std.proofs.lemmas.List.Elements.{recursion_from_All, All-from_recursion}
use Rattle.std.proofs.lemmas.List.Folds.{list_all-append}
use Rattle.mk_net.specs.Bounds.{max_values}
use Rattle.mk_names.specs.Name.{IsName, is_name_byte}
use Rattle.mk_net.specs.declared.words.PairText.{PairText}
use Rattle.mk_net.specs.declared.words.QuestionText.{QuestionText}
use Rattle.mk_text.specs.Joined.{◌&◌, items_text, spaced, AreSeveral}
use Rattle.mk_text.specs.Numbers.{IsShort}
use Rattle.mk_text.specs.Texts.{IsPairText, pair_text, IsCondition, condition_text, IsQuestionText}
use Rattle.mk_text.specs.Texts.{question_text}
use Rattle.mk_text.proofs.NumberLemmas.{digits_in_word}
use Rattle.mk_text.proofs.ReadingLaws.{whole_one}
use Rattle.mk_command.specs.declared.command.Command.{Command}
use Rattle.mk_command.specs.declared.command.Command.TheVariants.{User, Deposit, Withdraw, Price}
use Rattle.mk_command.specs.declared.command.Command.TheVariants.{Limits, Edit, Bounds, Spread}
use Rattle.mk_command.specs.declared.command.Command.TheVariants.{Worst, Resolve, Settle, Bound}
use Rattle.mk_command.specs.declared.command.Command.TheVariants.{Prices, Position, Status, Add}
use Rattle.mk_addition.specs.declared.add.AddText.{AddText}
use Rattle.mk_addition.specs.Adds.{AreBetween, IsAddText, joined, names_text, parents_text, row_text}
use Rattle.mk_addition.specs.Adds.{rows_text, place_text, shares_text, add_text}
use Rattle.mk_command.specs.Commands.{IsCommand, command_text, at_text}
use Rattle.mk_command.proofs.LengthLaws.{all_short}
use Rattle.mk_command.proofs.CommandLaws.{form_tells as commands_tell}
use Rattle.mk_reply.specs.Replies.{reply_text}
use Rattle.mk_reply.proofs.LengthLaws.{reply_length}
use Rattle.mk_reply.proofs.ReplyLaws.{form_tells as replies_tell}
use Rattle.mk_restore.specs.Laws.{CommandIsOneLine, RecordSplits, RecordHoldsOne, RecordIsShort}
use Rattle.mk_command.specs.declared.command.Command.TheVariants.{Paid}

abbrev is_within : ℕ → Bool
is_within b = not (b == 10)

-- a text without LF
abbrev IsOneLine : List ℕ → Type 0
IsOneLine bytes = list_all is_within bytes ≡ true

both_true : (p q : Bool) → p ≡ true → q ≡ true → (p && q) ≡ true
both_true true true h k = refl
both_true true false h k = cc
both_true false q h k = cc

both : (front behind : List ℕ) → IsOneLine front → IsOneLine behind → IsOneLine (front ++ behind)
both front behind h k =
    list_all-append is_within front behind ∙ both_true (list_all is_within front)
    (list_all is_within behind) h k

byte_within : (b : ℕ) → is_name_byte b ≡ true → is_within b ≡ true
byte_within b h = grind (arith, nat_tests)

-- a word, as a name or a number, is in one line
word_in_line : (bytes : List ℕ) → list_all is_name_byte bytes ≡ true → IsOneLine bytes
word_in_line [] h = refl
word_in_line (b ∷ bytes) h =
    let parts = and_parts (is_name_byte b) (list_all is_name_byte bytes) h in
    both_true (is_within b) (list_all is_within bytes) (byte_within b parts.0)
    (word_in_line bytes parts.1)

name_in_line : (name : List ℕ) → IsName name → IsOneLine name
name_in_line name is = word_in_line name is.each

number_in_line : (n : ℕ) → IsShort n → IsOneLine (decimal n)
number_in_line n short =
    word_in_line (decimal n)
    (digits_in_word (decimal n) ((decimal_is_IsNumeral n (omega (arith, short))).0.1))

module _ {X : Type 0} (Fits : X → Type 0) (text : X → List ℕ)
    (each : (x : X) → Fits x → IsOneLine (text x)) where
  items_in_line : (separator : List ℕ) → IsOneLine separator → (xs : List X)
      → AllByRecursion Fits xs → IsOneLine (items_text separator text xs)
  items_in_line separator h [] fits = refl
  items_in_line separator h (x ∷ xs) fits =
      both (separator ++ text x) (items_text separator text xs)
      (both separator (text x) h (each x fits.0))
      (items_in_line separator h xs fits.1)

  spaced_in_line : (xs : List X) → AllByRecursion Fits xs → IsOneLine (spaced text xs)
  spaced_in_line [] fits = refl
  spaced_in_line (x ∷ xs) fits =
      both (text x) (items_text (codes " ") text xs) (each x fits.0)
      (items_in_line (codes " ") refl xs fits.1)

pair_in_line : (pair : PairText) → IsPairText pair → IsOneLine (pair_text pair)
pair_in_line pair is =
    both pair.variable (codes "=" & pair.value) (name_in_line pair.variable is.variable)
    (both (codes "=") pair.value refl (name_in_line pair.value is.value))

condition_in_line : (pairs : List PairText) → IsCondition pairs → IsOneLine (condition_text pairs)
condition_in_line pairs is = at pairs (recursion_from_All IsPairText pairs is.each)
  where
    at : (pairs : List PairText) → AllByRecursion IsPairText pairs
        → IsOneLine (condition_text pairs)
    at [] h = refl
    at (pair ∷ pairs) h =
        both (codes " | ") (pair_text pair & items_text (codes ", ") pair_text pairs) refl
        (both (pair_text pair) (items_text (codes ", ") pair_text pairs) (pair_in_line pair h.0)
        (items_in_line IsPairText pair_text pair_in_line (codes ", ") refl pairs h.1))

question_in_line : (question : QuestionText) → IsQuestionText question
    → IsOneLine (question_text question)
question_in_line question is =
    both (pair_text question.target) (condition_text question.condition.items)
    (pair_in_line question.target is.target)
    (condition_in_line question.condition.items is.condition)

numbers_in_line : (numbers : List ℕ) → AreSeveral IsShort numbers
    → IsOneLine (spaced decimal numbers)
numbers_in_line numbers are =
    spaced_in_line IsShort decimal number_in_line numbers
    (recursion_from_All IsShort numbers are.each)

revision_in_line : (at : Option ℕ) → IfSome at IsShort → IsOneLine (at_text at)
revision_in_line None short = refl
revision_in_line (Some at) short = both (codes " at ") (decimal at) refl (number_in_line at short)

-- behind a word and a space
named : (name rest : List ℕ) → IsName name → IsOneLine rest → IsOneLine (name & codes " " & rest)
named name rest is h =
    both name (codes " " & rest) (name_in_line name is) (both (codes " ") rest refl h)

asked : (name pairs : List ℕ) → IsName name → IsOneLine pairs → IsOneLine (name & pairs)
asked name pairs is h = both name pairs (name_in_line name is) h

-- things with a separator between them
module _ {X : Type 0} (Fits : X → Type 0) (text : X → List ℕ)
    (each : (x : X) → Fits x → IsOneLine (text x)) where
  joined_in_line : (separator : List ℕ) → IsOneLine separator → (xs : List X)
      → All Fits xs → IsOneLine (joined separator text xs)
  joined_in_line separator h xs fits = at xs (recursion_from_All Fits xs fits)
    where
      at : (xs : List X) → AllByRecursion Fits xs → IsOneLine (joined separator text xs)
      at [] h = refl
      at (x ∷ xs) fits =
          both (text x) (items_text separator text xs) (each x fits.0)
          (items_in_line Fits text each separator h xs fits.1)

names_in_line : (names : List (List ℕ)) → All IsName names → IsOneLine (names_text names)
names_in_line = joined_in_line IsName (λ name. name) name_in_line (codes ",") refl

parents_in_line : (names : List (List ℕ)) → All IsName names → IsOneLine (parents_text names)
parents_in_line [] are = refl
parents_in_line (name ∷ names) are =
    both (codes " | ") (names_text (name ∷ names)) refl (names_in_line (name ∷ names) are)

row_in_line : (row : List ℕ) → AreBetween 1 max_values IsShort row → IsOneLine (row_text row)
row_in_line row are = joined_in_line IsShort decimal number_in_line (codes " ") refl row are.each

place_in_line : (add : AddText) → IsAddText add → IsOneLine (place_text add)
place_in_line add is =
    both (names_text add.clique.items) (codes " to " & decimal add.link)
    (names_in_line add.clique.items is.clique.each)
    (both (codes " to ") (decimal add.link) refl (number_in_line add.link is.link))

shares_in_line : (add : AddText) → IsAddText add → IsOneLine (shares_text add)
shares_in_line add is =
    let placed = codes " in " & place_text add in
    both (codes " : ") (rows_text add.rows.items & placed) refl
    (both (rows_text add.rows.items) placed
    (joined_in_line (AreBetween 1 max_values IsShort) row_text row_in_line (codes ", ") refl
    add.rows.items is.rows.each)
    (both (codes " in ") (place_text add) refl (place_in_line add is)))

addition_in_line : (add : AddText) → IsAddText add → IsOneLine (add_text add)
addition_in_line add is =
    let behind = parents_text add.parents.items & shares_text add in
    let values = names_text add.values.items & behind in
    both (codes "add ") (add.variable & codes "=" & values) refl
    (both add.variable (codes "=" & values) (name_in_line add.variable is.variable)
    (both (codes "=") values refl
    (both (names_text add.values.items) behind (names_in_line add.values.items is.values.each)
    (both (parents_text add.parents.items) (shares_text add)
    (parents_in_line add.parents.items is.parents.each) (shares_in_line add is)))))

in_line : (command : Command) → IsCommand command → IsOneLine (command_text command)
in_line (User user) is = both (codes "user ") user refl (name_in_line user is)
in_line (Deposit user bits) is =
    both (codes "deposit ") (user & codes " " & decimal bits) refl
    (named user (decimal bits) is.0 (number_in_line bits is.1))
in_line (Withdraw user bits) is =
    both (codes "withdraw ") (user & codes " " & decimal bits) refl
    (named user (decimal bits) is.0 (number_in_line bits is.1))
in_line (Price question) is =
    both (codes "price ") (question_text question) refl (question_in_line question is)
in_line (Limits user question) is =
    both (codes "limits ") (user & codes " " & question_text question) refl
    (named user (question_text question) is.0 (question_in_line question is.1))
in_line (Edit user question to at) is =
    let moved = codes " to " & decimal to & at_text at in
    let in_moved = both (codes " to ") (decimal to & at_text at) refl
    (both (decimal to) (at_text at) (number_in_line to is.2) (revision_in_line at is.3)) in
    both (codes "edit ") (user & codes " " & question_text question & moved) refl
    (named user (question_text question & moved) is.0
    (both (question_text question) moved (question_in_line question is.1) in_moved))
in_line (Bounds user variable condition) is =
    let pairs = condition_text condition.items in
    both (codes "bounds ") (user & codes " " & variable & pairs) refl
    (named user (variable & pairs) is.0
    (asked variable pairs is.1 (condition_in_line condition.items is.2)))
in_line (Spread user variable condition to at) is =
    let pairs = condition_text condition.items in
    let moved = codes " to " & spaced decimal to.items & at_text at in
    let in_moved = both (codes " to ") (spaced decimal to.items & at_text at) refl
    (both (spaced decimal to.items) (at_text at) (numbers_in_line to.items is.3)
    (revision_in_line at is.4)) in
    both (codes "spread ") (user & codes " " & variable & pairs & moved) refl
    (named user (variable & pairs & moved) is.0
    (asked variable (pairs & moved) is.1
    (both pairs moved (condition_in_line condition.items is.2) in_moved)))
in_line (Paid user) is = both (codes "paid ") user refl (name_in_line user is)
in_line (Worst user) is = both (codes "worst ") user refl (name_in_line user is)
in_line (Resolve pair) is = both (codes "resolve ") (pair_text pair) refl (pair_in_line pair is)
in_line Settle is = refl
in_line Bound is = refl
in_line (Prices variable condition) is =
    let pairs = condition_text condition.items in
    both (codes "prices ") (variable & pairs) refl
    (asked variable pairs is.0 (condition_in_line condition.items is.1))
in_line (Position user variable condition) is =
    let pairs = condition_text condition.items in
    both (codes "position ") (user & codes " " & variable & pairs) refl
    (named user (variable & pairs) is.0
    (asked variable pairs is.1 (condition_in_line condition.items is.2)))
in_line Status is = refl
in_line (Add add) is = addition_in_line add is.0

not_lf : (b : ℕ) → is_within b ≡ true → b ≢ 10
not_lf b h same = let equal = eq-eqb b 10 same in cc

each_within : (bytes : List ℕ) → IsOneLine bytes → AllByRecursion (λ b. b ≢ 10) bytes
each_within [] h = tt
each_within (b ∷ bytes) h =
    let parts = and_parts (is_within b) (list_all is_within bytes) h in
    (not_lf b parts.0, each_within bytes parts.1)

command_within : (command : Command) → IsCommand command
    → AllByRecursion (λ b. b ≢ 10) (command_text command)
command_within command is = each_within (command_text command) (in_line command is)

pub command_is_one_line : CommandIsOneLine
command_is_one_line command is =
    All-from_recursion (λ b. b ≢ 10) (command_text command) (command_within command is)

-- bytes of which two lines are the front, up to the first LF
same_front : (a b r s : List ℕ) → AllByRecursion (λ b. b ≢ 10) a → AllByRecursion (λ b. b ≢ 10) b
    → a ++ 10 ∷ r ≡ b ++ 10 ∷ s → (a ≡ b) × (r ≡ s)
same_front [] [] r s h k e = (refl, behind r s e)
  where
    behind : (r s : List ℕ) → 10 ∷ r ≡ 10 ∷ s → r ≡ s
    behind r s e = cc
same_front [] (c ∷ b) r s h k e = absurd (k.0 (sym (first c r (b ++ 10 ∷ s) e)))
  where
    first : (c : ℕ) (r s : List ℕ) → 10 ∷ r ≡ c ∷ s → 10 ≡ c
    first c r s e = cc
same_front (c ∷ a) [] r s h k e = absurd (h.0 (first c (a ++ 10 ∷ r) s e))
  where
    first : (c : ℕ) (r s : List ℕ) → c ∷ r ≡ 10 ∷ s → c ≡ 10
    first c r s e = cc
same_front (c ∷ a) (d ∷ b) r s h k e =
    let parts = split c d (a ++ 10 ∷ r) (b ++ 10 ∷ s) e in
    let later = same_front a b r s h.1 k.1 parts.1 in
    (ap₂ (λ (x : ℕ) (xs : List ℕ). x ∷ xs) parts.0 later.0, later.1)
  where
    split : (c d : ℕ) (r s : List ℕ) → c ∷ r ≡ d ∷ s → (c ≡ d) × (r ≡ s)
    split c d r s e = (cc, cc)

pub record_splits : RecordSplits
record_splits bytes command reply front rest is one_line e =
    same_front front (command_text command) rest (reply_text reply)
    (recursion_from_All (λ b. b ≢ 10) front one_line)
    (command_within command is.has_texts.0) (sym e ∙ is.text)

pub record_holds_one : RecordHoldsOne
record_holds_one bytes command other reply another is also =
    let same = same_front (command_text command) (command_text other) (reply_text reply)
    (reply_text another)
    (command_within command is.has_texts.0) (command_within other also.has_texts.0)
    (sym is.text ∙ also.text) in (
      whole_one commands_tell command other is.has_texts.0 also.has_texts.0 same.0,
      whole_one replies_tell reply another is.has_texts.1 also.has_texts.1 same.1,
    )

pub record_is_short : RecordIsShort
record_is_short bytes command reply is = omega (
  arith,
  ap length is.text ∙ length-append (command_text command) (10 ∷ reply_text reply),
  all_short command is.has_texts.0,
  reply_length reply is.has_texts.1,
)
