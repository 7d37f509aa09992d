-- No command is long.
use Rattle.std.specs.Prelude.{◌≡◌, ◌≢◌, ℕ, ◌≤◌, ◌<◌, List, ◌++◌, length, codes, decimal}
use Rattle.std.specs.Prelude.{Option, Some, None, IfSome}
use Rattle.std.proofs.Common.{refl, arith, length-append}
use Rattle.mk_addition.specs.declared.add.AddText.{AddText}
use Rattle.mk_text.specs.Joined.{◌&◌, spaced}
use Rattle.mk_text.specs.Numbers.{IsShort}
use Rattle.mk_text.specs.Texts.{condition_text, question_text}
use Rattle.mk_text.proofs.LengthLaws.{short_length, shorts_length, pair_length, condition_length, question_length}
use Rattle.mk_command.specs.Commands.{command_text, IsCommand, at_text}
use Rattle.mk_command.specs.declared.command.Command.{Command}
use Rattle.mk_command.specs.declared.command.Command.TheVariants.{User, Deposit, Withdraw, Price, Limits, Edit, Bounds, Spread, Worst, Resolve, Settle, Bound}
use Rattle.mk_command.specs.declared.command.Command.TheVariants.{Prices, Position, Status, Add}
use Rattle.mk_command.specs.declared.command.Command.TheVariants.{Paid}

at_length : (at : Option ℕ) → IfSome at IsShort → length (at_text at) ≤ 13
at_length None fits = omega arith
at_length (Some at) fits = simp length-append (omega (arith, short_length at fits))

asked_length : (word user question rest : List ℕ) → length word ≤ 9 → length user ≤ 32 → length question ≤ 602 → length rest ≤ 26 →
    length (word & user & codes " " & question & rest) ≤ 1023
asked_length word user question rest first second third fourth = simp length-append (omega (arith, first, second, third, fourth))

move_length : (to : ℕ) (at : Option ℕ) → IsShort to → IfSome at IsShort → length (codes " to " & decimal to & at_text at) ≤ 26
move_length to at short fits =
    omega (arith, length-append (codes " to ") (decimal to ++ at_text at), length-append (decimal to) (at_text at), short_length to short, at_length at fits)

values_length : (word user variable condition rest : List ℕ) → length word ≤ 9 → length user ≤ 32 → length variable ≤ 32 → length condition ≤ 537 → length rest ≤ 177 →
    length (word & user & codes " " & variable & condition & rest) ≤ 1023
values_length word user variable condition rest first second third fourth fifth = simp length-append (omega (arith, first, second, third, fourth, fifth))

-- how long the text of a command is at most: an added question has as much as a line
abbrev most_bytes : Command → ℕ
most_bytes (Add addition) = 1024
most_bytes _ = 1023

most_of_all : (c : Command) → most_bytes c ≤ 1024
most_of_all (Add addition) = omega arith
most_of_all _ = omega arith

most_of_others : (c : Command) → ((a : AddText) → c ≢ Add a) → most_bytes c ≡ 1023
most_of_others (Add addition) other = absurd (other addition refl)
most_of_others _ other = refl

own_length : (c : Command) → IsCommand c → length (command_text c) ≤ most_bytes c
own_length (User user) fits = simp length-append (omega (arith, fits.short))
own_length (Deposit user bits) fits = simp length-append (omega (arith, fits.0.short, short_length bits fits.1))
own_length (Withdraw user bits) fits = simp length-append (omega (arith, fits.0.short, short_length bits fits.1))
own_length (Price question) fits = omega (arith, length-append (codes "price ") (question_text question), question_length question fits)
own_length (Limits user question) fits =
    let apart = length-append (codes " ") (question_text question) in
    let words = length-append (codes "limits ") (user ++ (codes " " ++ question_text question)) in
    omega (arith, words, length-append user (codes " " ++ question_text question), apart, fits.0.short, question_length question fits.1)
own_length (Edit user question to at) fits = asked_length (codes "edit ") user (question_text question) (codes " to " & decimal to & at_text at)
    (omega arith) fits.0.short (question_length question fits.1) (move_length to at fits.2 fits.3)
own_length (Bounds user variable condition) fits =
    simp length-append (omega (arith, fits.0.short, fits.1.short, condition_length condition.items fits.2))
own_length (Spread user variable condition to at) fits =
    values_length (codes "spread ") user variable (condition_text condition.items) (codes " to " & spaced decimal to.items & at_text at)
    (omega arith) fits.0.short fits.1.short (condition_length condition.items fits.2)
    (omega (arith, length-append (codes " to ") (spaced decimal to.items ++ at_text at), length-append (spaced decimal to.items) (at_text at), shorts_length to.items fits.3, at_length at fits.4))
own_length (Worst user) fits = simp length-append (omega (arith, fits.short))
own_length (Paid user) fits = simp length-append (omega (arith, fits.short))
own_length (Resolve pair) fits = simp length-append (omega (arith, pair_length pair fits))
own_length Settle fits = omega arith
own_length Bound fits = omega arith
own_length (Prices variable condition) fits =
    simp length-append (omega (arith, fits.0.short, condition_length condition.items fits.1))
own_length (Position user variable condition) fits =
    let asked = condition_length condition.items fits.2 in
    simp length-append (omega (arith, fits.0.short, fits.1.short, asked))
own_length Status fits = omega arith
own_length (Add addition) fits = fits.1

pub all_short : (c : Command) → IsCommand c → length (command_text c) ≤ 1024
all_short c fits = omega (arith, own_length c fits, most_of_all c)

pub others_shorter : (c : Command) → IsCommand c → ((a : AddText) → c ≢ Add a) →
    length (command_text c) < 1024
others_shorter c fits other = omega (arith, own_length c fits, most_of_others c other)
