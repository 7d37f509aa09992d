-- Reading a command: the word by which its form is known, and then the parts of that form.
use Rattle.std.specs.Prelude.{ℕ, List, [], ◌∷◌, length, nat_le, codes, Option}
use Rattle.arrayvec.specs.ArrayVec.{ArrayVec}
use Rattle.mk_names.specs.declared.limits.TheConstants.{MAX_LINE_BYTES}
use Rattle.mk_text.specs.Reading.{Read, both, behind, made, passed, given, nothing, perhaps}
use Rattle.mk_text.specs.Reading.{choose, read_name, read_short, read_pair, read_condition}
use Rattle.mk_text.specs.Reading.{read_question, read_several}
use Rattle.mk_addition.specs.Adds.{add_text}
use Rattle.mk_addition.specs.Reading.{read_addition}
use Rattle.mk_addition.specs.declared.add.AddText.{AddText}
use Rattle.mk_command.specs.declared.command.Command.{Command}
use Rattle.mk_command.specs.declared.command.Command.TheVariants.{User, Deposit, Withdraw, Price, Limits, Edit, Bounds, Spread, Worst, Resolve, Settle, Bound}
use Rattle.mk_command.specs.declared.command.Command.TheVariants.{Prices, Position, Status, Add}
use Rattle.mk_command.specs.declared.command.Command.TheVariants.{Paid}

unfoldable pub read_user : Read Command
read_user = made (λ user. User user) read_name

unfoldable pub read_deposit : Read Command
read_deposit = made (λ parts. Deposit (parts.0) (parts.1)) (both read_name (behind (codes " ") read_short))

unfoldable pub read_withdraw : Read Command
read_withdraw = made (λ parts. Withdraw (parts.0) (parts.1)) (both read_name (behind (codes " ") read_short))

unfoldable pub read_price : Read Command
read_price = made (λ question. Price question) read_question

unfoldable pub read_limits : Read Command
read_limits = made (λ parts. Limits (parts.0) (parts.1)) (both read_name (behind (codes " ") read_question))

unfoldable pub read_at : Read (Option ℕ)
read_at = perhaps (codes " at ") read_short

unfoldable pub read_edit : Read Command
read_edit = made (λ parts. Edit (parts.0) (parts.1.0) (parts.1.1.0) (parts.1.1.1))
    (both read_name (behind (codes " ") (both read_question (behind (codes " to ") (both read_short read_at)))))

abbrev pub held : {X : Type 0} → List X → ArrayVec X
held items = record { items = items }

unfoldable pub read_bounds : Read Command
read_bounds = made (λ parts. Bounds (parts.0) (parts.1.0) (held (parts.1.1))) (both read_name (behind (codes " ") (both read_name read_condition)))

unfoldable pub read_spread : Read Command
read_spread = made (λ parts. Spread (parts.0) (parts.1.0) (held (parts.1.1.0)) (held (parts.1.1.1.0)) (parts.1.1.1.1))
    (both read_name (behind (codes " ") (both read_name (both read_condition (behind (codes " to ") (both (read_several read_short) read_at))))))

unfoldable pub read_worst : Read Command
read_worst = made (λ user. Worst user) read_name

unfoldable pub read_paid : Read Command
read_paid = made (λ user. Paid user) read_name

unfoldable pub read_resolve : Read Command
read_resolve = made (λ pair. Resolve pair) read_pair

unfoldable pub read_prices : Read Command
read_prices = made (λ parts. Prices (parts.0) (held (parts.1))) (both read_name read_condition)

unfoldable pub read_position : Read Command
read_position = made (λ parts. Position (parts.0) (parts.1.0) (held (parts.1.1)))
    (both read_name (behind (codes " ") (both read_name read_condition)))

-- an added question whose text has at most 1,024 bytes
abbrev pub read_short_addition : Read AddText
read_short_addition =
    passed (λ addition. nat_le (length (add_text addition)) MAX_LINE_BYTES) read_addition

unfoldable pub read_add : Read Command
read_add = made (λ addition. Add addition) read_short_addition

-- the forms that are looked for first, and the others
abbrev pub forms : List (List ℕ × Read Command)
forms =
    (codes "user ", read_user)
    ∷ (codes "deposit ", read_deposit)
    ∷ (codes "withdraw ", read_withdraw)
    ∷ (codes "price ", read_price)
    ∷ (codes "limits ", read_limits)
    ∷ (codes "edit ", read_edit)
    ∷ (codes "bounds ", read_bounds)
    ∷ (codes "spread ", read_spread)
    ∷ (codes "worst ", read_worst)
    ∷ (codes "resolve ", read_resolve)
    ∷ []

abbrev pub other_forms : List (List ℕ × Read Command)
other_forms =
    (codes "settle", given Settle)
    ∷ (codes "bound", given Bound)
    ∷ (codes "paid ", read_paid)
    ∷ (codes "prices ", read_prices)
    ∷ (codes "position ", read_position)
    ∷ (codes "status", given Status)
    ∷ (codes "add ", read_add)
    ∷ []

unfoldable pub read_other : Read Command
read_other = choose other_forms nothing

unfoldable pub read_form : Read Command
read_form = choose forms read_other
