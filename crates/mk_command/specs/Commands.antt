-- Commands, and how they are written.
use Rattle.std.specs.Prelude.{ℕ, ◌≤◌, List, length, codes, decimal, Option, IfSome, ⊤}
use Rattle.mk_addition.specs.Adds.{IsAddText, add_text}
use Rattle.mk_names.specs.declared.limits.TheConstants.{MAX_LINE_BYTES}
use Rattle.mk_names.specs.Name.{IsName}
use Rattle.mk_text.specs.Joined.{◌&◌, perhaps_text, spaced, AreSeveral}
use Rattle.mk_text.specs.Numbers.{IsShort}
use Rattle.mk_text.specs.Texts.{IsPairText, pair_text, IsCondition, condition_text, IsQuestionText, question_text}
use Rattle.mk_command.specs.declared.command.Command.{Command}
use Rattle.mk_command.specs.declared.command.CommandRef.{CommandRef}
use Rattle.mk_command.specs.declared.command.CommandRef.TheVariants as lent
use Rattle.mk_command.specs.declared.command.Command.TheVariants.{User, Deposit, Withdraw, Price, Limits, Edit, Bounds, Spread, Worst, Resolve, Settle, Bound}
use Rattle.mk_command.specs.declared.command.Command.TheVariants.{Prices, Position, Status, Add}
use Rattle.mk_command.specs.declared.command.Command.TheVariants.{Paid}

-- the command whose words are lent
unfoldable pub command_of : CommandRef → Command
command_of (lent.User user) = User user
command_of (lent.Deposit user bits) = Deposit user bits
command_of (lent.Withdraw user bits) = Withdraw user bits
command_of (lent.Price question) = Price question.now
command_of (lent.Limits user question) = Limits user question.now
command_of (lent.Edit user question to at) = Edit user question.now to at
command_of (lent.Bounds user variable condition) = Bounds user variable condition.now
command_of (lent.Spread user variable condition to at) = Spread user variable condition.now to.now at
command_of (lent.Worst user) = Worst user
command_of (lent.Paid user) = Paid user
command_of (lent.Resolve pair) = Resolve pair
command_of lent.Settle = Settle
command_of lent.Bound = Bound
command_of (lent.Prices variable condition) = Prices variable condition.now
command_of (lent.Position user variable condition) = Position user variable condition.now
command_of lent.Status = Status
command_of (lent.Add addition) = Add addition.now

-- the revision that an edit names
abbrev pub at_text : Option ℕ → List ℕ
at_text at = perhaps_text (codes " at ") decimal at

abbrev pub command_text : Command → List ℕ
command_text (User user) = codes "user " & user
command_text (Deposit user bits) = codes "deposit " & user & codes " " & decimal bits
command_text (Withdraw user bits) = codes "withdraw " & user & codes " " & decimal bits
command_text (Price question) = codes "price " & question_text question
command_text (Limits user question) = codes "limits " & user & codes " " & question_text question
command_text (Edit user question to at) = codes "edit " & user & codes " " & question_text question & codes " to " & decimal to & at_text at
command_text (Bounds user variable condition) = codes "bounds " & user & codes " " & variable & condition_text condition.items
command_text (Spread user variable condition to at) =
    codes "spread " & user & codes " " & variable & condition_text condition.items & codes " to " & spaced decimal to.items & at_text at
command_text (Worst user) = codes "worst " & user
command_text (Paid user) = codes "paid " & user
command_text (Resolve pair) = codes "resolve " & pair_text pair
command_text Settle = codes "settle"
command_text Bound = codes "bound"
command_text (Prices variable condition) =
    codes "prices " & variable & condition_text condition.items
command_text (Position user variable condition) =
    codes "position " & user & codes " " & variable & condition_text condition.items
command_text Status = codes "status"
command_text (Add addition) = add_text addition

-- the commands that have a text: their words are names, their numbers have at most nine digits, and
-- an added question has no longer text than a line
abbrev pub IsCommand : Command → Type 0
IsCommand (User user) = IsName user
IsCommand (Deposit user bits) = IsName user × IsShort bits
IsCommand (Withdraw user bits) = IsName user × IsShort bits
IsCommand (Price question) = IsQuestionText question
IsCommand (Limits user question) = IsName user × IsQuestionText question
IsCommand (Edit user question to at) = IsName user × IsQuestionText question × IsShort to × IfSome at IsShort
IsCommand (Bounds user variable condition) = IsName user × IsName variable × IsCondition condition.items
IsCommand (Spread user variable condition to at) =
    IsName user × IsName variable × IsCondition condition.items × AreSeveral IsShort to.items × IfSome at IsShort
IsCommand (Worst user) = IsName user
IsCommand (Paid user) = IsName user
IsCommand (Resolve pair) = IsPairText pair
IsCommand Settle = ⊤
IsCommand Bound = ⊤
IsCommand (Prices variable condition) = IsName variable × IsCondition condition.items
IsCommand (Position user variable condition) =
    IsName user × IsName variable × IsCondition condition.items
IsCommand Status = ⊤
IsCommand (Add addition) = IsAddText addition × (length (add_text addition) ≤ MAX_LINE_BYTES)

-- its numbers have at most nine digits, a distribution is 2 to 16 of them, and the text of an added
-- question has at most 1,024 bytes
abbrev pub HasShortNumbers : Command → Type 0
HasShortNumbers (User user) = ⊤
HasShortNumbers (Deposit user bits) = IsShort bits
HasShortNumbers (Withdraw user bits) = IsShort bits
HasShortNumbers (Price question) = ⊤
HasShortNumbers (Limits user question) = ⊤
HasShortNumbers (Edit user question to at) = IsShort to × IfSome at IsShort
HasShortNumbers (Bounds user variable condition) = ⊤
HasShortNumbers (Spread user variable condition to at) = AreSeveral IsShort to.items × IfSome at IsShort
HasShortNumbers (Worst user) = ⊤
HasShortNumbers (Paid user) = ⊤
HasShortNumbers (Resolve pair) = ⊤
HasShortNumbers Settle = ⊤
HasShortNumbers Bound = ⊤
HasShortNumbers (Prices variable condition) = ⊤
HasShortNumbers (Position user variable condition) = ⊤
HasShortNumbers Status = ⊤
HasShortNumbers (Add addition) = length (add_text addition) ≤ MAX_LINE_BYTES
