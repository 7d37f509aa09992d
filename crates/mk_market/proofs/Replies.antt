-- Replies that a market allows, and those that leave its standing.
use Rattle.std.specs.Prelude.{◌≡◌, List, [], ◌∷◌, ◌++◌, Bool, true, false, Option, Some, None, IfSome, MatchOption, Result, Ok, Err, IsErrAnd}
use Rattle.std.proofs.Common.{refl, sym, ap, ◌∙◌, subst, append-nil}
use Rattle.mk_net.specs.Firsts.{fault_if, or_else, first_of}
use Rattle.mk_exact.specs.History.{Entry, is_settled}
use Rattle.mk_exact.specs.Market.{Market}
use Rattle.mk_command.specs.declared.command.Command.{Command}
use Rattle.mk_command.specs.declared.command.Command.TheVariants.{User, Deposit, Withdraw, Price}
use Rattle.mk_command.specs.declared.command.Command.TheVariants.{Limits, Edit, Bounds, Spread}
use Rattle.mk_command.specs.declared.command.Command.TheVariants.{Worst, Paid, Resolve, Settle, Bound}
use Rattle.mk_command.specs.declared.command.Command.TheVariants.{Prices, Position, Status, Add}
use Rattle.mk_reply.specs.declared.refusal.Refusal.{Refusal}
use Rattle.mk_reply.specs.declared.reply.Reply.{Reply}
use Rattle.mk_reply.specs.declared.reply.Reply.TheVariants.{Refused}
use Rattle.mk_rules.specs.Refusals.{first_refusal, refusals_by_record, refusals_by_states}
use Rattle.mk_rules.specs.Answers.{IsAnswer, entry_of, next_quotes}
use Rattle.mk_rules.specs.Transcript.{Standing, OfCommand, IsAllowedFor, after, market_after}
use Rattle.mk_rules.specs.Transcript.{with_entries}
use Rattle.mk_rules.proofs.Adds.{IsNoAddition, adds_nothing}
use Rattle.mk_rules.proofs.Appended.{refused_appends}
use Rattle.mk_market.specs.Trading.{Trading, IsAnswered}
use Rattle.mk_market.specs.inner.Answering.{IsAnsweredBy}
use Rattle.mk_market.proofs.Apart.{EachOwns, left_alone}

-- the first refusal of two lists is that of the first list where it has one, and else that of the second
refused_before : (faults later : List (Option Refusal)) (why : Refusal) → Some why ≡ first_of faults → Some why ≡ first_of (faults ++ later)
refused_before [] later why h = absurd (cc)
refused_before (None ∷ faults) later why h = refused_before faults later why h
refused_before (Some fault ∷ faults) later why h = h

refused_behind : (faults later : List (Option Refusal)) → None ≡ first_of faults → first_of later ≡ first_of (faults ++ later)
refused_behind [] later h = refl
refused_behind (None ∷ faults) later h = refused_behind faults later h
refused_behind (Some fault ∷ faults) later h = absurd (cc)

-- a command is refused for the record, or for what can come where nothing in the record refuses it, or for nothing
pub by_record : (market : Market) (H : List Entry) (command : Command) (why : Refusal) → Some why ≡ first_of (refusals_by_record market H command)
    → Some why ≡ first_refusal market H command
by_record market H command why h = refused_before (refusals_by_record market H command) (refusals_by_states market H command) why h

pub by_states : (market : Market) (H : List Entry) (command : Command) → None ≡ first_of (refusals_by_record market H command)
    → first_of (refusals_by_states market H command) ≡ first_refusal market H command
by_states market H command none = refused_behind (refusals_by_record market H command) (refusals_by_states market H command) none

pub stopped_by_states : (market : Market) (H : List Entry) (command : Command) (why : Refusal) → None ≡ first_of (refusals_by_record market H command)
    → first_of (refusals_by_states market H command) ≡ Some why → Some why ≡ first_refusal market H command
stopped_by_states market H command why none h = sym h ∙ by_states market H command none

pub unrefused : (market : Market) (H : List Entry) (command : Command) → None ≡ first_of (refusals_by_record market H command)
    → first_of (refusals_by_states market H command) ≡ None → None ≡ first_refusal market H command
unrefused market H command none h = sym h ∙ by_states market H command none

-- the refusal of the table
pub refusal_allowed : (market : Market) (now : Standing) (command : Command) (why : Refusal) → Some why ≡ first_refusal market now.history command
    → IsAllowedFor market now (OfCommand command) (Refused why)
refusal_allowed market now command why e =
    subst (λ (o : Option Refusal). MatchOption o (IsAnswer market now.history now.quotes command (Refused why)) (λ w. Refused why ≡ Refused w)) e refl

-- an answer where none applies
pub answer_allowed : (market : Market) (now : Standing) (command : Command) (reply : Reply) → None ≡ first_refusal market now.history command
    → IsAnswer market now.history now.quotes command reply → IsAllowedFor market now (OfCommand command) reply
answer_allowed market now command reply e h =
    subst (λ (o : Option Refusal). MatchOption o (IsAnswer market now.history now.quotes command reply) (λ w. reply ≡ Refused w)) e h

-- a reply that appends no entry and sets no quote
pub none_appended : (market : Market) (now : Standing) (command : Command) (reply : Reply) → entry_of market now.history command reply ≡ None
    → next_quotes market now.history now.quotes command reply ≡ now.quotes → now ≡ after market now (OfCommand command) reply
none_appended market now command reply no_entry same =
    sym (ap (λ (o : Option Entry). record { history = now.history ++ Rattle.std.specs.Prelude.option_to_list o; quotes = next_quotes market now.history now.quotes command reply }) no_entry
    ∙ ap (λ (qs : Rattle.mk_rules.specs.Quotes.Quotes). record { history = now.history ++ []; quotes = qs }) same
    ∙ ap (λ (H : List Entry). record { history = H; quotes = now.quotes }) (append-nil now.history))

-- a reply to any other command than `add` adds nothing to the market
pub nothing_added : (market : Market) (now : Standing) (command : Command) (reply : Reply)
    → IsNoAddition command → market ≡ market_after market now (OfCommand command) reply
nothing_added market now command reply other =
    sym (adds_nothing market now.history command reply other)

-- and a refusal appends nothing
no_entry : (o : Option Entry) → IfSome o (λ e. ⊥) → o ≡ None
no_entry None h = refl
no_entry (Some e) h = absurd h

pub refusal_adds_nothing : (market : Market) (now : Standing) (command : Command) (why : Refusal)
    → market ≡ market_after market now (OfCommand command) (Refused why)
refusal_adds_nothing market now command why =
    ap (λ (o : Option Entry). with_entries o market) (sym
    (no_entry (entry_of market now.history command (Refused why))
    (refused_appends (λ e. ⊥) market now.history command why)))

-- every command but an edit and a spread
abbrev pub IsNoTrade : Command → Type 0
IsNoTrade (Edit user question to at) = ⊥
IsNoTrade (Spread user variable condition to at) = ⊥
IsNoTrade _ = Unit {0}

-- leaves the standing where it is refused
pub refused_stays : (market : Market) (now : Standing) (command : Command) (why : Refusal) → IsNoTrade command → now ≡ after market now (OfCommand command) (Refused why)
refused_stays market now (User user) why h = none_appended market now (User user) (Refused why) refl refl
refused_stays market now (Deposit user bits) why h = none_appended market now (Deposit user bits) (Refused why) refl refl
refused_stays market now (Withdraw user bits) why h = none_appended market now (Withdraw user bits) (Refused why) refl refl
refused_stays market now (Price question) why h = none_appended market now (Price question) (Refused why) refl refl
refused_stays market now (Limits user question) why h = none_appended market now (Limits user question) (Refused why) refl refl
refused_stays market now (Edit user question to at) why h = absurd h
refused_stays market now (Bounds user variable condition) why h = none_appended market now (Bounds user variable condition) (Refused why) refl refl
refused_stays market now (Spread user variable condition to at) why h = absurd h
refused_stays market now (Worst user) why h = none_appended market now (Worst user) (Refused why) refl refl
refused_stays market now (Paid user) why h = none_appended market now (Paid user) (Refused why) refl refl
refused_stays market now (Resolve pair) why h = none_appended market now (Resolve pair) (Refused why) refl refl
refused_stays market now Settle why h = none_appended market now Settle (Refused why) refl refl
refused_stays market now Bound why h = none_appended market now Bound (Refused why) refl refl
refused_stays market now (Prices variable condition) why h = none_appended market now
    (Prices variable condition) (Refused why) refl refl
refused_stays market now (Position user variable condition) why h = none_appended market now
    (Position user variable condition) (Refused why) refl refl
refused_stays market now Status why h = none_appended market now Status (Refused why) refl refl
refused_stays market now (Add add) why h = none_appended market now (Add add) (Refused why) refl refl

pub refused_answered : {Own : Type 0} → (old : Trading Own) → EachOwns old
    → (command : Command) (why : Refusal) → IsNoTrade command
    → Some why ≡ first_refusal old.market old.standing.history command
    → IsAnswered old old command (Refused why)
refused_answered old owns command why other e = record {
  market = refusal_adds_nothing old.market old.standing command why;
  allowed = λ sound. refusal_allowed old.market old.standing command why e;
  next = refused_stays old.market old.standing command why other;
  paid = λ u. refl;
  one_each = owns;
  others = left_alone old old command refl;
}

-- so does the market
pub answered_refused : {Own F : Type 0} → (tell : F → Reply) (old known : Trading Own) → known ≡ old
    → EachOwns known
    → (command : Command) → IsNoTrade command
    → (why : Refusal) (result : Result F Refusal) → IsErrAnd result (λ e. e ≡ why)
    → Some why ≡ first_refusal known.market known.standing.history command
    → IsAnsweredBy old old command result tell
answered_refused tell old known same owns command other why (Ok found) e refusal = absurd e
answered_refused {Own} tell old known same owns command other why (Err found) e refusal =
    subst (λ (w : Refusal). IsAnswered old old command (Refused w)) (sym e)
    (subst (λ (t : Trading Own). IsAnswered t t command (Refused why)) same
    (refused_answered known owns command why other refusal))

-- or by the record alone
pub answered_by_record : {Own F : Type 0} → (tell : F → Reply) (old known : Trading Own)
    → known ≡ old → EachOwns known
    → (command : Command) → IsNoTrade command
    → (why : Refusal) (result : Result F Refusal) → IsErrAnd result (λ e. e ≡ why)
    → Some why ≡ first_of (refusals_by_record known.market known.standing.history command)
    → IsAnsweredBy old old command result tell
answered_by_record tell old known same owns command other why result e refusal =
    answered_refused tell old known same owns command other why result e
    (by_record known.market known.standing.history command why refusal)

-- where no refusal meets a command the market is unsettled, but for one that asks what was paid
pub unsettled_first : (b : Bool) (why : Refusal) (later : Option Refusal) → None ≡ or_else (fault_if b why) later → b ≡ false
unsettled_first true why later none = absurd (cc)
unsettled_first false why later none = refl

abbrev pub IsOpenFor : List Entry → Command → Type 0
IsOpenFor H (Paid u) = Unit {0}
IsOpenFor H _ = is_settled H ≡ false

pub unsettled : (market : Market) (H : List Entry) (command : Command) → None ≡ first_refusal market H command → IsOpenFor H command
unsettled market H (User u) none = unsettled_first (is_settled H) _ _ none
unsettled market H (Deposit u bits) none = unsettled_first (is_settled H) _ _ none
unsettled market H (Withdraw u bits) none = unsettled_first (is_settled H) _ _ none
unsettled market H (Price q) none = unsettled_first (is_settled H) _ _ none
unsettled market H (Limits u q) none = unsettled_first (is_settled H) _ _ none
unsettled market H (Edit u q X seen) none = unsettled_first (is_settled H) _ _ none
unsettled market H (Bounds u v condition) none = unsettled_first (is_settled H) _ _ none
unsettled market H (Spread u v condition to seen) none = unsettled_first (is_settled H) _ _ none
unsettled market H (Worst u) none = unsettled_first (is_settled H) _ _ none
unsettled market H (Paid u) none = tt
unsettled market H (Resolve p) none = unsettled_first (is_settled H) _ _ none
unsettled market H Settle none = unsettled_first (is_settled H) _ _ none
unsettled market H Bound none = unsettled_first (is_settled H) _ _ none
unsettled market H (Prices v condition) none = unsettled_first (is_settled H) _ _ none
unsettled market H (Position u v condition) none = unsettled_first (is_settled H) _ _ none
unsettled market H Status none = unsettled_first (is_settled H) _ _ none
unsettled market H (Add add) none = unsettled_first (is_settled H) _ _ none
