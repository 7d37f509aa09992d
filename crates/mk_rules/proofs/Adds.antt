-- What a reply adds to its market: only one to `add` adds anything.
use Rattle.std.proofs.Common.{◌≡◌, ℕ, Option, Some, None, List, refl}
use Rattle.std.specs.Prelude.{⊤, option_map}
use Rattle.mk_net.specs.Named.{pair_named}
use Rattle.mk_exact.specs.History.{Entry, Trade, Resolve as Resolves, Add as Adds}
use Rattle.mk_exact.specs.Market.{Market, with_entry}
use Rattle.mk_exact.specs.Sides.{ratio_in}
use Rattle.mk_spread.specs.Spreads.{spread_ratio}
use Rattle.mk_addition.specs.declared.add.AddText.{AddText}
use Rattle.mk_command.specs.declared.command.Command.{Command}
use Rattle.mk_command.specs.declared.command.Command.TheVariants.{User, Deposit, Withdraw, Price}
use Rattle.mk_command.specs.declared.command.Command.TheVariants.{Limits, Edit, Bounds, Spread}
use Rattle.mk_command.specs.declared.command.Command.TheVariants.{Worst, Resolve, Settle, Bound}
use Rattle.mk_command.specs.declared.command.Command.TheVariants.{Prices, Position, Status, Add}
use Rattle.mk_reply.specs.declared.reply.Reply.{Reply}
use Rattle.mk_reply.specs.declared.reply.Reply.TheVariants.{Joined, Deposited, Withdrawn, Traded}
use Rattle.mk_reply.specs.declared.reply.Reply.TheVariants.{Spreaded, Resolved, Settled}
use Rattle.mk_reply.specs.declared.reply.Reply.TheVariants.{Added, Refused}
use Rattle.mk_reply.specs.declared.refusal.Refusal.{Refusal}
use Rattle.mk_rules.specs.Refusals.{question_named, spread_named, user_number}
use Rattle.mk_rules.specs.Additions.{addition_of}
use Rattle.mk_rules.specs.Answers.{entry_of}
use Rattle.mk_rules.specs.Transcript.{with_entries}
use Rattle.mk_command.specs.declared.command.Command.TheVariants.{Paid}
use Rattle.mk_reply.specs.declared.reply.Reply.TheVariants.{SettledAll}

each_adds_nothing : {X : Type 0} (market : Market) (f : X → Entry)
    → ((x : X) → with_entry (f x) market ≡ market) → (o : Option X)
    → with_entries (option_map f o) market ≡ market
each_adds_nothing market f each None = refl
each_adds_nothing market f each (Some x) = each x

-- a command that is not `add`
abbrev pub IsNoAddition : Command → Type 0
IsNoAddition (Add add) = ⊥
IsNoAddition _ = ⊤

-- the market after `Added` is the one with the question
pub adds_question : (market : Market) (H : List Entry) (add : AddText) (name : List ℕ) (at : ℕ)
    → with_entries (entry_of market H (Add add) (Added name at)) market
    ≡ with_entry (Adds (addition_of market.network add)) market
adds_question market H add name at = refl

-- and after a refusal of `add` the one before
pub refused_adds_nothing : (market : Market) (H : List Entry) (add : AddText) (why : Refusal)
    → with_entries (entry_of market H (Add add) (Refused why)) market ≡ market
refused_adds_nothing market H add why = refl

-- no other command adds anything
pub adds_nothing : (market : Market) (H : List Entry) (command : Command) (reply : Reply)
    → IsNoAddition command → with_entries (entry_of market H command reply) market ≡ market
adds_nothing market H (User u) (Joined _ _) other = refl
adds_nothing market H (User u) _ other = refl
adds_nothing market H (Deposit u bits) (Deposited _ _ _) other = refl
adds_nothing market H (Deposit u bits) _ other = refl
adds_nothing market H (Withdraw u bits) (Withdrawn _ _ _) other = refl
adds_nothing market H (Withdraw u bits) _ other = refl
adds_nothing market H (Price q) _ other = refl
adds_nothing market H (Limits u q) _ other = refl
adds_nothing market H (Edit u q X seen) (Traded hit miss _) other =
    each_adds_nothing market
    (λ asked. Trade (user_number H u) (ratio_in market.network asked hit miss)) (λ asked. refl)
    (question_named market.network q)
adds_nothing market H (Edit u q X seen) _ other = refl
adds_nothing market H (Bounds u v condition) _ other = refl
adds_nothing market H (Spread u v condition to seen) (Spreaded factors _) other =
    each_adds_nothing market
    (λ spread. Trade (user_number H u) (spread_ratio spread factors.items)) (λ spread. refl)
    (spread_named market.network v condition.items)
adds_nothing market H (Spread u v condition to seen) _ other = refl
adds_nothing market H (Worst u) _ other = refl
adds_nothing market H (Paid u) _ other = refl
adds_nothing market H (Resolve p) (Resolved _ _) other =
    each_adds_nothing market Resolves (λ pair. refl) (pair_named market.network p)
adds_nothing market H (Resolve p) _ other = refl
adds_nothing market H Settle (Settled _ _) other = refl
adds_nothing market H Settle (SettledAll _ _ _) other = refl
adds_nothing market H Settle _ other = refl
adds_nothing market H Bound _ other = refl
adds_nothing market H (Prices v condition) _ other = refl
adds_nothing market H (Position u v condition) _ other = refl
adds_nothing market H Status _ other = refl
adds_nothing market H (Add add) reply other = absurd other
