-- Where nobody was quoted anything, a change that is taken back leaves nobody quoted.
use Rattle.std.proofs.Common.{◌≡◌, List, [], ◌∷◌, ◌++◌, map, Option, Some, None, IfSome}
use Rattle.std.proofs.Common.{refl, sym, ap, ◌∙◌, subst, append-nil}
use Rattle.std.specs.Prelude.{option_to_list, option_map}
use Rattle.std.proofs.lemmas.List.{map-append}
use Rattle.mk_net.specs.Named.{pair_named}
use Rattle.mk_exact.specs.History.{Entry, join_in, users}
use Rattle.mk_exact.specs.Market.{Market}
use Rattle.mk_exact.proofs.After.{users_kept, users_more}
use Rattle.mk_command.specs.declared.command.Command.{Command}
use Rattle.mk_command.specs.declared.command.Command.TheVariants.{User, Deposit, Withdraw, Price}
use Rattle.mk_command.specs.declared.command.Command.TheVariants.{Limits, Edit, Bounds, Spread}
use Rattle.mk_command.specs.declared.command.Command.TheVariants.{Worst, Resolve, Settle, Bound}
use Rattle.mk_command.specs.declared.command.Command.TheVariants.{Prices, Position, Status, Add}
use Rattle.mk_reply.specs.declared.reply.Reply.{Reply}
use Rattle.mk_rules.specs.Quotes.{no_quotes}
use Rattle.mk_rules.specs.Refusals.{question_named, spread_named}
use Rattle.mk_rules.specs.Answers.{next_history, next_quotes}
use Rattle.mk_restore.specs.Restoring.{Agrees}
use Rattle.mk_restore.specs.Laws.{FitQuotesNobody}
use Rattle.mk_command.specs.declared.command.Command.TheVariants.{Paid}
use Rattle.mk_restore.proofs.Settled.{SettledIs, settled_is}
use Rattle.std.proofs.Common.{inl, inr}

-- an entry by which nobody joins leaves the places for quotes as they were
same_places : (H : List Entry) (o : Option Entry) → IfSome o (λ e. join_in e ≡ None)
    → no_quotes H ≡ no_quotes (H ++ option_to_list o)
same_places H None h = ap no_quotes (sym (append-nil H))
same_places H (Some e) h = ap (map (λ name. None)) (sym (users_kept H e h))

made : {X : Type 0} (entry : X → Entry) → ((x : X) → join_in (entry x) ≡ None) → (o : Option X)
    → IfSome (option_map entry o) (λ e. join_in e ≡ None)
made entry h None = tt
made entry h (Some x) = h x

module _ (market : Market) (H : List Entry) where
  abbrev Unquoted : Command → Reply → Type 0
  Unquoted command reply =
      next_quotes market H (no_quotes H) command reply
      ≡ no_quotes (next_history market H command reply)

  known_reply : (command : Command) (reply known : Reply) → reply ≡ known → Unquoted command known
      → Unquoted command reply
  known_reply command reply known e h = subst (λ (r : Reply). Unquoted command r) (sym e) h

  agreed_unquoted : (command : Command) (reply : Reply) → Agrees market H command reply
      → Unquoted command reply
  agreed_unquoted (User u) reply e = known_reply (User u) reply _ e (sym (
      ap (map (λ name. None)) (users_more H u) ∙ map-append (λ name. None) (users H) (u ∷ [])))
  agreed_unquoted (Deposit u bits) reply e =
      known_reply (Deposit u bits) reply _ e (same_places H (Some _) refl)
  agreed_unquoted (Withdraw u bits) reply e =
      known_reply (Withdraw u bits) reply _ e (same_places H (Some _) refl)
  agreed_unquoted (Price q) reply h = absurd h
  agreed_unquoted (Limits u q) reply h = absurd h
  agreed_unquoted (Edit u q X seen) reply trade =
      known_reply (Edit u q X seen) reply _ trade.printed
      (same_places H _ (made _ (λ asked. refl) (question_named market.network q)))
  agreed_unquoted (Bounds u v condition) reply h = absurd h
  agreed_unquoted (Spread u v condition to seen) reply trade =
      known_reply (Spread u v condition to seen) reply _ trade.printed
      (same_places H _
      (made _ (λ spread. refl) (spread_named market.network v condition.items)))
  agreed_unquoted (Worst u) reply h = absurd h
  agreed_unquoted (Paid u) reply h = absurd h
  agreed_unquoted (Resolve p) reply e =
      known_reply (Resolve p) reply _ e
      (same_places H _ (made _ (λ pair. refl) (pair_named market.network p)))
  agreed_unquoted Settle reply settlement = settles (settled_is market H reply settlement)
    where
      settles : SettledIs market H reply → Unquoted Settle reply
      settles (inl listed) =
          known_reply Settle reply _ listed.printed (same_places H (Some _) refl)
      settles (inr e) = known_reply Settle reply _ e (same_places H (Some _) refl)
  agreed_unquoted Bound reply h = absurd h
  agreed_unquoted (Prices v condition) reply h = absurd h
  agreed_unquoted (Position u v condition) reply h = absurd h
  agreed_unquoted Status reply h = absurd h
  agreed_unquoted (Add add) reply agrees =
      known_reply (Add add) reply _ agrees.1 (same_places H (Some _) refl)

pub fit_quotes_nobody : FitQuotesNobody
fit_quotes_nobody market H command reply fit = agreed_unquoted market H command reply fit.agrees
