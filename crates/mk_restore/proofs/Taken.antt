-- What this market wrote is taken back.
use Rattle.std.proofs.Common.{◌≡◌, ℕ, ◌+◌, inl, inr, List, [], ◌∷◌, ◌++◌, length, map, Option, Some}
use Rattle.std.proofs.Common.{None, IfSome, MatchOption, refl, sym, ap, ap₂, ◌∙◌, subst, arith}
use Rattle.std.proofs.Common.{append-nil}
use Rattle.std.specs.Prelude.{option_to_list}
use Rattle.std.specs.List.{AllZip, enumerate_from}
use Rattle.mk_net.specs.Firsts.{first_of}
use Rattle.mk_net.specs.Bounds.{sharpness}
use Rattle.mk_states.specs.Events.{always}
use Rattle.mk_exact.specs.History.{Entry, users, revision}
use Rattle.mk_exact.specs.Weight.{IsSmall}
use Rattle.mk_exact.specs.Factors.{HoldsNoTrade, factor_with, least_gain}
use Rattle.mk_exact.specs.Limits.{Side}
use Rattle.mk_exact.specs.Market.{Market, present}
use Rattle.mk_spread.specs.Bounds.{AreFairUnits}
use Rattle.mk_command.specs.declared.command.Command.{Command}
use Rattle.mk_command.specs.declared.command.Command.TheVariants.{User, Deposit, Withdraw, Price}
use Rattle.mk_command.specs.declared.command.Command.TheVariants.{Limits, Edit, Bounds, Spread}
use Rattle.mk_command.specs.declared.command.Command.TheVariants.{Worst, Resolve, Settle, Bound}
use Rattle.mk_command.specs.declared.command.Command.TheVariants.{Prices, Position, Status, Add}
use Rattle.mk_reply.specs.declared.refusal.Refusal.{Refusal}
use Rattle.mk_reply.specs.declared.payments.Payment.{Payment}
use Rattle.mk_reply.specs.declared.reply.Reply.{Reply}
use Rattle.mk_reply.specs.declared.reply.Reply.TheVariants.{Refused}
use Rattle.mk_rules.specs.Refusals.{question_named, spread_named, user_number, refusals_by_record}
use Rattle.mk_rules.specs.Refusals.{refusals_by_states, first_refusal}
use Rattle.mk_rules.specs.Quotes.{Quotes, last_quote, current_limits, current_bounds}
use Rattle.mk_rules.specs.Answers.{IsWithdrawal, IsAnswer, IsAllowed, entry_of, next_history}
use Rattle.mk_rules.specs.Transcript.{Standing, OfCommand, NoCommand, LongLine, after}
use Rattle.mk_rules.specs.Standings.{Stands}
use Rattle.mk_rules.proofs.Keeps.{step_keeps}
use Rattle.mk_rules.proofs.Options.{value_of}
use Rattle.mk_rules.proofs.Appended.{Appends, refused_appends, reply_appends, judged_appends}
use Rattle.mk_rules.proofs.Appended.{spread_appends}
use Rattle.mk_restore.specs.Restoring.{IsTradeAt, IsSpreadAt, Agrees, refusals_again, IsFit}
use Rattle.mk_restore.specs.Restoring.{Changes, Restores, change_of}
use Rattle.mk_restore.specs.Laws.{AllowedFits, RunIsRestored, FrontStands}
use Rattle.mk_command.specs.declared.command.Command.TheVariants.{Paid}

-- where none of several applies, none of the first ones does
front_is_none : {F : Type 0} (first second : List (Option F)) → first_of (first ++ second) ≡ None
    → first_of first ≡ None
front_is_none [] second h = refl
front_is_none (None ∷ first) second h = front_is_none first second h
front_is_none (Some fault ∷ first) second h = cc

-- and so none of those that are tried again
none_again : (market : Market) (H : List Entry) (command : Command)
    → first_refusal market H command ≡ None
    → first_of (refusals_again market H command) ≡ None
none_again market H command none =
    at command (front_is_none (refusals_by_record market H command)
    (refusals_by_states market H command) none) none
  where
    at : (command : Command) → first_of (refusals_by_record market H command) ≡ None
        → first_refusal market H command ≡ None
        → first_of (refusals_again market H command) ≡ None
    at (User u) front none = front
    at (Deposit u bits) front none = front
    at (Withdraw u bits) front none = front
    at (Price q) front none = front
    at (Limits u q) front none = front
    at (Edit u q X seen) front none = front
    at (Bounds u v condition) front none = front
    at (Spread u v condition to seen) front none = front
    at (Worst u) front none = front
    at (Resolve p) front none = none
    at (Paid u) front none = front
    at Settle front none = front
    at Bound front none = front
    at (Prices v condition) front none = front
    at (Position u v condition) front none = front
    at Status front none = front
    at (Add add) front none = front

-- fair units are as many as the shares
as_many : (small : Type 0) (sides : List (Option Side)) (Xs Fs : List ℕ)
    → AreFairUnits small sides Xs Fs → length Fs ≡ length Xs
as_many small [] [] [] h = refl
as_many small [] [] (F ∷ Fs) h = absurd h
as_many small [] (X ∷ Xs) Fs h = absurd h
as_many small (side ∷ sides) [] Fs h = absurd h
as_many small (side ∷ sides) (X ∷ Xs) [] h = absurd h
as_many small (side ∷ sides) (X ∷ Xs) (F ∷ Fs) h = omega (arith, as_many small sides Xs Fs h.1)

-- payments of users in their order have their names
paid_names : (P : ℕ × List ℕ → Payment → Type 0)
    → ((user : ℕ × List ℕ) (payment : Payment) → P user payment → payment.user ≡ user.1)
    → (n : ℕ) (names : List (List ℕ)) (payments : List Payment)
    → AllZip P (enumerate_from n names) payments
    → map (λ (p : Payment). p.user) payments ≡ names
paid_names P named n [] [] h = refl
paid_names P named n [] (payment ∷ payments) h = absurd h
paid_names P named n (name ∷ names) [] h = absurd h
paid_names P named n (name ∷ names) (payment ∷ payments) h =
    ap₂ (λ (x : List ℕ) (xs : List (List ℕ)). x ∷ xs) (named (n, name) payment h.0)
    (paid_names P named (n + 1) names payments h.1)

whatever : {X A : Type 0} (o : Option X) → A → IfSome o (λ x. A)
whatever None a = tt
whatever (Some x) a = a

module _ (market : Market) (H : List Entry) where
  -- the reply agrees, if it appends an entry
  abbrev AgreesIf : Command → Reply → Type 0
  AgreesIf command reply = Appends (λ e. Agrees market H command reply) market H command reply

  agrees_as : (command : Command) (reply known : Reply) → reply ≡ known → AgreesIf command known
      → AgreesIf command reply
  agrees_as command reply known e h = subst (λ (r : Reply). AgreesIf command r) (sym e) h

  -- a reply that appends none
  quiet : (command : Command) (reply known : Reply) → reply ≡ known
      → entry_of market H command known ≡ None → AgreesIf command reply
  quiet command reply known e none =
      reply_appends (λ x. Agrees market H command reply) market H command reply known e
      (subst (λ (o : Option Entry). IfSome o (λ x. Agrees market H command reply)) (sym none) tt)

  answer_agrees : (quotes : Quotes) (command : Command) (reply : Reply)
      → IsAnswer market H quotes command reply → AgreesIf command reply
  answer_agrees quotes (User u) reply (inl e) = agrees_as (User u) reply _ e refl
  answer_agrees quotes (User u) reply (inr e) = quiet (User u) reply _ e refl
  answer_agrees quotes (Deposit u bits) reply h = agrees_as (Deposit u bits) reply _ h refl
  answer_agrees quotes (Withdraw u bits) reply h =
      let least = value_of _
      (least_gain market.network H (user_number H u) always) h in at least.0 least.2
    where
      at : (g : ℕ)
          → IsWithdrawal (IsSmall market.network H) (HoldsNoTrade H (user_number H u))
          (sharpness market.max_trades) (factor_with H (user_number H u) g) u bits (revision H + 1)
          reply
          → AgreesIf (Withdraw u bits) reply
      at g (inl taken) = agrees_as (Withdraw u bits) reply _ taken.1 refl
      at g (inr short) = quiet (Withdraw u bits) reply _ short.printed refl
  answer_agrees quotes (Price q) reply h =
      quiet (Price q) reply _ (value_of _ (question_named market.network q) h).2.printed refl
  answer_agrees quotes (Limits u q) reply h =
      quiet (Limits u q) reply _
      (value_of _ (question_named market.network q) h).2.printed refl
  answer_agrees quotes (Edit u q X seen) reply h =
      let judged = value_of _ (question_named market.network q) h in
      judged_appends _ market H u q X seen judged.0 reply
      (current_limits (last_quote quotes (user_number H u)) judged.0 (revision H))
      (λ trade. whatever {A = IsTradeAt (revision H + 1) reply} _
      (record { hit = trade.hit; miss = trade.miss; printed = trade.printed })) judged.2
  answer_agrees quotes (Bounds u v condition) reply h =
      quiet (Bounds u v condition) reply _
      (value_of _ (spread_named market.network v condition.items) h).2.printed refl
  answer_agrees quotes (Spread u v condition to seen) reply h =
      let judged = value_of _ (spread_named market.network v condition.items) h in
      spread_appends _ market H u v condition to seen judged.0 reply
      (current_bounds (last_quote quotes (user_number H u)) judged.0 (revision H))
      (λ trade. whatever {A = IsSpreadAt (revision H + 1) to.items reply} _ (record {
        factors = trade.factors;
        printed = trade.printed;
        one_each = as_many _ trade.fair.sides to.items trade.factors.items trade.fair.units;
      })) judged.2
  answer_agrees quotes (Worst u) reply h =
      quiet (Worst u) reply _
      (value_of _ (least_gain market.network H (user_number H u) always) h).2.printed refl
  answer_agrees quotes (Paid u) reply h = quiet (Paid u) reply _ h refl
  answer_agrees quotes (Resolve p) reply h = agrees_as (Resolve p) reply _ h (whatever _ refl)
  answer_agrees quotes Settle reply h = whatever (entry_of market H Settle reply) (record {
    listed = λ few.
        let listed = h.listed few in
        record {
          payments = listed.payments;
          printed = listed.printed;
          in_order = paid_names _ (λ user payment is. is.name) 0 (users H) listed.payments listed.paid;
        };
    summed = h.summed;
  })
  answer_agrees quotes Bound reply h = quiet Bound reply _ h.printed refl
  answer_agrees quotes (Prices v condition) reply h =
      quiet (Prices v condition) reply _
      (value_of _ (spread_named market.network v condition.items) h).2.printed refl
  answer_agrees quotes (Position u v condition) reply h =
      quiet (Position u v condition) reply _
      (value_of _ (spread_named market.network v condition.items) h).2.printed refl
  answer_agrees quotes Status reply h = quiet Status reply _ h refl
  answer_agrees quotes (Add add) reply (inl added) =
      agrees_as (Add add) reply _ added.1 (added.0, refl)
  answer_agrees quotes (Add add) reply (inr e) = quiet (Add add) reply _ e refl

at_entry : {X : Type 0} (P : X → Type 0) (o : Option X) (x : X) → o ≡ Some x → IfSome o P → P x
at_entry P o x e h = subst (λ (o : Option _). IfSome o P) e h

pub allowed_fits : AllowedFits
allowed_fits market H quotes command reply e h is = at (first_refusal market H command) refl h
  where
    at : (o : Option Refusal) → first_refusal market H command ≡ o
        → MatchOption o (IsAnswer market H quotes command reply) (λ why. reply ≡ Refused why)
        → IsFit market H command reply
    at None none h = record {
      unrefused = none_again market H command none;
      agrees = at_entry _ _ e is (answer_agrees market H quotes command reply h);
    }
    at (Some why) _ same = absurd (at_entry (λ x. ⊥) _ e is
        (reply_appends (λ x. ⊥) market H command reply _ same
        (refused_appends (λ x. ⊥) market H command why)))

-- changes that give a history that stands
abbrev GiveStanding : Market → List Entry → Changes → Type 0
GiveStanding market old first =
    (middle : List Entry) × Restores market old first middle × Stands (present market middle) middle

-- one line of a run
module _ (market : Market) (H : List Entry) (quotes : Quotes) (command : Command) (reply : Reply)
    (rest : Changes)
    (allowed : IsAllowed (present market H) H quotes command reply) where
  line_restored : (new : List Entry)
      → Restores market (next_history (present market H) H command reply) rest new
      → Restores market H (change_of (present market H) H (OfCommand command) reply ++ rest) new
  line_restored new restored = at (entry_of (present market H) H command reply) refl
    where
      at : (o : Option Entry) → entry_of (present market H) H command reply ≡ o
          → Restores market H ((elim o [ None ↦ [] | Some e ↦ (command, reply) ∷ [] ]) ++ rest) new
      at None e =
          subst (λ (l : List Entry). Restores market l rest new)
          (ap (λ (o : Option Entry). H ++ option_to_list o) e ∙ append-nil H) restored
      at (Some entry) e =
          (allowed_fits (present market H) H quotes command reply entry allowed e, restored)

  -- from a history that stands each front of a run's changes gives one that stands
  line_front : (first second : Changes) → Stands (present market H) H
      → ((first : Changes) → rest ≡ first ++ second
      → GiveStanding market (next_history (present market H) H command reply) first)
      → change_of (present market H) H (OfCommand command) reply ++ rest ≡ first ++ second
      → GiveStanding market H first
  line_front [] second stands later e = (H, refl, stands)
  line_front (change ∷ first) second stands later e =
      at (entry_of (present market H) H command reply) refl e
    where
      parts : (a b : Command × Reply) (xs ys : Changes) → a ∷ xs ≡ b ∷ ys → (a ≡ b) × (xs ≡ ys)
      parts a b xs ys same = (cc, cc)

      at : (o : Option Entry) → entry_of (present market H) H command reply ≡ o
          → (elim o [ None ↦ [] | Some e ↦ (command, reply) ∷ [] ]) ++ rest
          ≡ change ∷ (first ++ second)
          → GiveStanding market H (change ∷ first)
      at None none e =
          let found = later (change ∷ first) e in
          let same : next_history (present market H) H command reply ≡ H = ap
          (λ (o : Option Entry). H ++ option_to_list o) none ∙ append-nil H in (
            found.0,
            subst
                (λ (l : List Entry). Restores market l (change ∷ first) found.0) same found.1,
            found.2,
          )
      at (Some entry) some e =
          let same = parts (command, reply) change rest (first ++ second) e in
          let found = later first same.1 in
          let fit = allowed_fits (present market H) H quotes command reply entry allowed some in (
            found.0,
            subst (λ (c : Command × Reply). Restores market H (c ∷ first) found.0) same.0
                (fit, found.1),
            found.2,
          )

pub run_is_restored : RunIsRestored
run_is_restored market old new [] [] h = ap (λ (now : Standing). now.history) h
run_is_restored market old new [] (reply ∷ replies) h = absurd h
run_is_restored market old new (line ∷ lines) [] h = absurd h
run_is_restored market old new (OfCommand command ∷ lines) (reply ∷ replies) h =
    let next = after (present market old.history) old (OfCommand command) reply in
    line_restored market old.history old.quotes command reply _ h.0 new.history
    (run_is_restored market next new lines replies h.1)
run_is_restored market old new (NoCommand ∷ lines) (reply ∷ replies) h =
    run_is_restored market old new lines replies h.1
run_is_restored market old new (LongLine ∷ lines) (reply ∷ replies) h =
    run_is_restored market old new lines replies h.1

pub front_stands : FrontStands
front_stands market old new [] [] [] second stands h e = (old.history, refl, stands)
front_stands market old new [] [] (change ∷ first) second stands h e = cc
front_stands market old new [] (reply ∷ replies) first second stands h e = absurd h
front_stands market old new (line ∷ lines) [] first second stands h e = absurd h
front_stands market old new (OfCommand command ∷ lines) (reply ∷ replies) first second stands h e =
    let next = after (present market old.history) old (OfCommand command) reply in
    line_front market old.history old.quotes command reply _ h.0 first second stands
    (λ first e. front_stands market next new lines replies first second
    (step_keeps market old (OfCommand command) reply stands h.0) h.1 e) e
front_stands market old new (NoCommand ∷ lines) (reply ∷ replies) first second stands h e =
    front_stands market old new lines replies first second stands h.1 e
front_stands market old new (LongLine ∷ lines) (reply ∷ replies) first second stands h e =
    front_stands market old new lines replies first second stands h.1 e
