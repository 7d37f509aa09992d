-- The payments of a settlement stay within the bound by the history that a run leaves.
use Rattle.std.proofs.Common.{◌≡◌, ℕ, ◌+◌, ◌*◌, ◌^◌, ◌≤◌, true, List, [], ◌∷◌, ◌++◌, Option, Some, None, IfSome, MatchOption, All, length, filter, sum, sum_by, refl, sym, ap, ◌∙◌, subst, append-nil}
use Rattle.std.specs.Prelude.{option_to_list, ◌&&◌}
use Rattle.std.proofs.Math.Path.{fun_ext}
use Rattle.std.proofs.lemmas.List.Elements.{All-nil, All-cons}
use Rattle.mk_net.specs.declared.words.Pair.{Pair}
use Rattle.mk_states.specs.InitialWeight.{all_states, initial_weight, initial_total}
use Rattle.mk_states.specs.Events.{holds, always}
use Rattle.mk_states.specs.States.{numbers_below}
use Rattle.mk_exact.specs.History.{Entry, Settle as Settles, is_settled, users, deposited, withdrawn}
use Rattle.mk_exact.specs.Market.{Market, present}
use Rattle.mk_grown.proofs.Present.{present_after}
use Rattle.mk_exact.proofs.After.{users_kept, resolutions_kept, deposited_kept, withdrawn_kept}
use Rattle.mk_command.specs.declared.command.Command.{Command}
use Rattle.mk_command.specs.declared.command.Command.TheVariants.{User, Deposit, Withdraw, Price, Limits, Edit, Bounds, Spread, Worst, Resolve, Settle, Bound}
use Rattle.mk_command.specs.declared.command.Command.TheVariants.{Prices, Position, Status, Add}
use Rattle.mk_reply.specs.declared.refusal.Refusal.{Refusal}
use Rattle.mk_reply.specs.declared.refusal.Refusal.TheVariants.{Settled as SettledBefore}
use Rattle.mk_reply.specs.declared.reply.Reply.{Reply}
use Rattle.mk_reply.specs.declared.reply.Reply.TheVariants.{Joined, Deposited, Withdrawn, Price as Priced, Limits as Limited, Traded, Bounded, Spreaded, Worst as Worsted, Resolved, Settled, Bound as Risked, Refused}
use Rattle.mk_reply.specs.declared.reply.Reply.TheVariants.{Prices as Told, Position as Positioned}
use Rattle.mk_reply.specs.declared.reply.Reply.TheVariants.{Status as Counted, Added}
use Rattle.mk_rules.specs.Refusals.{first_refusal}
use Rattle.mk_rules.specs.Quotes.{Quotes}
use Rattle.mk_rules.specs.Answers.{IsAnswer, IsAllowed, entry_of, next_history}
use Rattle.mk_rules.specs.Transcript.{Standing, Line, OfCommand, NoCommand, LongLine, IsAllowedFor, after, Run}
use Rattle.mk_rules.specs.Standings.{Stands}
use Rattle.mk_rules.specs.Laws.{paid_by, CostsAtMost, PaysWithin}
use Rattle.mk_rules.proofs.Appended.{refused_appends}
use Rattle.mk_rules.proofs.Keeps.{step_keeps}
use Rattle.mk_rules.proofs.Paid.{line_settles, settlement_keeps}
use Rattle.std.proofs.Common.{◌⊎◌, inl, inr}
use Rattle.std.specs.Prelude.{map}
use Rattle.mk_exact.specs.ByRule.{payments_by_rule}
use Rattle.mk_command.specs.declared.command.Command.TheVariants.{Paid}
use Rattle.mk_reply.specs.declared.reply.Reply.TheVariants.{SettledAll, Paid as PaidOut}
use Rattle.mk_rules.specs.Answers.{ends_of}
use Rattle.mk_rules.proofs.Paid.{IsSettledReply, either_way}
use Rattle.mk_rules.proofs.Paying.{settled_behind}

-- what a command is refused for
abbrev IsRefusedFor : Market → List Entry → Command → Type 0
IsRefusedFor market H command = (why : Refusal) × (first_refusal market H command ≡ Some why)

-- a command that appends nothing, whatever the reply
abbrev AppendsNothing : Market → List Entry → Command → Type 0
AppendsNothing market H command = (reply : Reply) → entry_of market H command reply ≡ None

-- behind a settlement each command is refused, but for `paid`, which appends nothing
refused_behind : (market : Market) (H : List Entry) (command : Command) → is_settled H ≡ true
    → IsRefusedFor market H command ⊎ AppendsNothing market H command
refused_behind market H (User u) s = inl (SettledBefore, rw s refl)
refused_behind market H (Deposit u bits) s = inl (SettledBefore, rw s refl)
refused_behind market H (Withdraw u bits) s = inl (SettledBefore, rw s refl)
refused_behind market H (Price q) s = inl (SettledBefore, rw s refl)
refused_behind market H (Limits u q) s = inl (SettledBefore, rw s refl)
refused_behind market H (Edit u q X seen) s = inl (SettledBefore, rw s refl)
refused_behind market H (Bounds u v condition) s = inl (SettledBefore, rw s refl)
refused_behind market H (Spread u v condition to seen) s = inl (SettledBefore, rw s refl)
refused_behind market H (Worst u) s = inl (SettledBefore, rw s refl)
refused_behind market H (Paid u) s = inr (λ reply. refl)
refused_behind market H (Resolve p) s = inl (SettledBefore, rw s refl)
refused_behind market H Settle s = inl (SettledBefore, rw s refl)
refused_behind market H Bound s = inl (SettledBefore, rw s refl)
refused_behind market H (Prices v condition) s = inl (SettledBefore, rw s refl)
refused_behind market H (Position u v condition) s = inl (SettledBefore, rw s refl)
refused_behind market H Status s = inl (SettledBefore, rw s refl)
refused_behind market H (Add add) s = inl (SettledBefore, rw s refl)

none_there : {X : Type 0} (o : Option X) → IfSome o (λ _. ⊥) → o ≡ None
none_there None h = refl
none_there (Some x) h = absurd h

-- so its history stays
command_stays : (market : Market) (H : List Entry) (quotes : Quotes) (command : Command) (reply : Reply) → is_settled H ≡ true
    → IsAllowed market H quotes command reply → next_history market H command reply ≡ H
command_stays market H quotes command reply s h = at (refused_behind market H command s)
  where
    at : IsRefusedFor market H command ⊎ AppendsNothing market H command → next_history market H command reply ≡ H
    at (inl behind) =
        let refused : reply ≡ Refused (behind.0) =
        subst (λ (o : Option Refusal). MatchOption o (IsAnswer market H quotes command reply) (λ why. reply ≡ Refused why)) (behind.1) h in
        let none : entry_of market H command reply ≡ None = none_there (entry_of market H command reply)
        (subst (λ (r : Reply). IfSome (entry_of market H command r) (λ _. ⊥)) (sym refused) (refused_appends (λ _. ⊥) market H command (behind.0))) in
        ap (λ (o : Option Entry). H ++ option_to_list o) none ∙ append-nil H
    at (inr quiet) = ap (λ (o : Option Entry). H ++ option_to_list o) (quiet reply) ∙ append-nil H

line_stays : (market : Market) (now : Standing) (line : Line) (reply : Reply) → is_settled now.history ≡ true
    → IsAllowedFor market now line reply → (after market now line reply).history ≡ now.history
line_stays market now (OfCommand command) reply s h = command_stays market now.history now.quotes command reply s h
line_stays market now NoCommand reply s h = refl
line_stays market now LongLine reply s h = refl

run_stays : (market : Market) (old new : Standing) (lines : List Line) (replies : List Reply) → is_settled old.history ≡ true
    → Run market old lines replies new → new.history ≡ old.history
run_stays market old new [] [] s run = ap (λ (now : Standing). now.history) run
run_stays market old new [] (reply ∷ replies) s run = absurd run
run_stays market old new (line ∷ lines) [] s run = absurd run
run_stays market old new (line ∷ lines) (reply ∷ replies) s run =
    let same = line_stays (present market old.history) old line reply s run.0 in
    let next = after (present market old.history) old line reply in
    run_stays market next new lines replies (ap is_settled same ∙ s) run.1 ∙ same

-- what is possible, and the bound, as they read off a history's resolutions, users and transfers
abbrev states_by : Market → List Pair → List (List ℕ)
states_by market pairs = filter (λ s. holds pairs s && always s) (all_states market.network)

abbrev bound_by : Market → List ℕ → List ℕ → List (List ℕ) → (ℕ → ℕ) → (ℕ → ℕ) → Type 0
bound_by market s paid joined outs ins =
    2 ^ (sum paid + market.points_per_bit * sum_by outs (numbers_below (length joined))) * initial_weight market.network s ^ market.points_per_bit
    ≤ 2 ^ (market.points_per_bit * sum_by ins (numbers_below (length joined))) * initial_total market.network ^ market.points_per_bit

costs_behind : (market : Market) (H : List Entry) (ends : List (ℕ × ℕ)) (paid : List ℕ) → CostsAtMost market H paid
    → CostsAtMost market (H ++ Settles ends ∷ []) paid
costs_behind market H ends paid costs =
    let e = Settles ends in
    let behind = H ++ e ∷ [] in
    record {
      state = costs.state;
      one_state = ap (states_by market) (resolutions_kept H e refl) ∙ costs.one_state;
      bounded = record {
        bound = subst (λ joined. bound_by market costs.state paid joined (withdrawn behind) (deposited behind)) (sym (users_kept H e refl))
            (subst (λ outs. bound_by market costs.state paid (users H) outs (deposited behind)) (sym (fun_ext (λ u. withdrawn_kept H e u refl)))
            (subst (λ ins. bound_by market costs.state paid (users H) (withdrawn H) ins) (sym (fun_ext (λ u. deposited_kept H e u refl)))
            costs.bounded.bound));
      };
    }

pays_behind : (market : Market) (H : List Entry) (ends : List (ℕ × ℕ)) (reply : Reply) → PaysWithin market H reply
    → PaysWithin market (H ++ Settles ends ∷ []) reply
pays_behind market H ends (Settled at payments) h = costs_behind market H ends (paid_by payments) h
pays_behind market H ends (SettledAll at users total) h = costs_behind market H ends (total ∷ []) h
pays_behind market H ends (Joined u at) h = tt
pays_behind market H ends (Deposited u bits at) h = tt
pays_behind market H ends (Withdrawn u bits at) h = tt
pays_behind market H ends (Priced low high) h = tt
pays_behind market H ends (Limited limits at) h = tt
pays_behind market H ends (Traded hit miss at) h = tt
pays_behind market H ends (Bounded intervals at) h = tt
pays_behind market H ends (Spreaded factors at) h = tt
pays_behind market H ends (Worsted low high) h = tt
pays_behind market H ends (Resolved p at) h = tt
pays_behind market H ends (Risked low high) h = tt
pays_behind market H ends (Told intervals) h = tt
pays_behind market H ends (Positioned intervals) h = tt
pays_behind market H ends (Counted at users trades most moves more left all) h = tt
pays_behind market H ends (Added v at) h = tt
pays_behind market H ends (PaidOut payment) h = tt
pays_behind market H ends (Refused why) h = tt

-- what a settlement appends
appends_settlement : (market : Market) (H : List Entry) (reply : Reply) → IsSettledReply reply
    → (ends : List (ℕ × ℕ)) × (next_history market H Settle reply ≡ H ++ Settles ends ∷ [])
appends_settlement market H (Settled at payments) s = (map ends_of payments, refl)
appends_settlement market H (SettledAll at users total) s = (payments_by_rule market.network H market.points_per_bit, refl)
appends_settlement market H (Joined u at) s = absurd s
appends_settlement market H (Deposited u bits at) s = absurd s
appends_settlement market H (Withdrawn u bits at) s = absurd s
appends_settlement market H (Priced low high) s = absurd s
appends_settlement market H (Limited limits at) s = absurd s
appends_settlement market H (Traded hit miss at) s = absurd s
appends_settlement market H (Bounded intervals at) s = absurd s
appends_settlement market H (Spreaded factors at) s = absurd s
appends_settlement market H (Worsted low high) s = absurd s
appends_settlement market H (Resolved p at) s = absurd s
appends_settlement market H (Risked low high) s = absurd s
appends_settlement market H (Told intervals) s = absurd s
appends_settlement market H (Positioned intervals) s = absurd s
appends_settlement market H (Counted at users trades most moves more left all) s = absurd s
appends_settlement market H (Added v at) s = absurd s
appends_settlement market H (PaidOut payment) s = absurd s
appends_settlement market H (Refused why) s = absurd s

settlement_pays : (market : Market) (old new : Standing) (line : Line) (reply : Reply)
    (lines : List Line) (replies : List Reply) → Stands (present market old.history) old.history
    → IsAllowedFor (present market old.history) old line reply → IsSettledReply reply
    → Run market (after (present market old.history) old line reply) lines replies
    new → PaysWithin (present market new.history) new.history reply
settlement_pays market old new line reply lines replies stands allowed s run =
    let here = present market old.history in
    let settled = after here old line reply in
    let appended = appends_settlement here old.history reply s in
    let e = Settles appended.0 in
    let next : settled.history ≡ old.history ++ e ∷ [] =
    ap (λ (l : Line). (after here old l reply).history)
    (line_settles here old line reply allowed s) ∙ appended.1 in
    let stays : new.history ≡ old.history ++ e ∷ [] =
    run_stays market settled new lines replies (ap is_settled next ∙ settled_behind old.history appended.0) run
    ∙ next in
    let same = present_after market old.history e in
    let costs = settlement_keeps here old line reply stands allowed in
    subst (λ (H : List Entry). PaysWithin (present market H) H reply) (sym stays)
    (subst (λ (m : Market). PaysWithin m (old.history ++ e ∷ []) reply) (sym same)
    (pays_behind here old.history appended.0 reply costs))

reply_pays : (market : Market) (old new : Standing) (line : Line) (reply : Reply) (lines : List Line) (replies : List Reply)
    → Stands (present market old.history) old.history
    → IsAllowedFor (present market old.history) old line reply
    → Run market (after (present market old.history) old line reply) lines replies new
    → PaysWithin (present market new.history) new.history reply
reply_pays market old new line reply lines replies stands allowed run =
    either_way (present market new.history) new.history reply
    (λ s. settlement_pays market old new line reply lines replies stands allowed s run)

pub run_settles : (market : Market) (old new : Standing) (lines : List Line) (replies : List Reply)
    → Stands (present market old.history) old.history → Run market old lines replies new
    → All (PaysWithin (present market new.history) new.history) replies
run_settles market old new [] [] stands run =
    All-nil (PaysWithin (present market new.history) new.history)
run_settles market old new [] (reply ∷ replies) stands run = absurd run
run_settles market old new (line ∷ lines) [] stands run = absurd run
run_settles market old new (line ∷ lines) (reply ∷ replies) stands run =
    let next = after (present market old.history) old line reply in
    All-cons (PaysWithin (present market new.history) new.history) reply replies
    (reply_pays market old new line reply lines replies stands run.0 run.1)
    (run_settles market next new lines replies (step_keeps market old line reply stands run.0)
    run.1)
