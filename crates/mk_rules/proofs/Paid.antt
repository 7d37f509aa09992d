-- What a settlement pays stays within the cash of each user's factor.
use Rattle.std.proofs.Common.{◌≡◌, ℕ, zero, suc, ◌+◌, ◌<◌, ◌≤◌, inl, inr, List, [], ◌∷◌, Option, Some, None, MatchOption, length, All, refl, sym, ap, ◌∙◌, subst, arith}
use Rattle.std.specs.Prelude.{slice_index}
use Rattle.std.specs.List.{AllZip, enumerate_from}
use Rattle.std.proofs.lemmas.List.{length-map}
use Rattle.std.proofs.lemmas.List.FromFn.{length-enumerate_from}
use Rattle.std.proofs.lemmas.List.Elements.{All-head}
use Rattle.std.proofs.lemmas.Slice.Zip.{AllZip-long}
use Rattle.mk_net.specs.Network.{Variable}
use Rattle.mk_net.specs.Asked.{Asked}
use Rattle.mk_states.specs.Events.{always}
use Rattle.mk_net.specs.Bounds.{sharpness}
use Rattle.mk_exact.specs.History.{Entry, users, revision}
use Rattle.mk_exact.specs.Weight.{IsSmall}
use Rattle.mk_exact.specs.Factors.{Fraction, HoldsNoTrade, factor, factor_with, least_gain}
use Rattle.mk_exact.specs.Market.{Market}
use Rattle.mk_exact.specs.Laws.{IsWithinCash, ArePayments, LossIsBounded}
use Rattle.mk_exact.proofs.Gains.{settlement_bounded}
use Rattle.mk_spread.specs.Spreads.{SpreadAsked}
use Rattle.mk_spread.specs.Bounds.{Intervals}
use Rattle.mk_command.specs.declared.command.Command.{Command}
use Rattle.mk_command.specs.declared.command.Command.TheVariants.{User, Deposit, Withdraw, Price, Limits, Edit, Bounds, Spread, Worst, Resolve, Settle, Bound, Paid}
use Rattle.mk_command.specs.declared.command.Command.TheVariants.{Prices, Position, Status, Add}
use Rattle.mk_reply.specs.declared.refusal.Refusal.{Refusal}
use Rattle.mk_reply.specs.declared.payments.Payment.{Payment}
use Rattle.mk_reply.specs.declared.reply.Reply.{Reply}
use Rattle.mk_reply.specs.declared.reply.Reply.TheVariants.{Joined, Deposited, Withdrawn, Price as Priced, Limits as Limited, Traded, Bounded, Spreaded, Worst as Worsted, Resolved, Settled, SettledAll, Bound as Risked}
use Rattle.mk_reply.specs.declared.reply.Reply.TheVariants.{Prices as Told, Position as Positioned, Status as Counted, Added, Paid as PaidOut, Refused}
use Rattle.mk_rules.specs.Refusals.{question_named, spread_named, user_number, first_refusal}
use Rattle.mk_rules.specs.Quotes.{Interval, Quotes, last_quote, current_limits, current_bounds}
use Rattle.mk_rules.specs.Answers.{IsPayment, IsJudged, IsJudgedAfresh, IsSpreadJudged, IsSpreadJudgedAfresh, IsWithdrawal, IsAnswer}
use Rattle.mk_rules.specs.Transcript.{Standing, Line, OfCommand, NoCommand, LongLine, IsAllowedFor}
use Rattle.mk_rules.specs.Standings.{Stands}
use Rattle.mk_rules.specs.Laws.{paid_by, CostsAtMost, PaysWithin}
use Rattle.mk_rules.proofs.Options.{value_of}
use Rattle.std.specs.Prelude.{⊤, sum, map}
use Rattle.std.proofs.lemmas.List.{get_or-map}
use Rattle.std.proofs.lemmas.List.FromFn.{length-range_with_len, get_or-map-range_with_len}
use Rattle.mk_states.specs.States.{numbers_below}
use Rattle.mk_exact.specs.Weight.{possible_states}
use Rattle.mk_exact.specs.Cash.{IsCashBetween}
use Rattle.mk_exact.specs.ByRule.{payment_by_rule, payments_by_rule, first_state}
use Rattle.mk_exact.proofs.ExistOutcome.{outcome_exists}
use Rattle.mk_cash.proofs.Payments.{payment_by_rule_is_between}
use Rattle.mk_rules.specs.Refusals.{refusals}
use Rattle.mk_rules.specs.Answers.{IsSettling}
use Rattle.mk_rules.proofs.Unrefused.{none_applies, all_resolved}
use Rattle.mk_rules.proofs.Paying.{SettlingIs, settling_is}

one_paid : (network : List Variable) (H : List Entry) (m b : ℕ) (s : List ℕ) (user : ℕ × List ℕ)
    (payment : Payment) → IsPayment network H m b s user payment
    → IsWithinCash (factor H (user.0) s) b payment.paid
one_paid network H m b s user payment h = record {
  cash = h.covers.cash;
  is_cash = h.covers.is_cash;
  at_most = subst
      (λ (n : ℕ). n ≤ h.covers.cash) (sym h.low_end) h.covers.above;
}

-- the payments to users that are counted from n on
each_paid : (network : List Variable) (H : List Entry) (m b : ℕ) (s : List ℕ) (n : ℕ)
    (names : List (List ℕ)) (payments : List Payment)
    → AllZip (IsPayment network H m b s) (enumerate_from n names) payments
    → (k u : ℕ) → n + k ≡ u → k < length names → IsWithinCash (factor H u s) b (slice_index (paid_by payments) k)
each_paid network H m b s n [] payments h k u e inside = absurd (omega arith)
each_paid network H m b s n (name ∷ names) [] h k u e inside = absurd h
each_paid network H m b s n (name ∷ names) (payment ∷ payments) h zero u e inside =
    let same : n ≡ u = omega arith in
    subst (λ (v : ℕ). IsWithinCash (factor H v s) b payment.paid) same
    (one_paid network H m b s (n, name) payment h.0)
each_paid network H m b s n (name ∷ names) (payment ∷ payments) h (suc k) u e inside = each_paid
    network H m b s (n + 1) names payments h.1 k u (omega arith) (omega arith)

are_payments : (network : List Variable) (H : List Entry) (m b : ℕ) (s : List ℕ)
    (payments : List Payment)
    → AllZip (IsPayment network H m b s) (enumerate_from 0 (users H)) payments
    → ArePayments H b s (paid_by payments)
are_payments network H m b s payments h = record {
  one_each = length-map payments (λ (p : Payment). p.paid) ∙ AllZip-long (IsPayment network H m b s)
      (enumerate_from 0 (users H)) payments h ∙ length-enumerate_from 0 (users H);
  within = λ u inside. each_paid network H m b s 0 (users H) payments h u u (omega arith) inside;
}

-- payments within the cash of each user cost at most the bound
payments_cost : (market : Market) (H : List Entry) (s : List ℕ) (paid : List ℕ) → Stands market H
    → possible_states market.network H always ≡ s ∷ [] → ArePayments H market.points_per_bit s paid → CostsAtMost market H paid
payments_cost market H s paid stands one are = record {
  state = s;
  one_state = one;
  bounded = All-head Bounded s [] (subst (All Bounded) one (settlement_bounded market.network H market.points_per_bit stands.sound stands.proper)) paid are;
}
  where
    Bounded : List ℕ → Type 0
    Bounded t = (paid : List ℕ) → ArePayments H market.points_per_bit t paid → LossIsBounded market.network H market.points_per_bit t paid

-- the payments by rule are within the cash
rule_payments : (H : List Entry) (b : ℕ) (s : List ℕ)
    → ((u : ℕ) → IsCashBetween (factor H u s) b (payment_by_rule H b s u).0 (payment_by_rule H b s u).1)
    → ArePayments H b s (map (λ (p : ℕ × ℕ). p.0) (map (payment_by_rule H b s) (numbers_below (length (users H)))))
rule_payments H b s between =
    let all = map (payment_by_rule H b s) (numbers_below (length (users H))) in
    record {
      one_each = length-map all (λ (p : ℕ × ℕ). p.0) ∙ length-map (numbers_below (length (users H))) (payment_by_rule H b s)
          ∙ length-range_with_len 0 (length (users H));
      within = λ u inside.
          let cash = between u in
          record { cash = cash.cash; is_cash = cash.is_cash; at_most = rw (low_of u inside) cash.above };
    }
  where
    low_of : (u : ℕ) → u < length (users H)
        → slice_index (map (λ (p : ℕ × ℕ). p.0) (map (payment_by_rule H b s) (numbers_below (length (users H))))) u ≡ (payment_by_rule H b s u).0
    low_of u inside =
        let all = map (payment_by_rule H b s) (numbers_below (length (users H))) in
        let many : length all ≡ length (users H) = length-map (numbers_below (length (users H))) (payment_by_rule H b s) ∙ length-range_with_len 0 (length (users H)) in
        get_or-map (λ (p : ℕ × ℕ). p.0) all u (0, 0) 0 (omega arith)
        ∙ ap (λ (p : ℕ × ℕ). p.0) (get_or-map-range_with_len (payment_by_rule H b s) 0 (length (users H)) u u (0, 0) inside (omega arith))

-- a sum stands for what it sums
sum_costs : (market : Market) (H : List Entry) (paid : List ℕ) → CostsAtMost market H paid → CostsAtMost market H (sum paid ∷ [])
sum_costs market H paid costs =
    let same : sum (sum paid ∷ []) ≡ sum paid = omega arith in
    record { state = costs.state; one_state = costs.one_state; bounded = record { bound = rw same costs.bounded.bound } }

-- ---- the reply that settles

abbrev pub IsSettledReply : Reply → Type 0
IsSettledReply (Settled at payments) = ⊤
IsSettledReply (SettledAll at users total) = ⊤
IsSettledReply _ = ⊥

no_settlement : (reply known : Reply) → reply ≡ known → IsSettledReply reply → IsSettledReply known
no_settlement reply known e h = subst IsSettledReply e h

-- no other command is answered by a settlement
withdrawal_settles_not : (small idle : Type 0) (near : ℕ) (q : Fraction) (u : List ℕ) (bits n : ℕ)
    (reply : Reply) → IsWithdrawal small idle near q u bits n reply → IsSettledReply reply → ⊥
withdrawal_settles_not small idle near q u bits n reply (inl taken) h =
    no_settlement reply _ taken.1 h
withdrawal_settles_not small idle near q u bits n reply (inr short) h =
    no_settlement reply _ short.printed h

edit_settles_not : (network : List Variable) (H : List Entry) (u : ℕ) (asked : Asked) (X : ℕ) (reply : Reply) (o : Option Interval)
    → MatchOption o (IsJudgedAfresh network H u asked X reply) (λ limits. IsJudged network H u asked X limits reply) → IsSettledReply reply → ⊥
edit_settles_not network H u asked X reply None (inl trade) h = no_settlement reply _ trade.printed h
edit_settles_not network H u asked X reply None (inr beyond) h = no_settlement reply _ beyond.beyond.printed h
edit_settles_not network H u asked X reply (Some limits) (inl trade) h = no_settlement reply _ trade.1.printed h
edit_settles_not network H u asked X reply (Some limits) (inr beyond) h = no_settlement reply _ beyond.printed h

spread_settles_not : (network : List Variable) (H : List Entry) (u : ℕ) (spread : SpreadAsked) (Xs : List ℕ) (reply : Reply) (o : Option Intervals)
    → MatchOption o (IsSpreadJudgedAfresh network H u spread Xs reply) (λ intervals. IsSpreadJudged network H u spread Xs intervals reply) → IsSettledReply reply → ⊥
spread_settles_not network H u spread Xs reply None (inl trade) h = no_settlement reply _ trade.printed h
spread_settles_not network H u spread Xs reply None (inr outside) h = no_settlement reply _ outside.outside.printed h
spread_settles_not network H u spread Xs reply (Some intervals) (inl trade) h = no_settlement reply _ trade.1.printed h
spread_settles_not network H u spread Xs reply (Some intervals) (inr outside) h = no_settlement reply _ outside.printed h

module _ (market : Market) (H : List Entry) (quotes : Quotes) (reply : Reply) where
  settles_alone : (command : Command) → IsAnswer market H quotes command reply → IsSettledReply reply → command ≡ Settle
  settles_alone (User u) (inl e) s = absurd (no_settlement reply _ e s)
  settles_alone (User u) (inr e) s = absurd (no_settlement reply _ e s)
  settles_alone (Deposit u bits) h s = absurd (no_settlement reply _ h s)
  settles_alone (Withdraw u bits) h s =
      let least = value_of _ (least_gain market.network H (user_number H u) always) h in
      absurd (withdrawal_settles_not (IsSmall market.network H)
      (HoldsNoTrade H (user_number H u)) (sharpness market.max_trades)
      (factor_with H (user_number H u) least.0) u bits
      (revision H + 1) reply least.2 s)
  settles_alone (Price q) h s = absurd (no_settlement reply _ (value_of _ (question_named market.network q) h).2.printed s)
  settles_alone (Limits u q) h s = absurd (no_settlement reply _ (value_of _ (question_named market.network q) h).2.printed s)
  settles_alone (Edit u q X seen) h s =
      let judged = value_of _ (question_named market.network q) h in
      absurd (edit_settles_not market.network H (user_number H u) judged.0 X reply (current_limits (last_quote quotes (user_number H u)) judged.0 (revision H)) judged.2 s)
  settles_alone (Bounds u v condition) h s = absurd (no_settlement reply _ (value_of _ (spread_named market.network v condition.items) h).2.printed s)
  settles_alone (Spread u v condition to seen) h s =
      let judged = value_of _ (spread_named market.network v condition.items) h in
      absurd (spread_settles_not market.network H (user_number H u) judged.0 to.items reply
      (current_bounds (last_quote quotes (user_number H u)) judged.0 (revision H)) judged.2 s)
  settles_alone (Worst u) h s = absurd (no_settlement reply _ (value_of _ (least_gain market.network H (user_number H u) always) h).2.printed s)
  settles_alone (Paid u) h s = absurd (no_settlement reply _ h s)
  settles_alone (Resolve p) h s = absurd (no_settlement reply _ h s)
  settles_alone Settle h s = refl
  settles_alone Bound h s = absurd (no_settlement reply _ h.printed s)
  settles_alone (Prices v condition) h s =
      absurd (no_settlement reply _ (value_of _ (spread_named market.network v condition.items) h).2.printed s)
  settles_alone (Position u v condition) h s =
      absurd (no_settlement reply _ (value_of _ (spread_named market.network v condition.items) h).2.printed s)
  settles_alone Status h s = absurd (no_settlement reply _ h s)
  settles_alone (Add add) (inl (text, e)) s = absurd (no_settlement reply _ e s)
  settles_alone (Add add) (inr e) s = absurd (no_settlement reply _ e s)

  settling_costs : Stands market H → (o : Option Refusal) → first_refusal market H Settle ≡ o
      → MatchOption o (IsSettling market H reply) (λ why. reply ≡ Refused why) → PaysWithin market H reply
  settling_costs stands (Some why) is e = subst (PaysWithin market H) (sym e) tt
  settling_costs stands None none h = at (settling_is market H reply h)
    where
      at : SettlingIs market H reply → PaysWithin market H reply
      at (inl (few, listed)) = subst (PaysWithin market H) (sym listed.printed)
          (payments_cost market H listed.state (paid_by listed.payments) stands listed.one_state
          (are_payments market.network H market.max_trades market.points_per_bit listed.state
          listed.payments listed.paid))
      at (inr (many, e)) =
          let left = outcome_exists market.network H stands.legal.network stands.proper
          (all_resolved market.network H (none_applies (refusals market H Settle) none).1.0) in
          subst (PaysWithin market H) (sym e)
          (sum_costs market H (map (λ (p : ℕ × ℕ). p.0) (payments_by_rule market.network H market.points_per_bit))
          (payments_cost market H left.state _ stands left.one_state
          (subst (λ (t : List ℕ). ArePayments H market.points_per_bit left.state
          (map (λ (p : ℕ × ℕ). p.0) (map (payment_by_rule H market.points_per_bit t) (numbers_below (length (users H))))))
          (sym (ap first_state left.one_state))
          (rule_payments H market.points_per_bit left.state
          (λ u. payment_by_rule_is_between market.network H market.points_per_bit left.state u stands.proper stands.sound stands.legal.some_points left.one_state)))))

  -- a line that is answered by a settlement asks for one
  command_settles : (command : Command) (o : Option Refusal)
      → MatchOption o (IsAnswer market H quotes command reply) (λ why. reply ≡ Refused why) → IsSettledReply reply → command ≡ Settle
  command_settles command None h s = settles_alone command h s
  command_settles command (Some why) e s = absurd (no_settlement reply _ e s)

pub line_settles : (market : Market) (now : Standing) (line : Line) (reply : Reply)
    → IsAllowedFor market now line reply → IsSettledReply reply → line ≡ OfCommand Settle
line_settles market now (OfCommand command) reply h s =
    ap (λ (c : Command). OfCommand c) (command_settles market now.history now.quotes reply command (first_refusal market now.history command) h s)
line_settles market now NoCommand reply h s = absurd (no_settlement reply _ h s)
line_settles market now LongLine reply h s = absurd (no_settlement reply _ h s)

-- a reply that settles nothing pays nothing
pub either_way : (market : Market) (H : List Entry) (reply : Reply) → (IsSettledReply reply → PaysWithin market H reply) → PaysWithin market H reply
either_way market H (Settled at payments) h = h tt
either_way market H (SettledAll at users total) h = h tt
either_way market H (Joined u at) h = tt
either_way market H (Deposited u bits at) h = tt
either_way market H (Withdrawn u bits at) h = tt
either_way market H (Priced low high) h = tt
either_way market H (Limited limits at) h = tt
either_way market H (Traded hit miss at) h = tt
either_way market H (Bounded intervals at) h = tt
either_way market H (Spreaded factors at) h = tt
either_way market H (Worsted low high) h = tt
either_way market H (Resolved p at) h = tt
either_way market H (Risked low high) h = tt
either_way market H (Told intervals) h = tt
either_way market H (Positioned intervals) h = tt
either_way market H (Counted at users trades most moves more left all) h = tt
either_way market H (Added v at) h = tt
either_way market H (PaidOut payment) h = tt
either_way market H (Refused why) h = tt

pub settlement_keeps : (market : Market) (now : Standing) (line : Line) (reply : Reply) → Stands market now.history
    → IsAllowedFor market now line reply → PaysWithin market now.history reply
settlement_keeps market now line reply stands h = either_way market now.history reply
    (λ s.
    settling_costs market now.history now.quotes reply stands (first_refusal market now.history Settle) refl
    (subst (λ (l : Line). IsAllowedFor market now l reply) (line_settles market now line reply h s) h))
