-- In a ready standing every line has an allowed reply.
use Rattle.std.proofs.Common.{◌≡◌, ℕ, ◌+◌, ◌<◌, ◌≤◌, ◌⊎◌, inl, inr, true, false, List, [], ◌∷◌, Option, Some, None, IsSomeAnd, MatchOption, length, refl, sym, subst}
use Rattle.std.specs.Prelude.{⊤}
use Rattle.std.specs.List.{AllZip, enumerate_from}
use Rattle.arrayvec.specs.ArrayVec.{ArrayVec}
use Rattle.mk_net.specs.declared.words.QuestionText.{QuestionText}
use Rattle.mk_net.specs.Events.{speaks_of, AreApart}
use Rattle.mk_net.specs.Network.{Variable}
use Rattle.mk_net.specs.Asked.{Asked}
use Rattle.mk_states.specs.InitialWeight.{initial_total}
use Rattle.mk_exact.specs.Risk.{CoversBound}
use Rattle.mk_states.specs.Events.{holds, always, with_target, without_target}
use Rattle.mk_exact.specs.History.{Entry, users, resolutions, revision}
use Rattle.mk_exact.specs.Weight.{IsSmall, possible_states}
use Rattle.mk_exact.specs.Factors.{Fraction, HoldsNoTrade, factor, factor_with, least_gain}
use Rattle.mk_exact.specs.Limits.{Inside}
use Rattle.mk_exact.specs.Sides.{AreRightLimits}
use Rattle.mk_net.specs.Bounds.{sharpness}
use Rattle.mk_exact.specs.Accepted.{Covers, IsMost}
use Rattle.mk_exact.specs.Market.{Market, present}
use Rattle.mk_exact.specs.Proper.{IsProper}
use Rattle.mk_exact.proofs.Coming.{state_of}
use Rattle.mk_exact.specs.Existing.{IsSafeFactor, CanBeAsked, CanMove, HasFairPair}
use Rattle.mk_exact.proofs.Sharp.{sharp_enough}
use Rattle.mk_exact.proofs.ExistNumbers.{cash_is_covered, cash_in, withdrawal_is_judged, most_in}
use Rattle.mk_exact.proofs.ExistLimits.{limits_judge}
use Rattle.mk_exact.proofs.ExistMarkets.{price_exists, least_gain_exists, right_limits_exist}
use Rattle.mk_exact.proofs.ExistOutcome.{outcome_exists}
use Rattle.mk_exact.proofs.Risk.{bound_exists}
use Rattle.mk_spread.specs.Spreads.{SpreadAsked}
use Rattle.mk_spread.specs.Bounds.{Intervals, InsideEach}
use Rattle.mk_spread.specs.Markets.{AreRightBoundsOf, HasFairList, CanBeSpread}
use Rattle.mk_spread.proofs.Exist.{right_bounds_exist, bounds_judge}
use Rattle.mk_command.specs.declared.command.Command.{Command}
use Rattle.mk_command.specs.declared.command.Command.TheVariants.{User, Deposit, Withdraw, Price, Limits, Edit, Bounds, Spread, Worst, Resolve, Settle, Bound}
use Rattle.mk_command.specs.declared.command.Command.TheVariants.{Prices, Position, Status, Add}
use Rattle.mk_reply.specs.declared.refusal.Refusal.{Refusal}
use Rattle.mk_reply.specs.declared.refusal.Refusal.TheVariants.{Syntax, Long, Beyond, Outside, Short, Memory}
use Rattle.mk_reply.specs.declared.payments.Payment.{Payment}
use Rattle.mk_reply.specs.declared.reply.Reply.{Reply}
use Rattle.mk_reply.specs.declared.reply.Reply.TheVariants.{Joined, Deposited, Withdrawn, Price as Priced, Limits as Limited, Traded, Bounded, Spreaded, Worst as Worsted, Resolved, Settled, Bound as Risked, Refused}
use Rattle.mk_reply.specs.declared.reply.Reply.TheVariants.{Prices as Told, Position as Positioned}
use Rattle.mk_reply.specs.Refusals.{given_in}
use Rattle.mk_spread.proofs.Telling.{prices_exist, position_exists}
use Rattle.mk_rules.specs.Told.{ArePrices, IsPosition, status_of}
use Rattle.mk_rules.specs.Refusals.{pairs_of, names_in, question_named, spread_named, user_number, unknown, twice, resolved, impossible_together, decided, refusals, first_refusal}
use Rattle.mk_rules.specs.Quotes.{Interval, last_quote, current_limits, current_bounds}
use Rattle.mk_rules.specs.Answers.{IsTrade, IsJudged, IsJudgedAfresh, IsSpreadTrade, IsSpreadJudged, IsSpreadJudgedAfresh, IsOutside, IsWithdrawal, IsPrice, IsLimits, IsBounds, IsWorst, IsPayment, IsSettlement, IsAnswer}
use Rattle.mk_rules.specs.Transcript.{Standing, Line, OfCommand, NoCommand, LongLine, after}
use Rattle.mk_rules.specs.Standings.{IsMarket, IsReady}
use Rattle.mk_rules.specs.Laws.{HasReply, HasRun}
use Rattle.mk_rules.proofs.Unrefused.{none_applies, question_exists, question_known, target_named}
use Rattle.mk_rules.proofs.Unrefused.{not_resolved, all_resolved}
use Rattle.mk_rules.proofs.Coming.{some_where, both_sides}
use Rattle.mk_rules.proofs.Apart.{condition_apart, target_apart}
use Rattle.mk_rules.proofs.Spreadable.{spread_exists, can_be_spread, can_be_told}
use Rattle.mk_rules.proofs.Quoted.{current_right, current_bounds_right}
use Rattle.mk_rules.proofs.Ready.{step_keeps_ready}
use Rattle.std.proofs.lemmas.Bool.{cases_lt}
use Rattle.mk_net.specs.Bounds.{max_payments}
use Rattle.mk_exact.specs.History.{payment_to}
use Rattle.mk_command.specs.declared.command.Command.TheVariants.{Paid}
use Rattle.mk_reply.specs.declared.reply.Reply.TheVariants.{Paid as PaidOut}
use Rattle.mk_rules.specs.Answers.{IsSettling, settled_by_rule, told_payment}
use Rattle.std.proofs.Common.{arith}

-- a question that meets no refusal can be asked
pub can_be_asked : (network : List Variable) (H : List Entry) (q : QuestionText) (asked : Asked) → IsProper network H → question_named network q ≡ Some asked → unknown network (pairs_of q) ≡ None
    → twice (names_in (pairs_of q)) ≡ None → resolved network H q.target.variable ≡ None → impossible_together network H q.condition.items ≡ None → CanBeAsked network H asked
can_be_asked network H q asked proper named known once unsettled alive =
    let parts = target_named network q asked named in
    record {
      in_order = record {
        in_range = question_known network q asked known named;
        apart = subst AreApart (sym parts.1) (condition_apart network q once);
        target_apart = subst (λ (ps : List _). speaks_of ps asked.target.variable ≡ false) (sym parts.1) (target_apart network q asked.target parts.0 once);
        unresolved = not_resolved network H q.target asked.target parts.0 unsettled;
      };
      some_state = subst (λ (ps : List _). 1 ≤ length (possible_states network H (holds ps))) (sym parts.1) (some_where network H proper q.condition.items alive);
    }

-- and moved, where neither side is without a state
pub can_move : (network : List Variable) (H : List Entry) (q : QuestionText) (asked : Asked) → CanBeAsked network H asked → question_named network q ≡ Some asked → decided network H q ≡ None → CanMove network H asked
can_move network H q asked can named free =
    let sides = both_sides network H q asked named free in
    record { can_ask = can; some_hit = state_of network H (with_target asked) (sides.0); some_miss = state_of network H (without_target asked) (sides.1) }

module _ (market : Market) (now : Standing) (is_market : IsMarket market) (ready : IsReady market now) where
  abbrev network : List Variable
  network = market.network

  abbrev H : List Entry
  H = now.history

  abbrev HasAnswer : Command → Type 0
  HasAnswer command = (reply : Reply) × IsAnswer market now.history now.quotes command reply

  of_named : {X : Type 0} (o : Option X) (P : X → Reply → Type 0) (x : X) → o ≡ Some x → (reply : Reply) × P x reply → (reply : Reply) × IsSomeAnd o (λ x. P x reply)
  of_named o P x named (reply, h) = (reply, subst (λ (o : Option _). IsSomeAnd o (λ x. P x reply)) (sym named) h)

  withdrawal : (idle : Type 0) (u : List ℕ) (bits : ℕ) (q : Fraction) → IsSafeFactor q
      → (reply : Reply)
      × IsWithdrawal (IsSmall network H) idle (sharpness market.max_trades) q u bits
      (revision H + 1) reply
  withdrawal idle u bits q safe = at (withdrawal_is_judged (sharpness market.max_trades) q bits
      (sharp_enough market.max_trades) safe)
    where
      at : (Covers q bits
          ⊎ ((most : ℕ) × (most < bits) × IsMost ⊤ ⊤ (sharpness market.max_trades) q most))
          → (reply : Reply)
          × IsWithdrawal (IsSmall network H) idle (sharpness market.max_trades) q u bits
          (revision H + 1) reply
      at (inl covers) = (Withdrawn u bits (revision H + 1), inl (covers, refl))
      at (inr short) = (
        Refused (Short short.0),
        inr
            (record {
              most = short.0;
              less = short.1;
              is_most = most_in (IsSmall network H) idle (sharpness market.max_trades) q
                  short.0 short.2;
              printed = refl;
            }),
      )

  of_least : (u : ℕ) (P : Fraction → Reply → Type 0) → ((q : Fraction) → IsSafeFactor q → (reply : Reply) × P q reply)
      → (reply : Reply) × IsSomeAnd (least_gain network H u always) (λ g. P (factor_with H u g) reply)
  of_least u P each =
      let has = least_gain_exists network H u is_market.network ready.stands.proper in
      let reply = each (factor_with H u has.least) (has.safe ready.stands.sound) in
      (reply.0, subst (λ (o : Option ℕ). IsSomeAnd o (λ g. P (factor_with H u g) reply.0)) (sym has.is_least) reply.1)

  trade_at : (u : ℕ) (asked : Asked) (X : ℕ) → HasFairPair network H u asked X → (reply : Reply) × IsTrade network H u asked X reply
  trade_at u asked X (hit, miss, fair) = (Traded hit miss (revision H + 1), record { hit = hit; miss = miss; printed = refl; fair = fair })

  -- by limits that were quoted
  judged : (u : ℕ) (asked : Asked) (X : ℕ) (limits : Interval) → AreRightLimits network H u asked limits → (reply : Reply) × IsJudged network H u asked X limits reply
  judged u asked X limits right = at (limits_judge network H u asked limits X right)
    where
      at : ((Inside limits X × HasFairPair network H u asked X) ⊎ (¬ Inside limits X)) → (reply : Reply) × IsJudged network H u asked X limits reply
      at (inl (inside, pair)) = let trade = trade_at u asked X pair in (trade.0, inl (inside, trade.1))
      at (inr outside) = (Refused (Beyond limits), inr (record { outside = outside; printed = refl }))

  -- by limits made for this reply
  afresh : (u : ℕ) (asked : Asked) (X : ℕ) (limits : Interval) (reply : Reply) → AreRightLimits network H u asked limits
      → IsJudged network H u asked X limits reply → IsJudgedAfresh network H u asked X reply
  afresh u asked X limits reply right (inl (inside, trade)) = inl trade
  afresh u asked X limits reply right (inr beyond) = inr (record { limits = limits; right = right; beyond = beyond })

  judged_afresh : (u : ℕ) (asked : Asked) (X : ℕ) → CanMove network H asked → (reply : Reply) × IsJudgedAfresh network H u asked X reply
  judged_afresh u asked X can =
      let limits = right_limits_exist network H u asked is_market.network ready.stands.proper can in
      let reply = judged u asked X limits.0 limits.1 in
      (reply.0, afresh u asked X limits.0 reply.0 limits.1 reply.1)

  edit_answer : (u : ℕ) (asked : Asked) (X : ℕ) → CanMove network H asked → (o : Option Interval) → current_limits (last_quote now.quotes u) asked (revision H) ≡ o
      → (reply : Reply) × MatchOption o (IsJudgedAfresh network H u asked X reply) (λ limits. IsJudged network H u asked X limits reply)
  edit_answer u asked X can None e = judged_afresh u asked X can
  edit_answer u asked X can (Some limits) e = judged u asked X limits (current_right market H u asked limits (last_quote now.quotes u) (ready.quotes_right u) e)

  spread_at : (u : ℕ) (spread : SpreadAsked) (Xs : List ℕ) → HasFairList network H u spread Xs → (reply : Reply) × IsSpreadTrade network H u spread Xs reply
  spread_at u spread Xs (Fs, fair) =
      (Spreaded (record { items = Fs }) (revision H + 1), record { factors = record { items = Fs }; printed = refl; fair = fair })

  -- bounds as a reply holds them
  boxed : (intervals : Intervals) → (box : Option (ArrayVec (ℕ × ℕ))) × (given_in box ≡ intervals)
  boxed None = (None, refl)
  boxed (Some given) = (Some (record { items = given }), refl)

  outside_at : (intervals : Intervals) (Xs : List ℕ) → ¬ InsideEach intervals Xs → (reply : Reply) × IsOutside intervals Xs reply
  outside_at intervals Xs outside =
      let box = boxed intervals in
      (Refused (Outside box.0), record { outside = outside; box = box.0; given = box.1; printed = refl })

  bounds_at : (u : ℕ) (spread : SpreadAsked) → CanBeSpread network H spread → (reply : Reply) × IsBounds network H u spread reply
  bounds_at u spread can =
      let bounds = right_bounds_exist network H u spread is_market.network ready.stands.proper can in
      let box = boxed bounds.0 in
      (Bounded box.0 (revision H), record { box = box.0; printed = refl; right = subst (AreRightBoundsOf network H u spread) (sym box.1) bounds.1 })

  -- by bounds that were quoted
  spread_judged : (u : ℕ) (spread : SpreadAsked) (Xs : List ℕ) (intervals : Intervals) → AreRightBoundsOf network H u spread intervals
      → (reply : Reply) × IsSpreadJudged network H u spread Xs intervals reply
  spread_judged u spread Xs intervals right = at (bounds_judge network H u spread intervals Xs right)
    where
      at : ((InsideEach intervals Xs × HasFairList network H u spread Xs) ⊎ (¬ InsideEach intervals Xs)) → (reply : Reply) × IsSpreadJudged network H u spread Xs intervals reply
      at (inl (inside, list)) = let trade = spread_at u spread Xs list in (trade.0, inl (inside, trade.1))
      at (inr outside) = let refused = outside_at intervals Xs outside in (refused.0, inr refused.1)

  -- by bounds made for this reply
  made_afresh : (u : ℕ) (spread : SpreadAsked) (Xs : List ℕ) (intervals : Intervals) (reply : Reply) → AreRightBoundsOf network H u spread intervals
      → IsSpreadJudged network H u spread Xs intervals reply → IsSpreadJudgedAfresh network H u spread Xs reply
  made_afresh u spread Xs intervals reply right (inl (inside, trade)) = inl trade
  made_afresh u spread Xs intervals reply right (inr outside) = inr (record { intervals = intervals; right = right; outside = outside })

  spread_afresh : (u : ℕ) (spread : SpreadAsked) (Xs : List ℕ) → CanBeSpread network H spread → (reply : Reply) × IsSpreadJudgedAfresh network H u spread Xs reply
  spread_afresh u spread Xs can =
      let bounds = right_bounds_exist network H u spread is_market.network ready.stands.proper can in
      let reply = spread_judged u spread Xs bounds.0 bounds.1 in
      (reply.0, made_afresh u spread Xs bounds.0 reply.0 bounds.1 reply.1)

  spread_answer : (u : ℕ) (spread : SpreadAsked) (Xs : List ℕ) → CanBeSpread network H spread → (o : Option Intervals) → current_bounds (last_quote now.quotes u) spread (revision H) ≡ o
      → (reply : Reply) × MatchOption o (IsSpreadJudgedAfresh network H u spread Xs reply) (λ intervals. IsSpreadJudged network H u spread Xs intervals reply)
  spread_answer u spread Xs can None e = spread_afresh u spread Xs can
  spread_answer u spread Xs can (Some intervals) e =
      spread_judged u spread Xs intervals (current_bounds_right market H u spread intervals (last_quote now.quotes u) (ready.quotes_right u) e)

  -- a payment for each user who is counted from n on
  payments_from : (s : List ℕ) → ((u : ℕ) → IsSafeFactor (factor H u s)) → (n : ℕ) (names : List (List ℕ))
      → (payments : List Payment)
      × AllZip (IsPayment network H market.max_trades market.points_per_bit s)
      (enumerate_from n names) payments
  payments_from s safe n [] = ([], tt)
  payments_from s safe n (name ∷ names) =
      let cash = cash_is_covered (sharpness market.max_trades) (factor H n s) market.points_per_bit
      (sharp_enough market.max_trades) (safe n) in
      let later = payments_from s safe (n + 1) names in
      let covers =
      cash_in (IsSmall network H) (HoldsNoTrade H n) (sharpness market.max_trades)
      (factor H n s)
      market.points_per_bit cash.0 cash.1 cash.2 in (
        record { user = name; low = cash.0; high = cash.1; paid = cash.0 } ∷ later.0,
        (record { name = refl; covers = covers; low_end = refl }, later.1),
      )

  settlement : ((v : ℕ) → v < length network → speaks_of (resolutions H) v ≡ true) → (reply : Reply) × IsSettling market H reply
  settlement each =
      let outcome = outcome_exists network H is_market.network ready.stands.proper each in
      let paid = payments_from outcome.state (outcome.safe ready.stands.sound) 0 (users H) in
      let listed : IsSettlement network H market.max_trades market.points_per_bit
      (Settled (revision H + 1) (paid.0)) =
      record { state = outcome.state; one_state = outcome.one_state; payments = paid.0; printed = refl; paid = paid.1 } in
      by_number (Settled (revision H + 1) (paid.0)) listed (cases_lt max_payments (length (users H)))
    where
      by_number : (reply : Reply)
          → IsSettlement network H market.max_trades market.points_per_bit reply
          → (max_payments < length (users H)) ⊎ (length (users H) ≤ max_payments) → (reply : Reply) × IsSettling market H reply
      by_number reply listed (inl many) =
          (settled_by_rule market H, record { listed = λ few. absurd (omega arith); summed = λ more. refl })
      by_number reply listed (inr few) = (reply, record { listed = λ fewer. listed; summed = λ many. absurd (omega arith) })

  answered : (command : Command) → first_refusal market H command ≡ None → HasAnswer command
  answered (User u) none = (Joined u (revision H + 1), inl refl)
  answered (Deposit u bits) none = (Deposited u bits (revision H + 1), refl)
  answered (Withdraw u bits) none = of_least (user_number H u)
      (λ q reply. IsWithdrawal (IsSmall network H) (HoldsNoTrade H (user_number H u))
      (sharpness market.max_trades) q u bits
      (revision H + 1) reply)
      (withdrawal (HoldsNoTrade H (user_number H u)) u bits)
  answered (Price q) none =
      let refused = none_applies (refusals market H (Price q)) none in
      let asked = question_exists network q refused.1.0 in
      let price = price_exists network H (sharpness market.max_trades) asked.0
      (sharp_enough market.max_trades) is_market.network ready.stands.proper
      (can_be_asked network H q asked.0 ready.stands.proper asked.1 refused.1.0
      refused.1.1.0 refused.1.1.1.0 refused.1.1.1.1.1.1.0) in
      of_named (question_named network q) (IsPrice network H market.max_trades) asked.0 asked.1 (
        Priced price.low price.high,
        record { low = price.low; high = price.high; printed = refl; covers = price.covers },
      )
  answered (Limits u q) none =
      let refused = none_applies (refusals market H (Limits u q)) none in
      let asked = question_exists network q refused.1.1.0 in
      let limits = right_limits_exist network H (user_number H u) asked.0 is_market.network ready.stands.proper
      (can_move network H q asked.0 (can_be_asked network H q asked.0 ready.stands.proper asked.1 refused.1.1.0 refused.1.1.1.0 refused.1.1.1.1.0 refused.1.1.1.1.1.1.1.0) asked.1 refused.1.1.1.1.1.1.1.1.0) in
      of_named (question_named network q) (IsLimits network H (user_number H u)) asked.0 asked.1 (Limited limits.0 (revision H), record { limits = limits.0; printed = refl; right = limits.1 })
  answered (Edit u q X seen) none =
      let refused = none_applies (refusals market H (Edit u q X seen)) none in
      let asked = question_exists network q refused.1.1.0 in
      of_named (question_named network q) (λ asked reply. MatchOption (current_limits (last_quote now.quotes (user_number H u)) asked (revision H))
      (IsJudgedAfresh network H (user_number H u) asked X reply) (λ limits. IsJudged network H (user_number H u) asked X limits reply)) asked.0 asked.1
      (edit_answer (user_number H u) asked.0 X
      (can_move network H q asked.0 (can_be_asked network H q asked.0 ready.stands.proper asked.1 refused.1.1.0 refused.1.1.1.0 refused.1.1.1.1.1.0 refused.1.1.1.1.1.1.1.1.1.1.0) asked.1 refused.1.1.1.1.1.1.1.1.1.1.1.0)
      (current_limits (last_quote now.quotes (user_number H u)) asked.0 (revision H)) refl)
  answered (Bounds u v condition) none =
      let refused = none_applies (refusals market H (Bounds u v condition)) none in
      let spread = spread_exists network v condition.items refused.1.1.0 in
      of_named (spread_named network v condition.items) (IsBounds network H (user_number H u)) spread.0 spread.1
      (bounds_at (user_number H u) spread.0
      (can_be_spread network H v condition.items spread.0 ready.stands.proper spread.1 refused.1.1.1.1.0 refused.1.1.1.1.1.0 refused.1.1.1.1.1.1.1.1.0 refused.1.1.1.1.1.1.1.1.1.0))
  answered (Spread u v condition to seen) none =
      let refused = none_applies (refusals market H (Spread u v condition to seen)) none in
      let spread = spread_exists network v condition.items refused.1.1.0 in
      of_named (spread_named network v condition.items) (λ spread reply. MatchOption (current_bounds (last_quote now.quotes (user_number H u)) spread (revision H))
      (IsSpreadJudgedAfresh network H (user_number H u) spread to.items reply) (λ intervals. IsSpreadJudged network H (user_number H u) spread to.items intervals reply)) spread.0 spread.1
      (spread_answer (user_number H u) spread.0 to.items
      (can_be_spread network H v condition.items spread.0 ready.stands.proper spread.1 refused.1.1.1.1.0 refused.1.1.1.1.1.1.0 refused.1.1.1.1.1.1.1.1.1.1.1.1.1.0 refused.1.1.1.1.1.1.1.1.1.1.1.1.1.1.0)
      (current_bounds (last_quote now.quotes (user_number H u)) spread.0 (revision H)) refl)
  answered (Worst u) none = of_least (user_number H u)
      (λ q reply. IsWorst (IsSmall network H) (HoldsNoTrade H (user_number H u))
      (sharpness market.max_trades) q
      market.points_per_bit reply) (λ q safe.
      let cash = cash_is_covered (sharpness market.max_trades) q market.points_per_bit
      (sharp_enough market.max_trades) safe in
      let covers =
      cash_in (IsSmall network H) (HoldsNoTrade H (user_number H u))
      (sharpness market.max_trades) q
      market.points_per_bit cash.0 cash.1 cash.2 in (
        Worsted cash.0 cash.1,
        record {
          low = cash.0;
          high = cash.1;
          printed = refl;
          covers = covers;
        },
      ))
  answered (Paid u) none = (PaidOut (told_payment u (payment_to H (user_number H u))), refl)
  answered (Resolve p) none = (Resolved p (revision H + 1), refl)
  answered Settle none = settlement (all_resolved network H (none_applies (refusals market H Settle) none).1.0)
  answered Bound none =
      let bound = bound_exists network H market.points_per_bit is_market.network ready.stands.proper in (
        Risked bound.low bound.high,
        record {
          low = bound.low;
          high = bound.high;
          printed = refl;
          covers = subst (λ (o : Option ℕ). IsSomeAnd o (λ least. CoversBound (initial_total network) least market.points_per_bit bound.low bound.high)) (sym bound.is_least) bound.covers;
        },
      )
  answered (Prices v condition) none =
      let refused = none_applies (refusals market H (Prices v condition)) none in
      let spread = spread_exists network v condition.items refused.1.0 in
      let told = can_be_told network H v condition.items spread.0 ready.stands.proper spread.1
      refused.1.1.1.0 refused.1.1.1.1.0 refused.1.1.1.1.1.1.1.0 in
      let prices =
      prices_exist network H market.max_trades spread.0 is_market.network ready.stands.proper
      told in
      let intervals : ArrayVec (ℕ × ℕ) = record { items = prices.0 } in
      of_named (spread_named network v condition.items) (ArePrices network H market.max_trades)
      spread.0 spread.1
      (Told intervals, record { intervals = intervals; printed = refl; covers = prices.1 })
  answered (Position u v condition) none =
      let refused = none_applies (refusals market H (Position u v condition)) none in
      let spread = spread_exists network v condition.items refused.1.1.0 in
      let n = user_number H u in
      let found = position_exists network H market.max_trades n market.points_per_bit spread.0
      ready.stands.sound in
      let intervals : ArrayVec (Option (ℕ × ℕ)) = record { items = found.0 } in
      of_named (spread_named network v condition.items)
      (IsPosition network H market.max_trades n market.points_per_bit) spread.0 spread.1
      (Positioned intervals, record { intervals = intervals; printed = refl; covers = found.1 })
  answered Status none = (status_of market H, refl)
  answered (Add add) none = (Refused Memory, inr refl)

  of_command : (command : Command) → HasReply market now (OfCommand command)
  of_command command = at (first_refusal market H command) refl
    where
      at : (o : Option Refusal) → first_refusal market H command ≡ o
          → (reply : Reply) × MatchOption o (IsAnswer market now.history now.quotes command reply) (λ why. reply ≡ Refused why)
      at None e = answered command e
      at (Some why) e = (Refused why, refl)

pub always_answered : (market : Market) (now : Standing) (line : Line) → IsMarket market → IsReady market now → HasReply market now line
always_answered market now (OfCommand command) is_market ready = of_command market now is_market ready command
always_answered market now NoCommand is_market ready = (Refused Syntax, refl)
always_answered market now LongLine is_market ready = (Refused Long, refl)

pub runs_exist : (market : Market) (lines : List Line) (old : Standing)
    → IsReady (present market old.history) old → HasRun market old lines
runs_exist market [] old ready = record { replies = []; new = old; run = refl }
runs_exist market (line ∷ lines) old ready =
    let here = present market old.history in
    let reply = always_answered here old line ready.stands.legal ready in
    let next = step_keeps_ready market old line reply.0 ready reply.1 in
    let later = runs_exist market lines (after here old line reply.0) next in
    record { replies = reply.0 ∷ later.replies; new = later.new; run = (reply.1, later.run) }
