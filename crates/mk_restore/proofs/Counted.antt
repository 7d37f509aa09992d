-- Each change that is taken back appends an entry.
use Rattle.std.proofs.Common.{◌≡◌, ◌+◌, [], ◌∷◌, ◌++◌, length, Option, Some, None}
use Rattle.std.proofs.Common.{ap, ◌∙◌, arith, length-append}
use Rattle.std.specs.Prelude.{option_to_list, option_map}
use Rattle.mk_net.specs.Firsts.{first_of}
use Rattle.mk_net.specs.Asked.{Asked, TradeRatio}
use Rattle.mk_exact.specs.History.{Entry, Join, Deposit as Deposits, Withdraw as Withdraws, Trade}
use Rattle.mk_exact.specs.History.{Resolve as Resolves, Settle as Settles, Add as Adds}
use Rattle.mk_exact.specs.Market.{present}
use Rattle.mk_exact.specs.Sides.{ratio_in}
use Rattle.mk_spread.specs.Spreads.{SpreadAsked, spread_ratio}
use Rattle.mk_command.specs.declared.command.Command.{Command}
use Rattle.mk_command.specs.declared.command.Command.TheVariants.{User, Deposit, Withdraw, Price}
use Rattle.mk_command.specs.declared.command.Command.TheVariants.{Limits, Edit, Bounds, Spread}
use Rattle.mk_command.specs.declared.command.Command.TheVariants.{Worst, Resolve, Settle, Bound}
use Rattle.mk_command.specs.declared.command.Command.TheVariants.{Prices, Position, Status, Add}
use Rattle.mk_rules.specs.Refusals.{user_number}
use Rattle.mk_rules.specs.Answers.{entry_of, next_history}
use Rattle.mk_rules.proofs.Spreadable.{spread_exists}
use Rattle.mk_rules.specs.Additions.{addition_of}
use Rattle.mk_rules.proofs.Unrefused.{none_applies, question_exists, pair_known}
use Rattle.mk_restore.specs.Restoring.{Agrees, refusals_again}
use Rattle.mk_restore.specs.Laws.{FitAppends, EachCounts}
use Rattle.mk_command.specs.declared.command.Command.TheVariants.{Paid}
use Rattle.mk_restore.proofs.Settled.{SettledIs, settled_is}
use Rattle.std.proofs.Common.{inl, inr}
use Rattle.std.proofs.Common.{map}
use Rattle.mk_exact.specs.ByRule.{payments_by_rule}
use Rattle.mk_rules.specs.Answers.{ends_of}

pub fit_appends : FitAppends
fit_appends market H command reply fit = at command fit.unrefused fit.agrees
  where
    at : (command : Command) → first_of (refusals_again market H command) ≡ None
        → Agrees market H command reply → (e : Entry) × (entry_of market H command reply ≡ Some e)
    at (User u) none e = (Join u, ap (entry_of market H (User u)) e)
    at (Deposit u bits) none e =
        (Deposits (user_number H u) bits, ap (entry_of market H (Deposit u bits)) e)
    at (Withdraw u bits) none e =
        (Withdraws (user_number H u) bits, ap (entry_of market H (Withdraw u bits)) e)
    at (Price q) none h = absurd h
    at (Limits u q) none h = absurd h
    at (Edit u q X seen) none trade =
        let network = market.network in
        let asked = question_exists network q
        (none_applies (refusals_again market H (Edit u q X seen)) none).1.1.0 in
        let ratio : Asked → TradeRatio = λ asked. ratio_in network asked trade.hit trade.miss in
        let entry : Asked → Entry = λ asked. Trade (user_number H u) (ratio asked) in
        let known = ap (entry_of market H (Edit u q X seen)) trade.printed in
        (entry asked.0, known ∙ ap (option_map entry) asked.1)
    at (Bounds u v condition) none h = absurd h
    at (Spread u v condition to seen) none trade =
        let spread = spread_exists market.network v condition.items
        (none_applies (refusals_again market H (Spread u v condition to seen)) none).1.1.0 in
        let ratio : SpreadAsked → TradeRatio = λ spread. spread_ratio spread trade.factors.items in
        let entry : SpreadAsked → Entry = λ spread. Trade (user_number H u) (ratio spread) in
        let known = ap (entry_of market H (Spread u v condition to seen)) trade.printed in
        (entry spread.0, known ∙ ap (option_map entry) spread.1)
    at (Worst u) none h = absurd h
    at (Paid u) none h = absurd h
    at (Resolve p) none e =
        let named = pair_known market.network p
        (none_applies (refusals_again market H (Resolve p)) none).1.0 in
        (Resolves named.0, ap (entry_of market H (Resolve p)) e ∙ ap (option_map Resolves) named.1)
    at Settle none settlement = settles (settled_is market H reply settlement)
      where
        settles : SettledIs market H reply → (e : Entry) × (entry_of market H Settle reply ≡ Some e)
        settles (inl listed) = (Settles (map ends_of listed.payments), ap (entry_of market H Settle) listed.printed)
        settles (inr e) = (
          Settles (payments_by_rule market.network H market.points_per_bit),
          ap (entry_of market H Settle) e,
        )
    at Bound none h = absurd h
    at (Prices v condition) none h = absurd h
    at (Position u v condition) none h = absurd h
    at Status none h = absurd h
    at (Add add) none agrees =
        (Adds (addition_of market.network add), ap (entry_of market H (Add add)) agrees.1)

pub each_counts : EachCounts
each_counts market old new [] h = omega (arith, ap length h)
each_counts market old new (change ∷ changes) h =
    let here = present market old in
    let middle = next_history here old (change.0) (change.1) in
    let appended = fit_appends here old (change.0) (change.1) h.0 in
    let later = each_counts market middle new changes h.1 in
    let one_more : length middle ≡ length old + 1 =
    ap (λ (o : Option Entry). length (old ++ option_to_list o)) appended.1 ∙ length-append old
    (appended.0 ∷ []) in
    omega arith
