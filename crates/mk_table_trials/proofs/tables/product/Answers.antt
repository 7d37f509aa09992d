use Rattle.std.proofs.Common.{arith, lit<, sym, subst, ◌∙◌}
use Rattle.mk_table.specs.Tables.{TableOf}
use Rattle.mk_table.specs.Lists.{table_in}
use Rattle.mk_table_trials.proofs.Examples.{IsPlain, room_of, plain_product, plain_at, fresh_weather, other_after, weather_after}
use Rattle.mk_table_trials.proofs.tables.product.Goals as goal

pub returns : goal.returns
returns g c =
    let made = c.in_ok-tables.tables in let ones = c.in_ok-tables.ensures in
    let first = c.times_rows.ensures in let second = c.times_rows-2.ensures in
    let message = c.times_message.ensures in
    let weighed = c.times_rows.new.self in let both = c.times_rows-2.new.self in
    let last = c.times_message.new.self in
    let scopes = c.args.weather.now.scopes.value in let are = c.args.weather.now.scopes_are in
    let all_kept = other_after made weighed 1 first.only 0 (λ e. omega (arith, e)) in
    let rain_kept = other_after weighed both 0 second.only 1 (λ e. omega (arith, e)) in
    let rain_left = other_after both last 0 message.only 1 (λ e. omega (arith, e)) in
    let rain_ones = plain_at made scopes are ones.one_each ones.ones 1 (lit< tt) in
    let all_ones : IsPlain (table_in weighed 0) 0 =
    subst (λ (t : TableOf). IsPlain t 0) (sym all_kept)
    (plain_at made scopes are ones.one_each ones.ones 0 (lit< tt)) in
    let rain_rows : IsPlain (table_in weighed 1) 1 = record {
      numbers = _;
      has = first.numbers _ _ rain_ones.has;
      no_shift = first.shift ∙ rain_ones.no_shift;
    } in
    let rain : IsPlain (table_in both 1) 1 = subst (λ (t : TableOf). IsPlain t 1) (sym rain_kept) rain_rows in
    let all : IsPlain (table_in both 0) 1 = record {
      numbers = _;
      has = second.numbers _ _ all_ones.has;
      no_shift = second.shift ∙ all_ones.no_shift;
    } in
    let all_times : IsPlain (table_in last 0) 3 =
    plain_product all rain _ (message.numbers _ _ _ _ all.has rain.has) message.shift in
    record {
      weather =
          weather_after both last 0 message.only message.scope
          (weather_after weighed both 0 second.only second.scope
          (weather_after made weighed 1 first.only first.scope
          (fresh_weather made scopes are ones.one_each ones.ones)));
      all = room_of (table_in last 0) 3 all_times (lit< tt);
      rain =
          room_of (table_in last 1) 1 (subst (λ (t : TableOf). IsPlain t 1) (sym rain_left) rain)
          (lit< tt);
    }
