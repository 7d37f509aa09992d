use Rattle.std.proofs.Common.{arith, lit<, sym, subst}
use Rattle.mk_table.specs.Tables.{TableOf}
use Rattle.mk_table.specs.Lists.{table_in}
use Rattle.mk_table_trials.proofs.Examples.{IsPlain, room_of, plain_product, plain_at, fresh_weather, other_after, weather_after}
use Rattle.mk_table_trials.proofs.tables.ones_times_ones.Goals as goal

pub returns : goal.returns
returns g c =
    let made = c.in_ok-tables.tables in let last = c.times_message.new.self in
    let ones = c.in_ok-tables.ensures in let message = c.times_message.ensures in
    let scopes = c.args.weather.now.scopes.value in let are = c.args.weather.now.scopes_are in
    let all = plain_at made scopes are ones.one_each ones.ones 0 (lit< tt) in
    let rain = plain_at made scopes are ones.one_each ones.ones 1 (lit< tt) in
    let rain_left = other_after made last 0 message.only 1 (λ e. omega (arith, e)) in
    let all_times : IsPlain (table_in last 0) 1 =
    plain_product all rain _ (message.numbers _ _ _ _ all.has rain.has) message.shift in
    record {
      weather =
          weather_after made last 0 message.only message.scope
          (fresh_weather made scopes are ones.one_each ones.ones);
      all = room_of (table_in last 0) 1 all_times (lit< tt);
      rain =
          room_of (table_in last 1) 0 (subst (λ (t : TableOf). IsPlain t 0) (sym rain_left) rain)
          (lit< tt);
    }
