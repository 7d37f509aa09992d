use Rattle.std.proofs.Common.{◌≡◌, true, arith}
use Rattle.mk_net.specs.Trades.{trade_ratio}
use Rattle.mk_user_engine.specs.declared.narrow.PlacedRatio.{PlacedRatio}
use Rattle.mk_user_engine.specs.Kept.{AreKept}
use Rattle.mk_user_engine.proofs.Naming.{ratio_size}
use Rattle.mk_user_engine.proofs.Growing.{regrouped, grouped_push}
use Rattle.mk_user_engine.proofs.narrow.Narrow.multiply.Goals as goal

pub gather_ratio-requires : goal.gather_ratio-requires
gather_ratio-requires c =
    let a = c.requires in let can = a.1 in let stands = can.stands in let is = stands.grouped in (
      (a.0).network,
      is.groups,
      ratio_size (a.0).network is.legal (trade_ratio c.args.ratio.now) can.of_network,
      can.sized,
    )

pub returns-then-not-gather_ratio-clause-left : goal.returns-then-not-gather_ratio-clause-left
returns-then-not-gather_ratio-clause-left c = λ m can left.
    let stands = can.stands in let is = stands.grouped in let old = c.args.self.now in
    let room = stands.room in
    let made = c.gather_ratio.ensures in record {
      grouped = regrouped old.groups c.gather_ratio.new.self old.trades.items old.known.items
          old.homes.items m made.together
          (made.grown m.network is.groups (ratio_size m.network is.legal
          (trade_ratio c.args.ratio.now) can.of_network) can.sized) is;
      kept = λ e. absurd {A = AreKept c.gather_ratio.new.self.list.items old.trades.items
          old.known.items old.kept.items} (cc);
      room = record {
        kept = room.kept;
        trades = room.trades;
        known = room.known;
        homes = room.homes;
      };
    }

pub returns-clause-taken : goal.returns-clause-taken
returns-clause-taken c = λ m can taken.
    let stands = can.stands in let is = stands.grouped in let old = c.args.self.now in
    let r = trade_ratio c.args.ratio.now in let room = stands.room in
    let made = c.gather_ratio.ensures in let new = c.gather_ratio.new.self in
    let t : PlacedRatio = record { home = c.args.at; ratio = c.copy_of.result } in
    let pushed = c.push_reserved.ensures in
    let yes : c.gather_ratio.result ≡ true = c.if-not-gather_ratio.false in
    let between = regrouped old.groups new old.trades.items old.known.items old.homes.items m
    made.together
    (made.grown m.network is.groups (ratio_size m.network is.legal r can.of_network) can.sized) is
    in record {
      grouped = rw pushed.items
          (grouped_push new old.trades.items old.known.items old.homes.items m t r
          c.copy_of.ensures can.home_is can.of_network (made.gathered yes)
          (omega (arith, c.if-len-ge-MAX_TRADES.false, c.len.ensures, old.trades.ok)) between);
      kept = λ e. absurd {A = AreKept new.list.items c.push_reserved.new.self.items
          old.known.items old.kept.items} (cc);
      room = record {
        kept = room.kept;
        trades = omega (arith, room.trades, pushed.capacity);
        known = room.known;
        homes = room.homes;
      };
    }
