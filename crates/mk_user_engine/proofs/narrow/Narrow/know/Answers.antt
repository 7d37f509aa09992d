use Rattle.std.proofs.Common.{◌≡◌, false, arith}
use Rattle.mk_table.specs.Tables.{contradicts_pair}
use Rattle.mk_user_engine.specs.Kept.{AreKept}
use Rattle.mk_user_engine.proofs.Growing.{known_push}
use Rattle.mk_user_engine.proofs.narrow.Narrow.know.Goals as goal

pub returns-clause-taken : goal.returns-clause-taken
returns-clause-taken c = λ m is of_net at_home taken.
    let old = c.args.self.now in let p = c.args.pair in
    let known = c.push_reserved.ensures in let homes = c.push_reserved-2.ensures in
    let none : contradicts_pair old.known.items p ≡ false = cc in
    let room = is.room in record {
      grouped = rw (known.items, homes.items) (known_push old.groups old.trades.items
          old.known.items old.homes.items m p c.args.at of_net at_home none is.grouped);
      kept = λ e. absurd {A = AreKept old.groups.list.items old.trades.items
          c.push_reserved.new.self.items old.kept.items} (cc);
      room = record {
        kept = room.kept;
        trades = room.trades;
        known = omega (arith, room.known, known.capacity);
        homes = omega (arith, room.homes, homes.capacity);
      };
    }
