use Rattle.std.proofs.Common.{◌≤◌, length, sym, arith}
use Rattle.mk_history.specs.Entries.{change_of}
use Rattle.mk_replay.proofs.Each.{read_at, own_taken, none_taken, no_user, past_end}
use Rattle.mk_replay.proofs.holdings.take_by_each.Goals as goal

pub take_own-requires : goal.take_own-requires
take_own-requires g c =
    let a = c.requires in let u = c.in-Some.user in let item = c.in-Some-get_mut.ensures.item in
    record {
      holding = a.holding u;
      holds = a.hold u _ (read_at c.args.all.now.items u _ item.3.0 item.1);
      of_tree = a.of_tree u;
      takes = a.takes u;
      room = a.room u;
    }

pub returns-in-Some-get_mut-clause-held : goal.returns-in-Some-get_mut-clause-held
returns-in-Some-get_mut-clause-held g c = λ holding hold room.
    let u = c.in-Some.user in let item = c.in-Some-get_mut.ensures.item in
    let items = c.args.all.now.items in
    own_taken g.A.Engine.stands_for holding (change_of c.args.entry.now) u items _
    (sym c.in-Some.ensures) hold
    (c.take_own.ensures (holding u) (hold u _ (read_at items u _ item.3.0 item.1)) (room u))

pub returns-in_default-get_mut-clause-held : goal.returns-in_default-get_mut-clause-held
returns-in_default-get_mut-clause-held g c = λ holding hold room.
    let items = c.args.all.now.items in let missed = c.in_default-get_mut.ensures.item in
    let past : length items ≤ c.in-Some.user = omega (arith, missed) in
    none_taken g.A.Engine.stands_for holding (change_of c.args.entry.now) items
    (past_end _ _ _ past c.in-Some.ensures) hold

pub returns-in_default-clause-held : goal.returns-in_default-clause-held
returns-in_default-clause-held g c = λ holding hold room.
    none_taken g.A.Engine.stands_for holding (change_of c.args.entry.now) c.args.all.now.items
    (λ u within. no_user _ c.in_default.ensures u) hold
