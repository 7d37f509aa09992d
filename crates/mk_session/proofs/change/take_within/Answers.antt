use Rattle.std.proofs.Common.{◌∙◌}
use Rattle.mk_session.proofs.Keeping.{taken_or_left}
use Rattle.mk_session.proofs.Telling.{passed}
use Rattle.mk_session.proofs.change.take_within.Goals as goal

pub returns : goal.returns
returns g c = record {
  ready = c.take.ensures.ready;
  cause = c.take.ensures.cause;
  taken = λ begun name market first least all since.
      let held = since.held in
      taken_or_left c.take.result (g.J.Keeper.holds c.args.keeper.now c.args.disk.now name market)
      (g.J.Keeper.holds c.take.new.self c.take.new.disk name market)
      (g.J.Keeper.passes begun c.args.disk.now name market)
      (g.J.Keeper.passes begun c.take.new.disk name market)
      (g.J.Keeper.leaves c.take.new.disk name market) first least all _ _
      (c.as_slice.ensures.value ∙ c.put_record.ensures)
      (g.met.J.Keeper.fewer_are_left c.take.new.disk name market) since
      (c.take.ensures.taken name market held.kept held.waiting held.held)
      (g.met.J.Keeper.last_is_left c.args.disk.now c.take.new.disk name market _ _
      (c.take.ensures.any_moment name market held.kept held.waiting held.held))
      (passed g.J.Keeper.holds g.met.J.Keeper.then_passes g.met.J.Keeper.fewer_pass
      c.take.ensures.any_moment begun name market first least all _ since);
}
