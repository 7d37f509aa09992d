use Rattle.std.proofs.Common.{length, arith}
use Rattle.mk_net.specs.Trades.{trade_ratio}
use Rattle.mk_scope.specs.Cells.{values_at}
use Rattle.mk_table.specs.Lists.{table_in}
use Rattle.mk_engine.specs.Meaning.{RatioOf}
use Rattle.mk_joint.specs.inner.Joints.{joint_there}
use Rattle.mk_states.proofs.Alike.{ratio_same}
use Rattle.mk_joint.proofs.Tables.{same_sizes, has_event, has_one_each, pairs_of_ratio}
use Rattle.mk_joint.proofs.Tables.{has_room, factor_more, ratio_more, still_one}
use Rattle.mk_joint.proofs.joint.JointEngineEngine.multiply.Goals as goal

pub times_ratio-requires-clause-event : goal.times_ratio-requires-clause-event
times_ratio-requires-clause-event g c =
    let a = c.requires.range in let had = a.stands.joint in let ratio = trade_ratio c.args.ratio.now in
    has_event a.meaning.network (table_in c.args.self.now.tables 0).scope had.scope _
    (pairs_of_ratio a.meaning.network had.legal ratio a.in_range)

pub times_ratio-requires-clause-one_each : goal.times_ratio-requires-clause-one_each
times_ratio-requires-clause-one_each g c =
    let a = c.requires.range in
    has_one_each a.meaning.network (table_in c.args.self.now.tables 0).scope a.stands.joint.scope
    (trade_ratio c.args.ratio.now) a.in_range

pub times_ratio-requires-clause-room : goal.times_ratio-requires-clause-room
times_ratio-requires-clause-room g c =
    let a = c.requires.range in let table = table_in c.args.self.now.tables 0 in
    has_room table c.args.self.now.factors a.meaning a.stands.joint 1 (omega arith)

pub overflow_add-self : goal.overflow_add-self
overflow_add-self g c = let a = c.requires.range in omega (arith, a.stands.joint.counted, a.room)

pub returns : goal.returns
returns g c = λ m h.
    let a = c.requires.range in let had = a.stands.joint in let done = c.times_ratio.ensures in
    let old = table_in c.args.self.now.tables 0 in
    let new = table_in c.times_ratio.new.self 0 in
    let ratio = trade_ratio c.args.ratio.now in
    let same = same_sizes a.meaning.network m.network old.scope had.scope h.joint.scope in
    record {
      one = still_one c.args.self.now.tables c.times_ratio.new.self new h.one done.only;
      joint =
          factor_more old new c.args.self.now.factors m (RatioOf ratio) h.joint
          (ratio_same a.meaning.network m.network same ratio a.in_range)
          (omega (arith, had.counted, a.room)) done.scope (omega (arith, done.shift))
          (done.numbers (λ k. joint_there m (values_at old.scope k)) (length m.factors) h.joint.numbers)
          (ratio_more m ratio old new done.scope done.shift done.touched);
    }
