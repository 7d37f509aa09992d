use Rattle.std.proofs.Common.{◌+◌, ◌*◌, ◌<◌, List, length, refl, sym, ap, subst, ◌∙◌, arith}
use Rattle.mk_net.specs.Network.{Variable, IsNetwork}
use Rattle.mk_sums.specs.There.{share_there}
use Rattle.mk_scope.specs.Cells.{values_at}
use Rattle.mk_table.specs.Tables.{HasNumbers}
use Rattle.mk_table.specs.Lists.{table_in}
use Rattle.mk_engine.specs.Meaning.{RowsOf}
use Rattle.mk_joint.specs.inner.Joints.{whole_scope, joint_there}
use Rattle.mk_joint.proofs.Tables.{sized_in, sized_parents_in, has_room, factor_more, no_ratio_more}
use Rattle.mk_joint.proofs.Tables.{still_one}
use Rattle.mk_joint.proofs.joint.JointEngineEngine.weigh.Goals as goal

pub times_rows-requires-clause-family : goal.times_rows-requires-clause-family
times_rows-requires-clause-family g c =
    let a = c.requires in let had = a.stands.joint in
    sized_in c.args.net.now (table_in c.args.self.now.tables 0).scope
    (had.scope ∙ ap whole_scope a.of_network) c.args.variable a.in_range

pub times_rows-requires-clause-parents : goal.times_rows-requires-clause-parents
times_rows-requires-clause-parents g c =
    let a = c.requires in let had = a.stands.joint in
    sized_parents_in c.args.net.now (table_in c.args.self.now.tables 0).scope
    (subst IsNetwork a.of_network had.legal) (had.scope ∙ ap whole_scope a.of_network)
    c.args.variable a.in_range

pub times_rows-requires-clause-room : goal.times_rows-requires-clause-room
times_rows-requires-clause-room g c =
    let a = c.requires in let table = table_in c.args.self.now.tables 0 in
    has_room table c.args.self.now.factors a.meaning a.stands.joint 1 (omega arith)

pub overflow_add-self : goal.overflow_add-self
overflow_add-self g c = let a = c.requires in omega (arith, a.stands.joint.counted, a.room)

pub returns : goal.returns
returns g c = λ m h e.
    let a = c.requires in let x = c.args.variable in let done = c.times_rows.ensures in
    let old = table_in c.args.self.now.tables 0 in
    let new = table_in c.times_rows.new.self 0 in
    let within : x < length m.network = subst (λ (n : List Variable). x < length n) (sym e) a.in_range in
    record {
      one = still_one c.args.self.now.tables c.times_rows.new.self new h.one done.only;
      joint =
          factor_more old new c.args.self.now.factors m (RowsOf x) h.joint within
          (omega (arith, a.stands.joint.counted, a.room)) done.scope (omega (arith, done.shift))
          (subst (λ (n : List Variable). HasNumbers new
          (λ k. joint_there m (values_at old.scope k) * share_there n x (values_at old.scope k))
          (length m.factors + 1)) (sym e)
          (done.numbers (λ k. joint_there m (values_at old.scope k)) (length m.factors) h.joint.numbers))
          (no_ratio_more m (RowsOf x) old new done.scope refl done.shift done.touched);
    }
