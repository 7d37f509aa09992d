use Rattle.std.proofs.Common.{◌≡◌, true, length, sym, subst}
use Rattle.mk_scope.specs.Scopes.{ScopeOf, has_variable}
use Rattle.mk_scope.specs.Cells.{values_at}
use Rattle.mk_table.specs.Lists.{table_in}
use Rattle.mk_joint.specs.inner.Joints.{joint_there}
use Rattle.mk_joint.proofs.Cells.{has_all}
use Rattle.mk_states.proofs.Alike.{pair_same}
use Rattle.mk_joint.proofs.Tables.{same_sizes, known_more, still_one}
use Rattle.mk_joint.proofs.joint.JointEngineEngine.know.Goals as goal

pub restrict-requires-clause-variable : goal.restrict-requires-clause-variable
restrict-requires-clause-variable g c =
    let a = c.requires.range in let x = c.args.pair.variable in
    subst (λ (s : ScopeOf). has_variable s x ≡ true) (sym a.stands.joint.scope)
    (has_all a.meaning.network x a.in_range.variable)

pub returns : goal.returns
returns g c = λ m h.
    let a = c.requires.range in let done = c.restrict.ensures in
    let old = table_in c.args.self.now.tables 0 in
    let new = table_in c.restrict.new.self 0 in
    let same = same_sizes a.meaning.network m.network old.scope a.stands.joint.scope h.joint.scope in
    record {
      one = still_one c.args.self.now.tables c.restrict.new.self new h.one done.only;
      joint =
          known_more old new c.args.self.now.factors m c.args.pair h.joint
          (pair_same a.meaning.network m.network same c.args.pair a.in_range)
          done.scope done.shift
          (done.numbers (λ k. joint_there m (values_at old.scope k)) (length m.factors) h.joint.numbers)
          done.touched;
    }
