use Rattle.std.proofs.Common.{sym, ap, ◌∙◌, arith}
use Rattle.mk_user_engine.proofs.Joining.{none_next, names_at}
use Rattle.mk_user_engine.specs.declared.names.Named.{Named}
use Rattle.std.proofs.Common.{List}
use Rattle.mk_user_engine.specs.Names.{is_named}
use Rattle.mk_user_engine.specs.declared.group.Group.{Group}
use Rattle.mk_user_engine.proofs.groups.Groups.naming.Goals as goal

pub loop-place-preserved : goal.loop-place-preserved
loop-place-preserved c =
    none_next c.args.self.now.list.items c.loop-place.place c.args.variable c.loop-place.invariant
    (names_at c.args.self.now.list.items c.loop-place.place c.index.result.now c.args.variable
    (omega (arith, c.loop-place-test.true, c.len-place-end.ensures))
    ∙ ap (λ (g : Group). is_named g.names.items c.args.variable) (sym c.index.ensures)
    ∙ ap (λ (ns : List Named). is_named ns c.args.variable) (sym c.deref.ensures.0)
    ∙ sym c.is_named.ensures ∙ c.if-is_named.false)
