use Rattle.std.proofs.Common.{◌≡◌, false, subst, arith}
use Rattle.std.proofs.lemmas.List.{take_all}
use Rattle.mk_user_engine.specs.Names.{is_named}
use Rattle.mk_user_engine.proofs.Coded.{value_first, value_none}
use Rattle.mk_user_engine.proofs.names.value_in.Goals as goal

pub returns-then-named-variable : goal.returns-then-named-variable
returns-then-named-variable c =
    value_first c.args.names.now c.loop-named.named-index _ c.args.cell c.args.variable
    c.loop-named-test.true c.loop-named.invariant c.if-named-variable.true

pub returns : goal.returns
returns c =
    value_none c.args.names.now c.args.cell c.args.variable
    (subst (λ ns. is_named ns c.args.variable ≡ false) (take_all c.loop-named.named-index
    c.args.names.now (omega (arith, c.loop-named-test.false))) c.loop-named.invariant)
