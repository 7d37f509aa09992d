use Rattle.std.proofs.Common.{All, subst, arith}
use Rattle.std.proofs.lemmas.List.{take_all}
use Rattle.std.proofs.lemmas.List.Elements.{All-more}
use Rattle.mk_names.specs.Name.{IsName}
use Rattle.mk_told.proofs.wording.read_names.Goals as goal

pub loop-name-preserved : goal.loop-name-preserved
loop-name-preserved c =
    All-more IsName c.args.names.now c.loop-name.name-index c.name-item.result (omega arith)
    c.loop-name.invariant (subst IsName c.name-item.is c.bytes.ensures.name)

pub returns : goal.returns
returns c = subst (All IsName)
    (take_all c.loop-name.name-index c.args.names.now (omega arith)) c.loop-name.invariant
