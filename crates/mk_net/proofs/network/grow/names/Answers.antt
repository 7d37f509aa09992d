use Rattle.std.proofs.Common.{refl, ◌∙◌, arith}
use Rattle.mk_net.proofs.Copied.{name_behind}
use Rattle.mk_net.proofs.network.grow.names.Goals as goal

pub names-preserved : goal.names-preserved
names-preserved c =
    let next = name_behind c.args.names.now c.names.name-index c.name-item.result
    c.name-item.result c.names.set.keys c.requires.apart (omega arith) c.name-item.is refl
    c.bytes.ensures.name c.names.invariant in
    (c.in_ok-insert.ensures.keys ∙ next.0, next.1)
