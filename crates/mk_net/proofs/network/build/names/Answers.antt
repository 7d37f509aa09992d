use Rattle.std.proofs.Common.{◌∙◌, arith}
use Rattle.mk_net.proofs.Build.{text_is_name, next_name}
use Rattle.mk_net.proofs.network.build.names.Goals as goal

pub name-requires : goal.name-requires
name-requires c = rw c.deref.ensures (text_is_name c.args.texts.now c.texts.text-index c.text-item.result c.requires.names (omega arith) c.text-item.is)

pub texts-preserved : goal.texts-preserved
texts-preserved c = c.in_ok-insert.ensures.keys
    ∙ next_name c.args.texts.now c.texts.text-index c.text-item.result c.texts.names.keys c.name.result c.requires.apart (omega arith) c.text-item.is
    c.texts.invariant (c.name.ensures ∙ c.deref.ensures)
