use Rattle.std.proofs.Common.{arith, get_or}
use Rattle.mk_net.specs.Network.{sizes}
use Rattle.mk_net.proofs.Choices.{times_sixteen}
use Rattle.mk_net.proofs.Networks.{few_values}
use Rattle.mk_admission.proofs.AddedRows.{lists_next}
use Rattle.mk_admission.proofs.refusing_rows.lists.Goals as goal

pub loop-variable-preserved : goal.loop-variable-preserved
loop-variable-preserved c =
    let net = c.args.net.now in let vars = c.args.variables.now in
    let k = c.loop-variable.variable-index in
    let known = c.requires.known k 0 (omega arith) in (
      lists_next (sizes net) vars k c.loop-variable.lists c.values.result (omega arith)
          c.values.ensures c.loop-variable.invariant.0,
      times_sixteen c.loop-variable.lists c.values.result k c.loop-variable.invariant.1
          (rw c.values.ensures
          (few_values net (get_or vars k 0) c.variables.ensures.network known)),
    )
