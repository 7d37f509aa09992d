use Rattle.std.proofs.Common.{List, subst, take, arith}
use Rattle.mk_net.specs.declared.words.Pair.{Pair}
use Rattle.mk_cell.specs.Least.{least}
use Rattle.mk_tree_engine.specs.Engines.{HasTree}
use Rattle.mk_user_engine.proofs.Over.{that_knows, taken_next}
use Rattle.mk_user_engine.proofs.engine.pass_known.Goals as goal

pub loop-k-preserved : goal.loop-k-preserved
loop-k-preserved c = λ m is begun.
    let known = c.args.narrow.now.known.items in let k = c.loop-k.k in
    subst (λ (ks : List Pair). HasTree least c.know.new.self (that_knows m ks)) (taken_next known k
    _ (omega (
      arith,
      c.loop-k-test.true,
      c.len-k-end.ensures,
      c.args.narrow.now.known.ok,
    )) c.index-in-loop-k.ensures)
    (c.know.ensures.stands (that_knows m (take k known)) (c.loop-k.invariant m is begun))
