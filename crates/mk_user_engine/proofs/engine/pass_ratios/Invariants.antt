use Rattle.std.proofs.Common.{take}
use Rattle.mk_cell.specs.Least.{least}
use Rattle.mk_engine.specs.Meaning.{Meaning}
use Rattle.mk_tree_engine.specs.Engines.{HasTree}
use Rattle.mk_user_engine.specs.NarrowForm.{IsNarrow}
use Rattle.mk_user_engine.proofs.Over.{that_knows, that_has}
use Rattle.mk_user_engine.proofs.engine.pass_ratios.Given as goal

abbrev pub invariant-loop-placed : goal.invariant-loop-placed
invariant-loop-placed l = (m : Meaning) → IsNarrow l.narrow m
    → HasTree least l.fn.tree (that_knows m m.known)
    → HasTree least l.tree (that_has m (take l.placed-index l.narrow.trades.items))
