use Rattle.std.proofs.Common.{take}
use Rattle.mk_cell.specs.Least.{least}
use Rattle.mk_engine.specs.Meaning.{Meaning}
use Rattle.mk_tree_engine.specs.Engines.{HasTree}
use Rattle.mk_user_engine.specs.NarrowForm.{IsNarrow}
use Rattle.mk_user_engine.specs.Users.{Begun}
use Rattle.mk_user_engine.proofs.Over.{that_knows}
use Rattle.mk_user_engine.proofs.engine.pass_known.Given as goal

abbrev pub invariant-loop-k : goal.invariant-loop-k
invariant-loop-k l = (m : Meaning) → IsNarrow l.narrow m → Begun l.fn.tree m
    → HasTree least l.tree (that_knows m (take l.k l.narrow.known.items))
