-- Engines that a kept market may have: it grows by each added question.
use Rattle.std.specs.Prelude.{List}
use Rattle.mk_net.specs.Network.{Variable}
use Rattle.mk_tree.specs.Given.{GivenTree}
use Rattle.mk_tree.specs.Checked.{IsTreeOf}

-- an engine suits every tree of every network
abbrev pub SuitsAll : (List Variable → GivenTree → Type 0) → Type 0
SuitsAll suits = (network : List Variable) (tree : GivenTree)
    → IsTreeOf network tree
    → suits network tree
