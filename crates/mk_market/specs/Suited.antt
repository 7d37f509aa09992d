-- Engines that suit a market with one question more.
use Rattle.std.specs.Prelude.{◌≡◌, List, None}
use Rattle.mk_net.specs.Network.{Variable}
use Rattle.mk_addition.specs.declared.add.AddText.{AddText}
use Rattle.mk_addition.specs.Adds.{IsAddText}
use Rattle.mk_command.specs.declared.command.Command.{Command}
use Rattle.mk_command.specs.declared.command.Command.TheVariants.{Add}
use Rattle.mk_exact.specs.Market.{Market}
use Rattle.mk_rules.specs.Additions.{longer_network}
use Rattle.mk_rules.specs.Refusals.{first_refusal}
use Rattle.mk_tree.specs.Given.{GivenTree}
use Rattle.mk_tree.specs.Checked.{IsTreeOf}
use Rattle.mk_market.specs.Trading.{Trading}

-- an engine suits each tree of the network that a question leaves
abbrev pub SuitsLonger : (List Variable → GivenTree → Type 0) → Market → AddText → Type 0
SuitsLonger suits market add = (tree : GivenTree)
    → IsTreeOf (longer_network market.network add) tree
    → suits (longer_network market.network add) tree

-- an engine suits the market after a command: a question that the command adds, and that nothing
-- refuses, is the one thing that asks for it
abbrev pub SuitsNext : {Own : Type 0} → (List Variable → GivenTree → Type 0) → Trading Own → Command
    → Type 0
SuitsNext suits now command = (add : AddText) → command ≡ Add add → IsAddText add
    → first_refusal now.market now.standing.history (Add add) ≡ None
    → SuitsLonger suits now.market add
