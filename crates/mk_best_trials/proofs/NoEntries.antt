-- Before any entry the history is placed in every tree of the network.
use Rattle.std.proofs.Common.{◌≡◌, List, [], sym, subst, arith}
use Rattle.mk_net.specs.Network.{Variable, IsNetwork}
use Rattle.mk_tree.specs.Given.{GivenTree}
use Rattle.mk_exact.specs.History.{Entry}
use Rattle.mk_exact.proofs.Range.{empty_proper}
use Rattle.mk_best.specs.Chances.{IsPlaced}

pub none_placed : (network : List Variable) (tree : GivenTree) (H : List Entry) → IsNetwork network
    → H ≡ [] → IsPlaced network tree H
none_placed network tree H legal none =
    let placed : IsPlaced network tree [] = record {
      proper = empty_proper network legal;
      few_trades = omega arith;
      homes = tt;
    } in
    subst (λ (K : List Entry). IsPlaced network tree K) (sym none) placed
