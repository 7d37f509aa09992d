use Rattle.std.proofs.Common.{◌≡◌, List, [], take, drop}
use Rattle.mk_net.specs.Network.{Variable}
use Rattle.mk_exact.specs.History.{Entry}
use Rattle.mk_tree.specs.Given.{GivenTree}
use Rattle.mk_engine.specs.Meaning.{Meaning}
use Rattle.mk_beliefs.specs.Meanings.{weights_of}
use Rattle.mk_answers.specs.Open.{IsOpen}
use Rattle.mk_answers.specs.Results.{first_impossible}
use Rattle.mk_answers.proofs.Searching.{after}
use Rattle.mk_answers.proofs.possible.first_impossible.Given as goal

abbrev pub invariant-loop-place : goal.invariant-loop-place
invariant-loop-place g l = record {
  kept : (m : Meaning) → g.P.Engine.stands_for l.fn.prices m → g.P.Engine.stands_for l.prices m;
  front : l.held ≡ take l.place l.event;
  behind : (network : List Variable) (tree : GivenTree) (H : List Entry) → g.P.Engine.stands_for l.fn.prices (weights_of network tree H) → IsOpen network tree H
      → first_impossible network H [] l.event ≡ after l.place (first_impossible network H l.held (drop l.place l.event));
}
