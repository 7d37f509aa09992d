use Rattle.std.proofs.Common.{refl, arith}
use Rattle.mk_engine.specs.Meaning.{opening}
use Rattle.mk_engine_trials.proofs.engines.start.Goals as goal

-- an engine that was told nothing stands for the opening
pub returns : goal.returns
returns g c = record {
  meaning = opening c.args.file.now.net c.args.file.now.tree;
  stands = c.in_ok-engine.ensures c.args.file.now.net c.args.file.now.tree c.in_ok-plan.ensures;
  of_network = refl;
  of_tree = refl;
  few = omega arith;
}
