use Rattle.mk_best_trials.proofs.NoEntries.{none_placed}
use Rattle.mk_best_trials.proofs.chances.expect.Goals as goal

pub chance-requires-clause-history : goal.chance-requires-clause-history
chance-requires-clause-history g c =
    none_placed c.args.file.now.net c.args.file.now.tree _ c.expect_own.ensures.network
    c.in_ok-journal.ensures
