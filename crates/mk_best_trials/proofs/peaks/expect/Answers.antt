use Rattle.mk_best_trials.proofs.NoEntries.{none_placed}
use Rattle.mk_best_trials.proofs.peaks.expect.Goals as goal

pub best-requires-clause-history : goal.best-requires-clause-history
best-requires-clause-history g c =
    none_placed c.args.file.now.net c.args.file.now.tree _ c.expect_own.ensures.network
    c.in_ok-journal.ensures
