use Rattle.mk_best.proofs.best_state.engine_with.Goals as goal

pub returns-clause-stands : goal.returns-clause-stands
returns-clause-stands g c =
    c.know_all.ensures c.args.net.now c.args.history.now.history
    c.in_ok-engine.ensures.stands
