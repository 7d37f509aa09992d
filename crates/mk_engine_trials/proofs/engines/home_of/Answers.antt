use Rattle.std.proofs.Common.{sym, ◌∙◌}
use Rattle.mk_tree.proofs.Held.{home_is_held}
use Rattle.mk_engine_trials.proofs.engines.home_of.Goals as goal

pub returns-clause-held : goal.returns-clause-held
returns-clause-held g c =
    let e = sym c.home.ensures.home ∙ c.expect.ensures in
    home_is_held c.args.tree.now c.expect.result c.args.event.now e
