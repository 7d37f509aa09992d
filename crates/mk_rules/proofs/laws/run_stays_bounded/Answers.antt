use Rattle.mk_rules.specs.Transcript.{opening}
use Rattle.mk_rules.proofs.Bounds.{limits_of}
use Rattle.mk_rules.proofs.Follows.{run_keeps_bounded, opening_is_bounded}
use Rattle.mk_rules.proofs.laws.run_stays_bounded.Goals as goal

pub returns : goal.returns
returns c = λ market new lines replies is_market text run.
    run_keeps_bounded market opening new lines replies (limits_of market is_market) text
    (opening_is_bounded market) run
