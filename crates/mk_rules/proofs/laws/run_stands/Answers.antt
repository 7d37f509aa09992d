use Rattle.mk_rules.specs.Transcript.{opening}
use Rattle.mk_rules.proofs.Keeps.{run_keeps, opening_present}
use Rattle.mk_rules.proofs.laws.run_stands.Goals as goal

pub returns : goal.returns
returns c = λ market new lines replies is_market run.
    run_keeps market opening new lines replies (opening_present market is_market) run
