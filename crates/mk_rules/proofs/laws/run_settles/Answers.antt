use Rattle.mk_rules.specs.Transcript.{opening}
use Rattle.mk_rules.proofs.Keeps.{opening_present}
use Rattle.mk_rules.proofs.Settling.{run_settles}
use Rattle.mk_rules.proofs.laws.run_settles.Goals as goal

pub returns : goal.returns
returns c = λ market new lines replies is_market run.
    run_settles market opening new lines replies (opening_present market is_market) run
