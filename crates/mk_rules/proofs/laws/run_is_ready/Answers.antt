use Rattle.mk_rules.specs.Transcript.{opening}
use Rattle.mk_rules.proofs.Ready.{run_keeps_ready, opening_is_ready}
use Rattle.mk_rules.proofs.laws.run_is_ready.Goals as goal

pub returns : goal.returns
returns c = λ market new lines replies is_market run. run_keeps_ready market opening new lines replies (opening_is_ready market is_market) run
