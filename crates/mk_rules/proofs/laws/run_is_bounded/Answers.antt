use Rattle.mk_exact.specs.Market.{present}
use Rattle.mk_exact.proofs.Gains.{gains_bounded}
use Rattle.mk_rules.specs.Transcript.{opening}
use Rattle.mk_rules.specs.Standings.{Stands}
use Rattle.mk_rules.proofs.Keeps.{run_keeps, opening_present}
use Rattle.mk_rules.proofs.laws.run_is_bounded.Goals as goal

pub returns : goal.returns
returns c = λ market new lines replies is_market run.
    let here = present market new.history in
    let opened = opening_present market is_market in
    let stands : Stands here new.history = run_keeps market opening new lines replies opened run in
    gains_bounded here.network new.history stands.sound stands.proper
