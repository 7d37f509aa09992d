use Rattle.std.proofs.Common.{inr}
use Rattle.mk_file.specs.File.{file_of}
use Rattle.daggre.proofs.Behind.{opened_behind, stops_still, written_or_short, never_usage}
use Rattle.daggre.proofs.Behind.{causes_behind}
use Rattle.daggre.proofs.asking.run_ask.Goals as goal

pub returns-in-Ok-clause-outcome : goal.returns-in-Ok-clause-outcome
returns-in-Ok-clause-outcome g c = λ file all told_file told_all.
    inr (opened_behind c.say_last-status.result c.in-Ok.market c.args.ask.now (file_of file) all
    (g.I.Inputs.commands c.run_market.new.inputs) (g.S.Sink.written c.args.out.now)
    (g.S.Sink.written c.run_market.new.out) (g.S.Sink.written c.say_last-status.new.out)
    (c.in-Ok.ensures.outcome file all told_file told_all) c.say_last-status.ensures.output)

pub returns-in-Ok-clause-refused : goal.returns-in-Ok-clause-refused
returns-in-Ok-clause-refused g c = λ file fault told_file given.
    absurd (c.in-Ok.ensures.refused file fault told_file given)

pub returns-in-Ok-clause-complete : goal.returns-in-Ok-clause-complete
returns-in-Ok-clause-complete g c = λ file all told_file told_all ok within steady_inputs
    steady_sink.
    written_or_short c.say_last-status.result c.in-Ok.market.market
    c.in-Ok.market.standing.history c.args.ask.now c.say_last-status.ensures.output.bytes
    (g.I.Inputs.faults c.run_market.new.inputs) (g.S.Sink.faults c.args.out.now)
    (g.S.Sink.faults c.run_market.new.out) (g.S.Sink.faults c.say_last-status.new.out)
    c.say_last-status.ensures.output.holds
    (c.say_last-status.ensures.causes (g.I.Inputs.faults c.run_market.new.inputs))
    c.in-Ok.ensures.causes.1 steady_sink

pub returns-in-Ok-clause-causes : goal.returns-in-Ok-clause-causes
returns-in-Ok-clause-causes g c =
    causes_behind c.say_last-status.result (g.I.Inputs.faults c.args.inputs.now)
    (g.I.Inputs.faults c.run_market.new.inputs) (g.I.Inputs.faults c.run_market.new.inputs)
    (g.S.Sink.faults c.args.out.now) (g.S.Sink.faults c.run_market.new.out)
    (g.S.Sink.faults c.say_last-status.new.out) c.in-Ok.ensures.causes
    (c.say_last-status.ensures.causes (g.I.Inputs.faults c.run_market.new.inputs))

pub returns-in-Ok-clause-not_usage : goal.returns-in-Ok-clause-not_usage
returns-in-Ok-clause-not_usage g c =
    never_usage c.say_last-status.result c.in-Ok.market.market
    c.in-Ok.market.standing.history c.args.ask.now c.say_last-status.ensures.output.bytes
    c.say_last-status.ensures.output.holds

pub returns-in-Err-clause-outcome : goal.returns-in-Err-clause-outcome
returns-in-Err-clause-outcome g c = λ file all told_file told_all.
    stops_still c.in-Err.status c.args.ask.now (file_of file) all
    (g.I.Inputs.commands c.run_market.new.inputs) (g.S.Sink.written c.args.out.now)
    (g.S.Sink.written c.run_market.new.out) c.in-Err.ensures.not_done
    (c.in-Err.ensures.outcome file all told_file told_all)
