use Rattle.std.proofs.Common.{inl}
use Rattle.daggre.specs.Sampled.{sample_text}
use Rattle.daggre.proofs.Sampling.{sampled, adds_whole, adds_front}
use Rattle.daggre.proofs.sample.say_tally.Goals as goal

pub returns-in-Ok-clause-output : goal.returns-in-Ok-clause-output
returns-in-Ok-clause-output g c = adds_whole c.args.n c.args.tally.now
    (g.S.Sink.written c.args.out.now) (g.S.Sink.written c.write_tally.new.out)
    (sampled c.args.n c.args.tally.now c.requires) c.in-Ok.ensures.whole

pub returns-in-Err-clause-output : goal.returns-in-Err-clause-output
returns-in-Err-clause-output g c = adds_front c.args.n (sample_text c.args.n c.args.tally.now)
    (g.S.Sink.written c.args.out.now) (g.S.Sink.written c.write_tally.new.out)
    (inl (sampled c.args.n c.args.tally.now c.requires)) c.in-Err.ensures.front
