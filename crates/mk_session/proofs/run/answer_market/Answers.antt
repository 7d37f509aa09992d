use Rattle.mk_session.proofs.Present.{at_first}
use Rattle.mk_session.proofs.Answering.{can_begin}
use Rattle.mk_session.proofs.Handing.{handed}
use Rattle.mk_session.proofs.Serving.{opened_when_served, run_to_when_from, causes_of_no_disk}
use Rattle.mk_session.proofs.run.answer_market.Goals as goal

pub returns-clause-outcome : goal.returns-clause-outcome
returns-clause-outcome g c = λ all told.
    opened_when_served c.serve_from.result c.args.market.now.market c.args.market.now.standing all
    (g.I.Inputs.commands c.serve_from.new.inputs) (g.S.Sink.written c.args.out.now)
    (g.S.Sink.written c.serve_from.new.out) c.requires.opening
    (c.serve_from.ensures.served c.args.market.now.market all
    (at_first c.args.market.now c.requires.opening) told
    (can_begin c.args.market.now.market c.args.market.now.standing c.requires.is_market
    c.requires.opening))

pub returns-clause-done : goal.returns-clause-done
returns-clause-done g c = λ done all told.
    let market = c.args.market.now in
    let here = at_first market c.requires.opening in
    handed c.serve_from.new.market market.market all
    (g.I.Inputs.commands c.serve_from.new.inputs) (g.S.Sink.written c.args.out.now)
    (g.S.Sink.written c.serve_from.new.out) (c.serve_from.ensures.market market.market here)
    (run_to_when_from market.market market.standing c.serve_from.new.market.standing
    all (g.I.Inputs.commands c.serve_from.new.inputs) (g.S.Sink.written c.args.out.now)
    (g.S.Sink.written c.serve_from.new.out) c.requires.opening
    (c.serve_from.ensures.done done market.market all here told
    (can_begin market.market market.standing c.requires.is_market c.requires.opening)))

pub returns-clause-causes : goal.returns-clause-causes
returns-clause-causes g c = causes_of_no_disk c.serve_from.result
    (g.I.Inputs.faults c.args.inputs.now) (g.I.Inputs.faults c.serve_from.new.inputs)
    (g.S.Sink.faults c.args.out.now) (g.S.Sink.faults c.serve_from.new.out)
    c.serve_from.ensures.ends c.serve_from.ensures.causes
