use Rattle.std.proofs.Common.{List, ap, ◌∙◌, arith}
use Rattle.std.proofs.lemmas.List.{take_all}
use Rattle.mk_exact.specs.History.{Entry}
use Rattle.mk_exact.specs.Weight.{weight}
use Rattle.mk_walk.specs.Walked.{capped}
use Rattle.mk_history.specs.Entries.{change_of}
use Rattle.mk_small.proofs.Walk.{more_weight}
use Rattle.mk_small.proofs.small.weight_of.Goals as goal

pub loop-number-preserved : goal.loop-number-preserved
loop-number-preserved c =
    more_weight c.args.net.now c.args.state.now c.args.history.now.history c.loop-number.number
    (change_of c.entry-entry.result) c.loop-number.weight c.times.result
    c.saturating_mul-weight.result
    c.entry-entry.ensures.next c.loop-number.invariant c.times.ensures
    c.saturating_mul-weight.ensures

pub returns : goal.returns
returns c =
    c.loop-number.invariant
    ∙ ap (λ (H : List Entry). capped (weight c.args.net.now H c.args.state.now))
    (take_all c.loop-number.number c.args.history.now.history
    (omega (arith, c.loop-number-test.false, c.length-number-end.ensures)))
