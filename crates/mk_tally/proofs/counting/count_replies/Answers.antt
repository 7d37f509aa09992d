use Rattle.std.proofs.Common.{ap, sym, subst, Ok, Result}
use Rattle.mk_io.specs.Quiet.{QuietIn}
use Rattle.mk_tally.specs.declared.counts.Tally.{Tally}
use Rattle.mk_tally.specs.declared.counts.TallyFault.{TallyFault}
use Rattle.mk_tally.specs.Tally.{TallyEnds}
use Rattle.mk_tally.proofs.Counted.{counting_at_start}
use Rattle.mk_tally.proofs.counting.count_replies.Goals as goal

pub loop-ended-init : goal.loop-ended-init
loop-ended-init c = counting_at_start c.args.market.now c.requires.is_market
    c.args.commands.items c.new-lines.result c.new-inputs.result.commands
    c.new-tally.result c.new-lines.ensures c.new-tally.ensures (ap (λ (i : QuietIn). i.commands)
    c.new-inputs.ensures) c.requires.opening

pub returns-in-Some : goal.returns-in-Some
returns-in-Some c =
    let start = c.args.market.now.market in
    let all = c.args.commands.items in
    subst (λ (r : Result Tally TallyFault). TallyEnds r (Ok start) all) (sym c.end_count.ensures)
    (c.in-Some.ensures.ended start all c.loop-ended.invariant.market c.loop-ended.invariant.far)
