use Rattle.std.proofs.Common.{◌-◌}
use Rattle.mk_io.specs.Stream.{max_stream_lines}
use Rattle.mk_tally.specs.inner.Counting.{IsCounting}
use Rattle.mk_tally.proofs.counting.count_replies.Given as goal

abbrev pub invariant-loop-ended : goal.invariant-loop-ended
invariant-loop-ended l = IsCounting l.fn.market.market l.market l.fn.commands.items l.lines
    l.inputs.commands l.tally

abbrev pub decreases-loop-ended : goal.decreases-loop-ended
decreases-loop-ended l = max_stream_lines - l.lines.given
