use Rattle.std.proofs.Common.{◌≡◌, drop}
use Rattle.daggre.specs.LastLine.{first_unknown}
use Rattle.daggre.proofs.last_line.first_unknown.Given as goal

abbrev pub invariant-loop-pair : goal.invariant-loop-pair
invariant-loop-pair l = first_unknown l.net (drop l.pair-index l.pairs)
    ≡ first_unknown l.net l.pairs
