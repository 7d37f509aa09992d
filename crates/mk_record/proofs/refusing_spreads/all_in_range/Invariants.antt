use Rattle.std.proofs.Common.{◌≡◌, drop}
use Rattle.mk_rules.specs.Refusals.{ranges}
use Rattle.mk_record.proofs.refusing_spreads.all_in_range.Given as goal

abbrev pub invariant-loop-number : goal.invariant-loop-number
invariant-loop-number l = ranges l.least l.most (drop l.number-index l.numbers) ≡ ranges l.least l.most l.numbers
