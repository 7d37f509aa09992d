use Rattle.std.proofs.Common.{◌^◌, ◌≤◌, arith}
use Rattle.mk_scaled.specs.Range.{two_to, two_to-small}
use Rattle.mk_quote_trials.proofs.cash.least.Goals as goal

pub returns : goal.returns
returns g c = let h : 2 ^ 64 ≤ two_to 6000 = two_to-small 6000 64 (omega arith) in omega (arith, h, c.exact.ensures.upper)
