use Rattle.std.proofs.Common.{sym}
use Rattle.mk_passes.specs.Blank.{one_digits-is, one_exponent-is}
use Rattle.mk_passes.proofs.blank.one.Goals as goal

pub returns-clause-digits : goal.returns-clause-digits
returns-clause-digits c = sym one_digits-is

pub returns-clause-exponent : goal.returns-clause-exponent
returns-clause-exponent c = sym one_exponent-is
