use Rattle.std.proofs.Common.{arith, rules}
use Rattle.mk_exact.specs.Sides.{ratio_in, AreFair, AreSolvent}
use Rattle.mk_states.specs.OfNetwork.{IsPairOf}
use Rattle.mk_exact.specs.Accepted.{IsSafeTrade}
use Rattle.mk_exact.specs.Examples.{coin, heads, deposited_one}
use Rattle.mk_exact.proofs.Fair.{fair_bounded}
use Rattle.mk_exact.proofs.Solvent.{pair_solvent}
use Rattle.mk_exact.proofs.examples.example_safety.Goals as goal

fair : AreFair coin deposited_one heads 600000 1319413953331 879609302220
fair = omega arith

solvent : AreSolvent coin deposited_one 0 heads 1319413953331 879609302220
solvent = record { hit = omega arith; miss = omega arith }

in_range : IsPairOf coin heads.target
in_range = record { variable = omega arith; value = omega arith }

safe : IsSafeTrade coin deposited_one 0 (ratio_in coin heads 1319413953331 879609302220)
safe = record {
  bounded = fair_bounded coin deposited_one heads 600000 1319413953331 879609302220 in_range fair;
  solvent = pair_solvent coin deposited_one 0 heads 1319413953331 879609302220 in_range solvent;
}

pub returns : goal.returns
returns c = record {
  fair = fair;
  not_more = λ f. omega (arith, f.hit.not_above);
  solvent = solvent;
  bankrupt = λ s. omega (arith, s.miss);
  accepted = (tt, tt, (tt, tt, (safe, search rules, tt)));
}
