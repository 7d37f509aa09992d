use Rattle.std.proofs.Common.{◌^◌, Some, inl, inr, refl, arith}
use Rattle.mk_exact.specs.Weight.{IsSmall}
use Rattle.mk_exact.specs.Factors.{HoldsNoTrade, Fraction, factor_with}
use Rattle.mk_exact.specs.Limits.{Inside, IsFairAndSolvent}
use Rattle.mk_exact.specs.Prices.{CoversPrice, exact_price}
use Rattle.mk_exact.specs.Sides.{AreSides, AreRightLimits, IsFairPair}
use Rattle.mk_exact.specs.Accepted.{IsMost}
use Rattle.mk_exact.specs.Examples.{coin, heads, deposited_one, heads_taken, even}
use Rattle.mk_reply.specs.declared.refusal.Refusal.TheVariants.{Beyond, Short}
use Rattle.mk_reply.specs.declared.reply.Reply.TheVariants.{Price as Priced, Limits as Limited, Traded, Refused}
use Rattle.mk_rules.specs.Answers.{IsTrade, IsBeyond, IsShort, IsPrice, IsLimits}
use Rattle.mk_rules.proofs.examples.example_run.Goals as goal

hit_units : IsFairAndSolvent (IsSmall coin deposited_one) even 600000 1319413953331
hit_units = omega arith

miss_units : IsFairAndSolvent (IsSmall coin deposited_one) even 400000 879609302220
miss_units = omega arith

fair : AreSides coin deposited_one 0 heads even even → IsFairPair coin deposited_one 0 heads 600000 1319413953331 879609302220
fair sides = record { hit = even; miss = even; sides = sides; hit_units = hit_units; miss_units = miss_units }

covers : CoversPrice (IsSmall coin heads_taken) (2 ^ 42) (exact_price coin heads_taken heads)
    6000000000 6000000001
covers = omega arith

outside : Inside (Some (250000, 750000)) 750001 → ⊥
outside inside = omega (arith, inside.1)

inside : Inside (Some (250000, 750000)) 600000
inside = (omega arith, omega arith)

-- the replies that need more than a computation
limited : AreRightLimits coin deposited_one 0 heads (Some (250000, 750000)) → IsLimits coin deposited_one 0 heads (Limited (Some (250000, 750000)) 2)
limited right = record { limits = Some (250000, 750000); printed = refl; right = right }

beyond : IsBeyond (Some (250000, 750000)) 750001 (Refused (Beyond (Some (250000, 750000))))
beyond = record { outside = outside; printed = refl }

traded : AreSides coin deposited_one 0 heads even even → IsTrade coin deposited_one 0 heads 600000 (Traded 1319413953331 879609302220 3)
traded sides = record { hit = 1319413953331; miss = 879609302220; printed = refl; fair = fair sides }

price : IsPrice coin heads_taken 1000 heads (Priced 6000000000 6000000001)
price = record { low = 6000000000; high = 6000000001; printed = refl; covers = covers }

least : Fraction
least = factor_with heads_taken 0 879609302220

short : IsMost (IsSmall coin heads_taken) (HoldsNoTrade heads_taken 0) (2 ^ 42) least 0
    → IsShort (IsSmall coin heads_taken) (HoldsNoTrade heads_taken 0) (2 ^ 42) least 1
    (Refused (Short 0))
short most = record { most = 0; less = omega arith; is_most = most; printed = refl }

pub returns : goal.returns
unfolding least
returns c =
    let limits = c.example_limits.ensures in
    let most = c.example_cash.ensures.no_bit in
    record { run = (inl refl, (refl, (limited limits.right, (inr beyond, (inl (inside, traded limits.sides), (price, (inr (short most), refl))))))) }
