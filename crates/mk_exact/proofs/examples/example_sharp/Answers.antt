use Rattle.std.proofs.Common.{ℕ, ◌^◌, ◌≤◌, refl, le_refl, arith}
use Rattle.mk_exact.specs.Factors.{Fraction}
use Rattle.mk_exact.specs.Cash.{IsCash, AreNearCash, CoversCash}
use Rattle.mk_exact.specs.Examples.{AreSharp}
use Rattle.mk_exact.proofs.Sharp.{at_sharp, price_covers_more, cash_covers_more, most_covers_more}
use Rattle.mk_exact.proofs.examples.example_sharp.Goals as goal

-- an interval of the cash alone
alone : (small idle : Type 0) (near : ℕ) (q : Fraction) (b cash : ℕ) → IsCash q b cash
    → AreNearCash near q b cash cash
    → (small → AreNearCash (2 ^ 59) q b cash cash) → CoversCash small idle near q b cash cash
alone small idle near q b cash is_cash near_cash nearer = record {
  cash = cash;
  is_cash = is_cash;
  above = le_refl cash;
  below = le_refl cash;
  near = near_cash;
  nearer = nearer;
  exact = λ _. (refl, refl);
}

-- what is covered by one part in 2^42 is by one part in fewer, and what is not by one in 2^39 is
-- not by one in more
sharp : (near : ℕ) → 2 ^ 39 ≤ near → near ≤ 2 ^ 42 → AreSharp near
sharp near p q = record {
  not_small = λ h. omega (arith, h);
  price = price_covers_more _ near (2 ^ 42) _ _ _ (omega arith) q (omega arith);
  not_below = λ h. omega (
    arith,
    (price_covers_more _ (2 ^ 39) near _ _ _ (omega arith) p
        h).low_near,
  );
  not_above = λ h. omega (
    arith,
    (price_covers_more _ (2 ^ 39) near _ _ _ (omega arith) p
        h).high_near,
  );
  cash = cash_covers_more _ _ near (2 ^ 42) _ _ _ _ (omega arith) q (alone _ _ _ _ _ 165
      (record { covered = omega arith; greatest = omega arith })
      (record { low_near = omega arith; high_near = omega arith })
      (λ h. absurd (omega (arith, h))));
  not_less = λ h. omega (
    arith,
    (cash_covers_more _ _ (2 ^ 39) near _ _ _ _ (omega arith) p
        h).near.low_near,
  );
  not_more = λ h. omega (
    arith,
    (cash_covers_more _ _ (2 ^ 39) near _ _ _ _ (omega arith) p
        h).near.high_near,
  );
  one_bit = most_covers_more _ _ near (2 ^ 42) _ _ (omega arith) q
      (record { within = omega arith; nearly = omega arith; exactly = λ h. omega arith });
  not_none = λ h. omega (arith, (most_covers_more _ _ (2 ^ 39) near _ _ (omega arith) p h).nearly);
  paid_back = cash_covers_more _ _ near (2 ^ 42) _ _ _ _ (omega arith) q (alone _ _ _ _ _ 100
      (record { covered = omega arith; greatest = omega arith })
      (record { low_near = omega arith; high_near = omega arith })
      (λ h. record { low_near = omega arith; high_near = omega arith }));
  not_short = λ h. omega (
    arith,
    (cash_covers_more _ _ (2 ^ 39) near _ _ _ _ (omega arith) p
        h).near.low_near,
  );
}

pub returns : goal.returns
returns c = at_sharp AreSharp (sharp (2 ^ 42) (omega arith) (omega arith))
    (sharp (2 ^ 39) (omega arith) (omega arith))
