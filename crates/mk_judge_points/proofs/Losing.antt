-- The ends of the bound on a loss are those of the cash of a quotient.
use Rattle.std.proofs.Common.{◌≡◌, ℕ, ◌+◌, ◌*◌, ◌^◌, ◌≤◌, refl, arith, le_trans}
use Rattle.std.proofs.lemmas.Bool.{lt-ltb, le-ltb}
use Rattle.std.proofs.Math.Nat.{mul-le-mul_right, pow-le-pow_right}
use Rattle.mk_net.specs.Bounds.{number_limit, million}
use Rattle.mk_scaled.specs.Range.{pow_le}
use Rattle.mk_exact.specs.Cash.{IsCash}
use Rattle.mk_exact.specs.Risk.{nearness, CoversBound}
use Rattle.mk_exact.proofs.ExistNumbers.{cash_exists, power_less}
use Rattle.mk_cash.proofs.Losses.{millions_above}
use Rattle.mk_enclose.specs.declared.enclosure.Enclosure.{Enclosure}
use Rattle.mk_enclose.specs.Enclosure.{Encloses, HasGrade}
use Rattle.mk_judge.specs.declared.judged.Judged.{Judged}
use Rattle.mk_judge.specs.Judged.{Judges}
use Rattle.mk_judge.proofs.Judging.{judges_as}
use Rattle.mk_judge_points.specs.Cash.{ArePowersNear}
use Rattle.mk_judge_points.specs.Losses.{quotient, IsBoundNear}
use Rattle.mk_judge_points.specs.inner.Ends.{AreCashEnds}

module _ (total least b low high : ℕ) where
  pub ends_bound : 1 ≤ least → least ≤ total → AreCashEnds (nearness total) (quotient total least) b low high → CoversBound total least b low high
  ends_bound some part h = by_cash (cash_exists (quotient total least) b (record { divides = some; at_least_one = part }))
    where
      by_cash : (cash : ℕ) × IsCash (quotient total least) b cash → CoversBound total least b low high
      by_cash c =
          let from = power_less low (c.0 + 1) (least ^ b) (total ^ b) h.low_is (c.1).greatest in
          let to = power_less (c.0) (high + 1) (least ^ b) (total ^ b) (c.1).covered h.high_is in
          record { cash = c.0; is_cash = c.1; above = omega arith; below = omega arith; low_near = h.low_near; high_near = h.high_near }

  pub bound_ends : CoversBound total least b low high → AreCashEnds (nearness total) (quotient total least) b low high
  bound_ends h =
      let from : 2 ^ low * least ^ b ≤ 2 ^ h.cash * least ^ b = mul-le-mul_right (least ^ b) (pow_le low h.cash h.above) in
      let to : 2 ^ (h.cash + 1) * least ^ b ≤ 2 ^ (high + 1) * least ^ b = mul-le-mul_right (least ^ b) (pow_le (h.cash + 1) (high + 1) (let l = h.below in omega (arith, l))) in
      record {
        low_is = le_trans from h.is_cash.covered;
        high_is = let g = h.is_cash.greatest in omega (arith, g, to);
        low_near = h.low_near;
        high_near = h.high_near;
      }

-- what is judged of the ends is judged of the bound
pub bound_judged : (j : Judged) (least total : Enclosure) (v m b low high parts : ℕ)
    → nearness (million ^ v) ≡ 2 ^ parts → Encloses least m → m ≤ million ^ v
    → HasGrade total (4 * v)
    → Judges j (AreCashEnds (2 ^ parts) (quotient (million ^ v) m) b low high)
    ((g h : ℕ) → HasGrade least g → HasGrade total h
    → ArePowersNear (2 ^ parts) (quotient (million ^ v) m) b low high (b * (g + h + 9)))
    → Judges j (CoversBound (million ^ v) m b low high) (IsBoundNear least v m b low high)
bound_judged j least total v m b low high parts near holds part grade ends =
    let some = le_trans least.positive holds.lower in
    judges_as j _ _ _ _
    (λ h. ends_bound (million ^ v) m b low high some part (rw near h))
    (λ h. rw (← near) (bound_ends (million ^ v) m b low high h))
    (λ h. λ g graded. rw near (h g (4 * v) graded grade)) ends

-- the part is that of the number of variables
pub few_near : (v : ℕ) → v ≤ 3 → nearness (million ^ v) ≡ 2 ^ 58
few_near v h =
    let l : million ^ v ≤ million ^ 3 = pow-le-pow_right (omega arith) h in
    let e = lt-ltb (million ^ v) number_limit (omega (arith, l)) in
    rw e refl

pub many_near : (v : ℕ) → 4 ≤ v → nearness (million ^ v) ≡ 2 ^ 42
many_near v h = let e = le-ltb (million ^ v) number_limit (millions_above v h) in rw e refl
