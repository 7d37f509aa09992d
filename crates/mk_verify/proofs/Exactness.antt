-- Judgements of printed numbers, by evidence of the exact ones.
use Rattle.std.proofs.Common.{◌≡◌, ℕ, ◌^◌, ◌⊎◌, ◌↔◌, inl, inr, Bool, true, false, IsTrue, refl, sym, subst, ◌∙◌, List, arith}
use Rattle.std.proofs.lemmas.Bool.{false≢true}
use Rattle.mk_net.specs.Asked.{Asked}
use Rattle.mk_net.specs.Bounds.{sharpness}
use Rattle.mk_exact.specs.History.{Entry}
use Rattle.mk_exact.specs.Market.{Market}
use Rattle.mk_exact.specs.Weight.{IsSmall}
use Rattle.mk_exact.specs.Factors.{Fraction, HoldsNoTrade, factor_with}
use Rattle.mk_exact.specs.Prices.{exact_price, CoversPrice}
use Rattle.mk_exact.specs.Cash.{CoversCash}
use Rattle.mk_exact.specs.Accepted.{Covers, IsMost}
use Rattle.mk_exact.specs.Sound.{IsSound}
use Rattle.mk_enclose.specs.declared.factor.Factor.{Factor}
use Rattle.mk_enclose.specs.Enclosure.{IsExact}
use Rattle.mk_judge.specs.declared.judged.Judged.{Judged}
use Rattle.mk_judge.specs.declared.judged.Judged.TheVariants.{Allowed, Wrong, Unclear}
use Rattle.mk_judge.specs.declared.price.PriceBounds.{PriceBounds}
use Rattle.mk_judge.specs.Judged.{Judges}
use Rattle.mk_judge.specs.Prices.{ArePriceBounds, IsPriceNear}
use Rattle.mk_judge.specs.Cash.{IsOwned}
use Rattle.mk_judge_points.specs.Cash.{IsCashNear, IsBitsNear, AreBitsNear, ArePowersNear, nearness}
use Rattle.mk_answers.specs.Evidence.{AreBoundsOfPrice, IsFactorOf}
use Rattle.mk_answers.proofs.Told.{cash_for}
use Rattle.mk_answers.proofs.Weaker.{covers_when}
use Rattle.mk_evidence.specs.Grades.{evidence_grade}
use Rattle.mk_verify.specs.Clear.{IsPriceOpen, IsCashOpen, AreBitsOpen, IsMostOpen}
use Rattle.mk_judge_quotes.specs.Clear.{near_steps}
use Rattle.mk_judge_quotes.proofs.Nearer.{grade_room}
use Rattle.mk_verify.proofs.Nearer.{price_nearer, cash_nearer, bits_nearer, most_nearer}
use Rattle.mk_judge_quotes.proofs.Verdicts.{judges_by}

-- ---- prices

-- what the judge of a price says in a market of at most so many trades
pub record JudgesPrice (j : Judged) (bounds : PriceBounds) (small : Bool)
    (most_trades low high : ℕ) : Type 0 where
  pub allowed : j ≡ Allowed → (price : Fraction) → ArePriceBounds bounds small price
      → CoversPrice (IsTrue small) (sharpness most_trades) price low high
  pub wrong : j ≡ Wrong → (price : Fraction) → ArePriceBounds bounds small price
      → CoversPrice (IsTrue small) (sharpness most_trades) price low high → ⊥
  pub unclear : j ≡ Unclear → (price : Fraction) → ArePriceBounds bounds small price
      → IsPriceNear (sharpness most_trades) bounds price low high
  pub clear : j ≡ Unclear → (price : Fraction) → ArePriceBounds bounds small price
      → small ≡ false

-- what is not told to be small is not
pub not_small : (small : Bool) (S : Type 0) → ((small ≡ true) ↔ S) → small ≡ false → ¬ S
not_small small S tells large is = false≢true (sym large ∙ tells.1 is)

pub price_judged : (market : Market) (H : List Entry) (asked : Asked) (bounds : PriceBounds)
    (small : Bool) (most_trades low high : ℕ) (j : Judged)
    → ((small ≡ true) ↔ IsSmall market.network H)
    → AreBoundsOfPrice (evidence_grade market H) market.network H asked bounds
    → most_trades ≡ market.max_trades → JudgesPrice j bounds small most_trades low high
    → Judges j
    (CoversPrice (IsSmall market.network H) (sharpness market.max_trades)
    (exact_price market.network H asked) low high) (IsPriceOpen market H asked (low, high))
price_judged market H asked bounds small most_trades low high j tells evidence trades says =
    let price = exact_price market.network H asked in
    let near = sharpness market.max_trades in
    let said : JudgesPrice j bounds small market.max_trades low high =
    subst (λ (n : ℕ). JudgesPrice j bounds small n low high) trades says in
    let its = evidence.bounds_of small tells.0 in
    judges_by j _ _
    (λ e. covers_when _ (IsTrue small) tells.1 near price low high (said.allowed e price its))
    (λ e h. said.wrong e price its (covers_when (IsTrue small) _ tells.0 near price low high h))
    (λ e. record {
      large = not_small small _ tells (said.clear e price its);
      near = price_nearer near bounds price low high (evidence_grade market H)
          (near_steps market H) (omega (arith, grade_room market H))
          evidence.graded (said.unclear e price its);
    })

-- ---- cash

pub record JudgesCash (j : Judged) (factor : Factor) (small : Bool)
    (most_trades b low high : ℕ) : Type 0 where
  pub allowed : j ≡ Allowed → (q : Fraction) → IsOwned factor q
      → CoversCash (IsTrue small) (factor.trades ≡ 0) (sharpness most_trades) q b low high
  pub wrong : j ≡ Wrong → (q : Fraction) → IsOwned factor q
      → CoversCash (IsTrue small) (factor.trades ≡ 0) (sharpness most_trades) q b low high → ⊥
  pub unclear : j ≡ Unclear → (q : Fraction) → IsOwned factor q
      → IsCashNear small most_trades factor q b low high

near_powers : (small : Bool) (S : Type 0) (most_trades : ℕ) (q : Fraction)
    (b low high steps : ℕ) → ((small ≡ true) ↔ S)
    → ArePowersNear (nearness small most_trades) q b low high steps
    → ArePowersNear (sharpness most_trades) q b low high steps
    ⊎ S × ArePowersNear (2 ^ 59) q b low high steps
near_powers true S most_trades q b low high steps tells near = inr (tells.0 refl, near)
near_powers false S most_trades q b low high steps tells near = inl near

pub cash_judged : (market : Market) (H : List Entry) (u g : ℕ) (factor : Factor) (small : Bool)
    (most_trades b low high : ℕ) (j : Judged) → ((small ≡ true) ↔ IsSmall market.network H)
    → IsSound market.network H → IsFactorOf (evidence_grade market H)
    market.network H u g factor
    → most_trades ≡ market.max_trades → b ≡ market.points_per_bit
    → JudgesCash j factor small most_trades b low high
    → Judges j
    (CoversCash (IsSmall market.network H) (HoldsNoTrade H u) (sharpness market.max_trades)
    (factor_with H u g) market.points_per_bit low high)
    (IsCashOpen market H u (factor_with H u g) (low, high))
cash_judged market H u g factor small most_trades b low high j tells sound evidence trades points
    says =
    let q = factor_with H u g in
    let k = market.points_per_bit in
    let most = market.max_trades in
    let near_part = sharpness most in
    let said : JudgesCash j factor small most k low high =
    subst (λ (m : ℕ). JudgesCash j factor small m k low high) trades
    (subst (λ (n : ℕ). JudgesCash j factor small most_trades n low high) points says) in
    let its = evidence.owned sound in
    let idle : HoldsNoTrade H u → factor.trades ≡ 0 = (λ none. evidence.traded ∙ none) in
    let alone : factor.trades ≡ 0 → HoldsNoTrade H u = (λ none. sym evidence.traded ∙ none) in
    judges_by j _ _
    (λ e. cash_for _ _ (IsTrue small) (factor.trades ≡ 0) near_part q k low high tells.1 idle
    (said.allowed e q its))
    (λ e h. said.wrong e q its
    (cash_for (IsTrue small) (factor.trades ≡ 0) _ _ near_part q k low high tells.0 alone h))
    (λ e. let near = said.unclear e q its in record {
      traded = λ none. near.traded (idle none);
      near = near_powers small _ most q k low high _ tells
          (cash_nearer small most factor q k low high (evidence_grade market H)
          (near_steps market H) (omega (arith, grade_room market H)) evidence.graded near);
    })

-- ---- bits

pub record JudgesCovered (j : Judged) (factor : Factor) (bits : ℕ) : Type 0 where
  pub allowed : j ≡ Allowed → (q : Fraction) → IsOwned factor q → Covers q bits
  pub wrong : j ≡ Wrong → (q : Fraction) → IsOwned factor q → Covers q bits → ⊥
  pub unclear : j ≡ Unclear → (q : Fraction) → IsOwned factor q → IsBitsNear factor q bits

pub covered_judged : (market : Market) (H : List Entry) (u g : ℕ) (factor : Factor) (bits : ℕ)
    (j : Judged) → IsSound market.network H
    → IsFactorOf (evidence_grade market H) market.network H u g factor
    → JudgesCovered j factor bits
    → Judges j (Covers (factor_with H u g) bits) (AreBitsOpen market H u (factor_with H u g) bits)
covered_judged market H u g factor bits j sound evidence says =
    let q = factor_with H u g in
    let its = evidence.owned sound in
    judges_by j _ _ (λ e. says.allowed e q its) (λ e. says.wrong e q its)
    (λ e. let near = says.unclear e q its in record {
      large = λ small. near.rounded (evidence.exact small);
      traded = λ none. near.traded (evidence.traded ∙ none);
      near = bits_nearer factor q bits (evidence_grade market H) (near_steps market H)
          (omega (arith, grade_room market H)) evidence.graded
          near;
    })

pub record JudgesMost (j : Judged) (factor : Factor) (small : Bool) (most_trades most : ℕ) : Type 0
  where
    pub allowed : j ≡ Allowed → (q : Fraction) → IsOwned factor q
        → (IsTrue small → IsExact factor.gain)
        → IsMost (IsTrue small) (factor.trades ≡ 0) (sharpness most_trades) q most
    pub wrong : j ≡ Wrong → (q : Fraction) → IsOwned factor q
        → (IsTrue small → IsExact factor.gain)
        → IsMost (IsTrue small) (factor.trades ≡ 0) (sharpness most_trades) q most → ⊥
    pub unclear : j ≡ Unclear → (q : Fraction) → IsOwned factor q
        → (IsTrue small → IsExact factor.gain) → AreBitsNear small most_trades factor q most

most_for : (small large idle alone : Type 0) (near : ℕ) (q : Fraction) (k : ℕ)
    → (large → small) → (alone → idle) → IsMost small idle near q k → IsMost large alone near q k
most_for small large idle alone near q k to by h = record {
  within = h.within;
  nearly = h.nearly;
  exactly = λ either. h.exactly (elim either [ inl s ↦ inl (to s) | inr i ↦ inr (by i) ]);
}

pub most_judged : (market : Market) (H : List Entry) (u g : ℕ) (factor : Factor) (small : Bool)
    (most_trades most : ℕ) (j : Judged) → ((small ≡ true) ↔ IsSmall market.network H)
    → IsSound market.network H → IsFactorOf (evidence_grade market H)
    market.network H u g factor
    → most_trades ≡ market.max_trades → JudgesMost j factor small most_trades most
    → Judges j (IsMost (IsSmall market.network H) (HoldsNoTrade H u) (sharpness market.max_trades)
    (factor_with H u g) most) (IsMostOpen market H u (factor_with H u g) most)
most_judged market H u g factor small most_trades most j tells sound evidence trades says =
    let q = factor_with H u g in
    let near_part = sharpness market.max_trades in
    let said : JudgesMost j factor small market.max_trades most =
    subst (λ (n : ℕ). JudgesMost j factor small n most) trades says in
    let its = evidence.owned sound in
    let exact : IsTrue small → IsExact factor.gain = (λ s. evidence.exact (tells.0 s)) in
    judges_by j _ _
    (λ e. most_for (IsTrue small) _ (factor.trades ≡ 0) _ near_part q most tells.1
    (λ none. evidence.traded ∙ none) (said.allowed e q its exact))
    (λ e h. said.wrong e q its exact
    (most_for _ (IsTrue small) _ (factor.trades ≡ 0) near_part q most
    tells.0 (λ none. sym evidence.traded ∙ none) h))
    (λ e. let near = said.unclear e q its exact in record {
      large = not_small small _ tells near.large;
      traded = λ none. near.traded (evidence.traded ∙ none);
      near = most_nearer small market.max_trades factor q most (evidence_grade market H)
          (near_steps market H) (omega (arith, grade_room market H)) evidence.graded near;
    })
