-- Judgements of replies that tell numbers.
use Rattle.std.proofs.Common.{◌≡◌, ℕ, ◌+◌, ◌*◌, ◌^◌, ◌≤◌, ◌<◌, inl, inr, Bool, refl, sym, subst, List, length, Option, Some, None, IsSomeAnd, arith}
use Rattle.mk_net.specs.declared.words.QuestionText.{QuestionText}
use Rattle.mk_net.specs.Asked.{Asked}
use Rattle.mk_net.specs.Bounds.{million, sharpness}
use Rattle.mk_states.specs.InitialWeight.{initial_total}
use Rattle.mk_states.specs.Events.{always}
use Rattle.mk_exact.specs.History.{Entry, revision}
use Rattle.mk_exact.specs.Market.{Market}
use Rattle.mk_exact.specs.Weight.{IsSmall}
use Rattle.mk_exact.specs.Factors.{Fraction, HoldsNoTrade, factor_with, least_gain}
use Rattle.mk_exact.specs.Prices.{exact_price, CoversPrice}
use Rattle.mk_exact.specs.Cash.{CoversCash}
use Rattle.mk_exact.specs.Accepted.{Covers, IsMost}
use Rattle.mk_exact.specs.Risk.{least_weight, nearness, CoversBound}
use Rattle.mk_enclose.specs.declared.enclosure.Enclosure.{Enclosure}
use Rattle.mk_enclose.specs.declared.factor.Factor.{Factor}
use Rattle.mk_enclose.specs.Enclosure.{Encloses}
use Rattle.mk_command.specs.declared.command.Command.TheVariants.{Withdraw, Price, Worst, Bound}
use Rattle.mk_reply.specs.declared.refusal.Refusal.TheVariants.{Short}
use Rattle.mk_reply.specs.declared.reply.Reply.{Reply}
use Rattle.mk_reply.specs.declared.reply.Reply.TheVariants.{Withdrawn, Price as Priced, Worst as Worsted, Bound as Risked, Refused}
use Rattle.mk_rules.specs.Refusals.{question_named, user_number, first_refusal}
use Rattle.mk_rules.specs.Answers.{IsPrice, IsWorst, IsWithdrawal, IsBound}
use Rattle.mk_judge.specs.declared.judged.Judged.{Judged}
use Rattle.mk_judge.specs.declared.judged.Judged.TheVariants.{Allowed, Wrong, Unclear}
use Rattle.mk_judge.specs.declared.price.PriceBounds.{PriceBounds}
use Rattle.mk_judge.specs.Judged.{Judges}
use Rattle.mk_judge_points.specs.Cash.{ArePowersNear}
use Rattle.mk_judge_points.specs.Losses.{quotient, IsBoundNear}
use Rattle.mk_judge.proofs.Judging.{judges_as}
use Rattle.mk_answers.specs.Evidence.{AreBoundsOfPrice, IsLeastFactorOf, IsLeastWeight}
use Rattle.mk_evidence.specs.Grades.{evidence_grade, all_cells}
use Rattle.mk_verify.specs.Clear.{IsPriceOpen, IsCashOpen, AreBitsOpen, IsMostOpen}
use Rattle.mk_judge_quotes.specs.Clear.{near_steps}
use Rattle.mk_judge_quotes.specs.Small.{TellsSmall}
use Rattle.mk_verify.specs.inner.Judging.{JudgesReply}
use Rattle.mk_verify.proofs.Nearer.{bound_nearer}
use Rattle.mk_verify.proofs.Exactness.{JudgesPrice, JudgesCash, JudgesCovered, JudgesMost, price_judged, cash_judged, covered_judged, most_judged}
use Rattle.mk_judge_quotes.proofs.Verdicts.{judges_by}
use Rattle.mk_verify.proofs.Verdicts.{judges_some, none_holds, judges_answer}

-- ---- prices

pub price_told : (market : Market) (H : List Entry) (q : QuestionText) (bounds : PriceBounds)
    (small : Bool) (most_trades low high : ℕ) (j : Judged)
    → first_refusal market H (Price q) ≡ None
    → IsSomeAnd (question_named market.network q)
    (λ asked. AreBoundsOfPrice (evidence_grade market H) market.network H asked bounds)
    → TellsSmall small market H → most_trades ≡ market.max_trades
    → JudgesPrice j bounds small most_trades low high
    → JudgesReply market H (Price q) (Priced low high) j
price_told market H q bounds small most_trades low high j none evidence tells trades says =
    let network = market.network in
    judges_answer market H (Price q) (Priced low high) j none (λ quotes stands.
    judges_some (question_named network q) _
    (λ asked. IsPrice network H market.max_trades asked (Priced low high))
    (λ asked. IsPriceOpen market H asked (low, high)) j evidence
    (λ asked its. judges_as j
    (CoversPrice (IsSmall network H) (sharpness market.max_trades) (exact_price network H asked)
    low high) _ _ _
    (λ covers. record { low = low; high = high; printed = refl; covers = covers })
    (from network asked) (λ o. o)
    (price_judged market H asked bounds small most_trades low high j tells its trades says)))
  where
    from : (network : _) (asked : Asked)
        → IsPrice network H market.max_trades asked (Priced low high)
        → CoversPrice (IsSmall network H) (sharpness market.max_trades)
        (exact_price network H asked) low high
    from network asked h =
        let e : Priced low high ≡ Priced h.low h.high = h.printed in
        let l : low ≡ h.low = cc in
        let m : high ≡ h.high = cc in
        let covers = h.covers in
        rw (l, m) covers

pub no_price : (market : Market) (H : List Entry) (q : QuestionText) (reply : Reply)
    → first_refusal market H (Price q) ≡ None
    → ((low high : ℕ) → reply ≡ Priced low high → ⊥) → JudgesReply market H (Price q) reply Wrong
no_price market H q reply none other =
    judges_answer market H (Price q) reply Wrong none (λ quotes stands.
    none_holds (question_named market.network q)
    (λ asked. IsPrice market.network H market.max_trades asked reply)
    (λ asked h. other h.low h.high h.printed))

-- ---- cash

pub worst_told : (market : Market) (H : List Entry) (name : List ℕ) (factor : Factor)
    (small : Bool) (most_trades b low high : ℕ) (j : Judged)
    → first_refusal market H (Worst name) ≡ None
    → IsLeastFactorOf (evidence_grade market H) market.network H
    (user_number H name) always factor
    → TellsSmall small market H → most_trades ≡ market.max_trades → b ≡ market.points_per_bit
    → JudgesCash j factor small most_trades b low high
    → JudgesReply market H (Worst name) (Worsted low high) j
worst_told market H name factor small most_trades b low high j none evidence tells trades points
    says =
    let network = market.network in
    let u = user_number H name in
    judges_answer market H (Worst name) (Worsted low high) j none (λ quotes stands.
    judges_some (least_gain network H u always) _
    (λ g. IsWorst (IsSmall network H) (HoldsNoTrade H u) (sharpness market.max_trades)
    (factor_with H u g) market.points_per_bit (Worsted low high))
    (λ g. IsCashOpen market H u (factor_with H u g) (low, high)) j evidence
    (λ g its. judges_as j
    (CoversCash (IsSmall network H) (HoldsNoTrade H u) (sharpness market.max_trades)
    (factor_with H u g) market.points_per_bit low high) _ _ _
    (λ covers. record { low = low; high = high; printed = refl; covers = covers })
    (from _ _ (sharpness market.max_trades) (factor_with H u g) market.points_per_bit) (λ o. o)
    (cash_judged market H u g factor small most_trades b low high j tells stands.sound its trades
    points says)))
  where
    from : (small idle : Type 0) (near : ℕ) (q : Fraction) (k : ℕ)
        → IsWorst small idle near q k (Worsted low high) → CoversCash small idle near q k low high
    from small idle near q k h =
        let e : Worsted low high ≡ Worsted h.low h.high = h.printed in
        let l : low ≡ h.low = cc in
        let m : high ≡ h.high = cc in
        let covers = h.covers in
        rw (l, m) covers

pub no_worst : (market : Market) (H : List Entry) (name : List ℕ) (reply : Reply)
    → first_refusal market H (Worst name) ≡ None
    → ((low high : ℕ) → reply ≡ Worsted low high → ⊥)
    → JudgesReply market H (Worst name) reply Wrong
no_worst market H name reply none other =
    let u = user_number H name in
    judges_answer market H (Worst name) reply Wrong none (λ quotes stands.
    none_holds (least_gain market.network H u always)
    (λ g. IsWorst (IsSmall market.network H) (HoldsNoTrade H u) (sharpness market.max_trades)
    (factor_with H u g) market.points_per_bit reply) (λ g h. other h.low h.high h.printed))

-- ---- withdrawals

module _ (market : Market) (H : List Entry) (name : List ℕ) (bits : ℕ)
    (none : first_refusal market H (Withdraw name bits) ≡ None) where
  abbrev its_number : ℕ
  its_number = user_number H name

  abbrev IsTaken : Reply → ℕ → Type 0
  IsTaken reply g = IsWithdrawal (IsSmall market.network H) (HoldsNoTrade H its_number)
      (sharpness market.max_trades) (factor_with H its_number g) name bits (revision H + 1) reply

  pub withdrawn_told : (factor : Factor) (j : Judged)
      → IsLeastFactorOf (evidence_grade market H) market.network H its_number always factor
      → JudgesCovered j factor bits
      → JudgesReply market H (Withdraw name bits) (Withdrawn name bits (revision H + 1)) j
  withdrawn_told factor j evidence says =
      let network = market.network in
      let told = Withdrawn name bits (revision H + 1) in
      judges_answer market H (Withdraw name bits) told j none (λ quotes stands.
      judges_some (least_gain network H its_number always) _ (IsTaken told)
      (λ g. AreBitsOpen market H its_number (factor_with H its_number g) bits) j evidence
      (λ g its. judges_as j (Covers (factor_with H its_number g) bits) _ _ _
      (λ covers. inl (covers, refl)) (from g) (λ o. o)
      (covered_judged market H its_number g factor bits j stands.sound its says)))
    where
      from : (g : ℕ) → IsTaken (Withdrawn name bits (revision H + 1)) g
          → Covers (factor_with H its_number g) bits
      from g (inl taken) = taken.0
      from g (inr short) = absurd (let e = short.printed in cc)

  pub short_told : (factor : Factor) (small : Bool) (most_trades most : ℕ) (j : Judged)
      → most < bits
      → IsLeastFactorOf (evidence_grade market H) market.network H its_number always factor
      → TellsSmall small market H → most_trades ≡ market.max_trades
      → JudgesMost j factor small most_trades most
      → JudgesReply market H (Withdraw name bits) (Refused (Short most)) j
  short_told factor small most_trades most j less evidence tells trades says =
      let network = market.network in
      let told = Refused (Short most) in
      judges_answer market H (Withdraw name bits) told j none (λ quotes stands.
      judges_some (least_gain network H its_number always) _ (IsTaken told)
      (λ g. IsMostOpen market H its_number (factor_with H its_number g) most) j evidence
      (λ g its. judges_as j (IsMost (IsSmall network H) (HoldsNoTrade H its_number)
      (sharpness market.max_trades) (factor_with H its_number g) most) _ _ _
      (λ is. inr (record { most = most; less = less; is_most = is; printed = refl })) (from g)
      (λ o. o)
      (most_judged market H its_number g factor small most_trades most j tells stands.sound its
      trades says)))
    where
      from : (g : ℕ) → IsTaken (Refused (Short most)) g
          → IsMost (IsSmall market.network H) (HoldsNoTrade H its_number)
          (sharpness market.max_trades) (factor_with H its_number g) most
      from g (inl taken) = absurd (let e = taken.1 in cc)
      from g (inr short) =
          let e : Refused (Short most) ≡ Refused (Short short.most) = short.printed in
          let same : most ≡ short.most = cc in
          let is = short.is_most in
          rw same is

  -- neither
  pub not_taken : (reply : Reply) → (reply ≡ Withdrawn name bits (revision H + 1) → ⊥)
      → ((most : ℕ) → most < bits → reply ≡ Refused (Short most) → ⊥)
      → JudgesReply market H (Withdraw name bits) reply Wrong
  not_taken reply other another =
      judges_answer market H (Withdraw name bits) reply Wrong none (λ quotes stands.
      none_holds (least_gain market.network H its_number always) (IsTaken reply) neither)
    where
      neither : (g : ℕ) → IsTaken reply g → ⊥
      neither g (inl taken) = other taken.1
      neither g (inr short) = another short.most short.less short.printed

-- ---- the operator's loss

pub record JudgesBound (j : Judged) (least : Enclosure) (variables b low high : ℕ) : Type 0 where
  pub allowed : j ≡ Allowed → (m : ℕ) → Encloses least m → m ≤ million ^ variables
      → CoversBound (million ^ variables) m b low high
  pub wrong : j ≡ Wrong → (m : ℕ) → Encloses least m → m ≤ million ^ variables
      → CoversBound (million ^ variables) m b low high → ⊥
  pub unclear : j ≡ Unclear → (m : ℕ) → Encloses least m → m ≤ million ^ variables
      → IsBoundNear least variables m b low high

module _ (market : Market) (H : List Entry) (none : first_refusal market H Bound ≡ None) where
  module _ (least : Enclosure) (low high : ℕ) (j : Judged)
      (evidence : IsLeastWeight (evidence_grade market H) market.network H least)
      (cells : length market.network ≤ all_cells market H) where
    abbrev points : ℕ
    points = market.points_per_bit

    -- the total, as it is found and as it is defined
    abbrev IsJudgedOf : ℕ → ℕ → Type 0
    IsJudgedOf total m = Judges j (CoversBound total m points low high)
        (ArePowersNear (nearness total) (quotient total m) points low high
        (points * near_steps market H))

    of_weight : (variables b : ℕ) → variables ≡ length market.network
        → b ≡ points → JudgesBound j least variables b low high
        → IsJudgedOf (million ^ length market.network) evidence.weight
    of_weight variables b count same says =
        let n = length market.network in
        let m = evidence.weight in
        let said : JudgesBound j least n points low high =
        subst (λ (k : ℕ). JudgesBound j least k points low high) count
        (subst (λ (k : ℕ). JudgesBound j least variables k low high) same says) in
        judges_by j _ _ (λ e. said.allowed e m evidence.encloses evidence.part)
        (λ e. said.wrong e m evidence.encloses evidence.part)
        (λ e. bound_nearer least n m points low high (evidence_grade market H) (near_steps market H)
        (omega (arith, count, cells)) evidence.graded
        (said.unclear e m evidence.encloses evidence.part))

    of_least : (total m : ℕ) (o : Option ℕ) → o ≡ Some m → IsJudgedOf total m
        → Judges j (IsSomeAnd o (λ w. CoversBound total w points low high))
        (IsSomeAnd o (λ w. ArePowersNear (nearness total) (quotient total w) points low high
        (points * near_steps market H)))
    of_least total m o is judged = subst
        (λ (o : Option ℕ). Judges j (IsSomeAnd o (λ w. CoversBound total w points low high))
        (IsSomeAnd o (λ w. ArePowersNear (nearness total) (quotient total w) points low high
        (points * near_steps market H)))) (sym is) judged

    pub bound_told : (variables b : ℕ) → variables ≡ length market.network
        → b ≡ points → JudgesBound j least variables b low high
        → JudgesReply market H Bound (Risked low high) j
    bound_told variables b count same says =
        let network = market.network in
        judges_answer market H Bound (Risked low high) j none (λ quotes stands.
        judges_as j (IsSomeAnd (least_weight network H)
        (λ w. CoversBound (initial_total network) w points low high)) _ _ _
        (λ covers. record { low = low; high = high; printed = refl; covers = covers }) from (λ o. o)
        (of_least (initial_total network) evidence.weight (least_weight network H) evidence.is_least
        (subst (λ (t : ℕ). IsJudgedOf t evidence.weight) (sym evidence.whole)
        (of_weight variables b count same says))))
      where
        from : IsBound market.network H points (Risked low high)
            → IsSomeAnd (least_weight market.network H)
            (λ w. CoversBound (initial_total market.network) w points low high)
        from h =
            let e : Risked low high ≡ Risked h.low h.high = h.printed in
            let l : low ≡ h.low = cc in
            let m : high ≡ h.high = cc in
            let covers = h.covers in
            rw (l, m) covers

  pub no_bound : (reply : Reply) → ((low high : ℕ) → reply ≡ Risked low high → ⊥)
      → JudgesReply market H Bound reply Wrong
  no_bound reply other =
      judges_answer market H Bound reply Wrong none
      (λ quotes stands h. other h.low h.high h.printed)
