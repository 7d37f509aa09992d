-- Judgements of settlements.
use Rattle.std.proofs.Common.{◌≡◌, ℕ, ◌+◌, ◌<◌, ◌≤◌, ◌↔◌, ◌==◌, inl, inr, Bool, true, false, List, [], ◌∷◌, length, map, None, refl, sym, ap, subst, ◌∙◌, arith}
use Rattle.std.proofs.lemmas.Bool.{eqb-true, eq-eqb}
use Rattle.std.proofs.lemmas.List.{length-map}
use Rattle.std.proofs.lemmas.Option.{slice_get_within}
use Rattle.std.specs.List.{AllZip, enumerate_from}
use Rattle.mk_net.specs.Bounds.{max_payments}
use Rattle.mk_net.specs.Network.{Variable}
use Rattle.mk_states.specs.Events.{always}
use Rattle.mk_exact.specs.ByRule.{payments_by_rule, paid_in_all}
use Rattle.mk_exact.specs.Existing.{HasOutcome}
use Rattle.mk_exact.specs.History.{Entry, users, revision}
use Rattle.mk_exact.specs.Market.{Market}
use Rattle.mk_exact.specs.Sound.{IsSound}
use Rattle.mk_exact.specs.Weight.{possible_states}
use Rattle.mk_command.specs.declared.command.Command.TheVariants.{Settle}
use Rattle.mk_reply.specs.declared.payments.Payment.{Payment}
use Rattle.mk_reply.specs.declared.reply.Reply.{Reply}
use Rattle.mk_reply.specs.declared.reply.Reply.TheVariants.{Settled, SettledAll}
use Rattle.mk_reply.specs.Replies.{IsReply}
use Rattle.mk_restore.specs.Restoring.{IsListed}
use Rattle.mk_rules.specs.Answers.{IsPayment, IsSettlement, settled_by_rule}
use Rattle.mk_rules.proofs.Paying.{SettlingIs, settling_is}
use Rattle.mk_rules.specs.Refusals.{first_refusal}
use Rattle.mk_judge.specs.declared.judged.Judged.{Judged}
use Rattle.mk_judge.specs.Judged.{Judges}
use Rattle.mk_judge.proofs.Judging.{judges_as}
use Rattle.mk_evidence.specs.Grades.{evidence_grade}
use Rattle.mk_verify.specs.Clear.{IsPaymentOpen}
use Rattle.mk_answers.specs.Evidence.{IsFactorOf}
use Rattle.mk_exact.specs.Factors.{gain}
use Rattle.mk_enclose.specs.declared.factor.Factor.{Factor}
use Rattle.mk_judge_quotes.specs.Small.{TellsSmall}
use Rattle.mk_verify.specs.inner.Judging.{JudgesReply, InOneState, PaysCash, PayEach, IsPaymentLeftOpen, by_words}
use Rattle.mk_verify.proofs.ByWords.{judges_words}
use Rattle.mk_verify.proofs.Places.{numbered_of, numbered_at, numbered_names, JudgesBelow, IsOpenBelow, HoldBelow}
use Rattle.mk_verify.proofs.Exactness.{JudgesCash, cash_judged}
use Rattle.mk_verify.proofs.Verdicts.{judges_answer}

module _ (market : Market) (H : List Entry) where
  abbrev network : List Variable
  network = market.network

  abbrev Pays : List ℕ → ℕ × List ℕ → Payment → Type 0
  Pays state = IsPayment network H market.max_trades market.points_per_bit state

  abbrev named : Payment → List ℕ
  named p = p.user

  paid_listed : (state : List ℕ) (payments : List Payment) → map named payments ≡ users H
      → PayEach market H state payments
      → AllZip (Pays state) (enumerate_from 0 (users H)) payments
  paid_listed state payments names each =
      subst (λ (us : List (List ℕ)). AllZip (Pays state)
      (enumerate_from 0 us) payments) names
      (numbered_of (Pays state) named 0 payments
      (λ k p at. let here : k ≡ 0 + k = omega arith in
      subst (λ (u : ℕ). Pays state (u, named p) p) here
      (let its = each k p at in
      record { name = refl; covers = its.covers; low_end = its.low_end })))

  paid_each : (state : List ℕ) (payments : List Payment)
      → AllZip (Pays state) (enumerate_from 0 (users H)) payments → PayEach market H state payments
  paid_each state payments listed u p at =
      let found = numbered_at (Pays state) named 0 (users H)
      payments listed u p at in
      let here : 0 + u ≡ u = omega arith in
      let its = subst (λ (k : ℕ). Pays state (k, found.0) p)
      here (found.1) in
      record { covers = its.covers; low_end = its.low_end }

  same_state : (a b : List ℕ) → possible_states network H always ≡ a ∷ []
      → possible_states network H always ≡ b ∷ [] → a ≡ b
  same_state a b is also = let e : a ∷ [] ≡ b ∷ [] = sym is ∙ also in cc

  module _ (none : first_refusal market H Settle ≡ None) where
    pub settled_told : (payments : List Payment) (j : Judged) → HasOutcome network H
        → map named payments ≡ users H → length payments ≤ max_payments
        → InOneState market H
        (λ state. Judges j (PayEach market H state payments) (IsPaymentOpen market H payments))
        → JudgesReply market H Settle (Settled (revision H + 1) payments) j
    settled_told payments j outcome names few judged =
        let told = Settled (revision H + 1) payments in
        let state = outcome.state in
        judges_answer market H Settle told j none (λ quotes stands.
        judges_as j (PayEach market H state payments) _ _ _
        (λ each. record {
          listed = λ _. record {
            state = state;
            one_state = outcome.one_state;
            payments = payments;
            printed = refl;
            paid = paid_listed state payments names each;
          };
          summed = λ many. absurd (omega (arith, many, few_users));
        }) (λ h. from (h.listed few_users)) (λ o. o) (judged state stands.sound outcome.one_state))
      where
        few_users : length (users H) ≤ max_payments
        few_users = subst (λ (n : ℕ). n ≤ max_payments)
            (sym (length-map payments named) ∙ ap (λ (us : List (List ℕ)). length us) names) few

        from : IsSettlement network H market.max_trades market.points_per_bit
            (Settled (revision H + 1) payments)
            → PayEach market H outcome.state payments
        from h =
            let e : Settled (revision H + 1) payments ≡ Settled (revision H + 1) h.payments
            = h.printed in
            let same : h.payments ≡ payments = cc in
            let one = same_state h.state outcome.state h.one_state outcome.one_state in
            subst (λ (ps : List Payment). PayEach market H outcome.state ps) same
            (subst (λ (s : List ℕ). PayEach market H s h.payments) one
            (paid_each h.state h.payments h.paid))

    pub unlisted_told : (reply : Reply) (b : Bool) → IsReply reply
        → ((b ≡ true) ↔ (reply ≡ settled_by_rule market H))
        → (IsListed (revision H + 1) (users H) reply → ⊥)
        → JudgesReply market H Settle reply (by_words b)
    unlisted_told reply b fits says unlisted =
        judges_words market H Settle reply b none (λ quotes. (
          (λ yes. record {
            listed = λ few. absurd (omega (arith, few, many_users (says.0 yes)));
            summed = λ many. says.0 yes;
          }),
          (λ answer. either (settling_is market H reply answer)),
        ))
      where
        many_users : reply ≡ settled_by_rule market H → max_payments < length (users H)
        many_users is = let its = subst IsReply is fits in its.1.many

        either : SettlingIs market H reply → b ≡ true
        either (inl (few, h)) = absurd (unlisted (record {
          payments = h.payments;
          printed = h.printed;
          in_order = numbered_names (Pays h.state) named (λ k y p its. its.name) 0 (users H)
              h.payments h.paid;
        }))
        either (inr (many, summed)) = says.1 summed

  -- what all users are paid by rule
  abbrev in_all : ℕ
  in_all = paid_in_all (payments_by_rule network H market.points_per_bit)

  -- of a total that a reply tells of the next change, or of another
  module _ (reply : Reply) (at count total : ℕ) (told : Bool)
      (is : reply ≡ SettledAll at count total)
      (says : (told ≡ true) ↔ (reply ≡ SettledAll (revision H + 1) (length (users H)) total)) where
    total_is : reply ≡ settled_by_rule market H → total ≡ in_all
    total_is by_rule =
        let e : SettledAll at count total ≡ SettledAll (revision H + 1) (length (users H)) in_all
        = sym is ∙ by_rule in
        cc

    by_rule_of : total ≡ in_all
        → SettledAll (revision H + 1) (length (users H)) total ≡ settled_by_rule market H
    by_rule_of same = ap (λ (n : ℕ). SettledAll (revision H + 1) (length (users H)) n) same

    pub total_told : (due : ℕ) → due ≡ in_all → told ≡ true
        → ((total == due) ≡ true) ↔ (reply ≡ settled_by_rule market H)
    total_told due owed told_so = (
      λ same. says.0 told_so ∙ by_rule_of (eqb-true total due same ∙ owed),
      λ by_rule. eq-eqb total due (total_is by_rule ∙ sym owed),
    )

    pub otherwise_told : told ≡ false → reply ≡ settled_by_rule market H → ⊥
    otherwise_told told_not by_rule =
        let told_so = says.1 (by_rule ∙ sym (by_rule_of (total_is by_rule))) in
        cc

  -- of the payments before a place
  abbrev pub JudgesPaid : List ℕ → List Payment → Judged → ℕ → Type 0
  JudgesPaid state payments j n = JudgesBelow payments (PaysCash market H state)
      (IsPaymentLeftOpen market H state) j n

  pub all_paid : (state : List ℕ) (payments : List Payment) (j : Judged) (n : ℕ)
      → possible_states network H always ≡ state ∷ [] → length payments ≡ n
      → JudgesPaid state payments j n
      → Judges j (PayEach market H state payments) (IsPaymentOpen market H payments)
  all_paid state payments j n one long below =
      judges_as j (HoldBelow payments (PaysCash market H state) (IsPaymentLeftOpen market H state) n)
      (PayEach market H state payments)
      (IsOpenBelow payments (PaysCash market H state) (IsPaymentLeftOpen market H state) n)
      (IsPaymentOpen market H payments)
      (λ holds u p at. holds u p (let within = slice_get_within payments u p at in
      omega (arith, long, within)) at)
      (λ each k p less at. each k p at)
      (λ h. record {
        state = state;
        one_state = one;
        user = h.value;
        payment = h.interval;
        stands = h.stands;
        is_open = h.is_open;
      }) below

  -- the payment to one user
  pub payment_judged : (state : List ℕ) (u : ℕ) (payment : Payment) (factor : Factor)
      (small : Bool) (most_trades b : ℕ) (j : Judged) → TellsSmall small market H
      → IsSound network H
      → IsFactorOf (evidence_grade market H) network H u (gain H u state) factor
      → most_trades ≡ market.max_trades → b ≡ market.points_per_bit
      → payment.paid ≡ payment.low
      → JudgesCash j factor small most_trades b payment.low payment.high
      → Judges j (PaysCash market H state u payment) (IsPaymentLeftOpen market H state u payment)
  payment_judged state u payment factor small most_trades b j tells sound its trades points low
      says =
      judges_as j _ (PaysCash market H state u payment) _ _
      (λ covers. record { covers = covers; low_end = low }) (λ pays. pays.covers) (λ o. o)
      (cash_judged market H u (gain H u state) factor small most_trades b payment.low payment.high j
      tells sound its trades points says)
