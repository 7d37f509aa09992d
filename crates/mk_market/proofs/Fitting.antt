-- Payments that fit, and how many there are.
use Rattle.std.proofs.Common.{◌≡◌, ℕ, List, [], ◌∷◌, map, length, sym, ap, ◌∙◌}
use Rattle.std.specs.List.{AllByRecursion}
use Rattle.std.proofs.lemmas.List.{length-map}
use Rattle.std.proofs.lemmas.List.FromFn.{length-range_with_len}
use Rattle.mk_net.specs.Network.{Variable}
use Rattle.mk_states.specs.States.{numbers_below}
use Rattle.mk_exact.specs.History.{Entry, users}
use Rattle.mk_exact.specs.ByRule.{payment_by_rule, outcome, payments_by_rule}
use Rattle.mk_reply.specs.declared.payments.Payment.{Payment}
use Rattle.mk_reply.specs.Replies.{IsPayment as IsReadPayment}
use Rattle.mk_rules.specs.Answers.{ends_of}
use Rattle.mk_rules.specs.Bounded.{FitPayment}
use Rattle.mk_history.specs.declared.entry.Payout.{Payout}
use Rattle.mk_history.specs.Entries.{ends}

pub read_fit : (pays : List Payment) → AllByRecursion IsReadPayment pays → AllByRecursion FitPayment (map ends_of pays)
read_fit [] h = tt
read_fit (p ∷ pays) h = (record { low = h.0.low; high = h.0.high }, read_fit pays h.1)

-- by rule there is one payment for each user
pub rule_count : (network : List Variable) (H : List Entry) (b : ℕ) → length (payments_by_rule network H b) ≡ length (users H)
rule_count network H b = length-map (numbers_below (length (users H))) (payment_by_rule H b (outcome network H))
    ∙ length-range_with_len 0 (length (users H))

pub rows_count : (network : List Variable) (H : List Entry) (b : ℕ) (rows : List Payout)
    → map ends rows ≡ payments_by_rule network H b → length rows ≡ length (users H)
rows_count network H b rows are =
    sym (length-map rows ends) ∙ ap length are ∙ rule_count network H b
