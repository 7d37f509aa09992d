-- Judgements of replies that are decided by their words alone.
use Rattle.std.proofs.Common.{◌≡◌, ◌↔◌, ◌⊎◌, ℕ, inl, inr, Bool, true, false, refl, sym, ◌∙◌, List, None}
use Rattle.mk_exact.specs.History.{Entry}
use Rattle.mk_exact.specs.Market.{Market}
use Rattle.mk_command.specs.declared.command.Command.{Command}
use Rattle.mk_command.specs.declared.command.Command.TheVariants.{Status, Paid}
use Rattle.mk_reply.specs.declared.reply.Reply.{Reply}
use Rattle.mk_reply.specs.contracts.reply.ReplyPartialEq.TheImpl.{ghosts as reply_ghosts}
use Rattle.mk_exact.specs.History.{payment_to}
use Rattle.mk_rules.specs.Answers.{IsAnswer, IsAllowed, told_payment}
use Rattle.mk_rules.specs.Standings.{Stands}
use Rattle.mk_rules.specs.Quotes.{Quotes}
use Rattle.mk_rules.specs.Refusals.{first_refusal, user_number}
use Rattle.mk_judge.specs.Judged.{Judges}
use Rattle.mk_verify.specs.Clear.{IsOpen}
use Rattle.mk_verify.specs.inner.Judging.{JudgesReply, by_words}
use Rattle.mk_verify.proofs.Same.{one_status, status_is_one, one_payment, payment_is_one}
use Rattle.mk_verify.proofs.Verdicts.{judges_answer}

-- where a test decides
by_test : (b : Bool) (P O : Type 0) → ((b ≡ true) ↔ P) → Judges (by_words b) P O
by_test true P O holds = holds.0 refl
by_test false P O holds = λ answer. let no : false ≡ true = holds.1 answer in cc

pub judges_words : (market : Market) (H : List Entry) (command : Command) (reply : Reply)
    (b : Bool) → first_refusal market H command ≡ None
    → ((quotes : Quotes) → (b ≡ true) ↔ IsAnswer market H quotes command reply)
    → JudgesReply market H command reply (by_words b)
judges_words market H command reply b none says =
    judges_answer market H command reply (by_words b) none (λ quotes stands.
    by_test b (IsAnswer market H quotes command reply) (IsOpen market H quotes command reply)
    (says quotes))

-- a first test says so, or a second
pub either_told : (a b : Bool) (S W : Type 0) → ((a ≡ true) ↔ S)
    → ((b ≡ true) ↔ ((a ≡ true) ⊎ W)) → (b ≡ true) ↔ (S ⊎ W)
either_told a b S W first says = (
  λ yes. elim (says.0 yes) [ inl told ↦ inl (first.0 told) | inr other ↦ inr other ],
  λ either. says.1 (elim either [ inl told ↦ inl (first.1 told) | inr other ↦ inr other ]),
)

-- by a reply that is allowed, where the test tells whether another is
by_another : (market : Market) (H : List Entry) (command : Command) (expected told : Reply)
    (b : Bool) → ((quotes : Quotes) → Stands market H → IsAllowed market H quotes command expected)
    → ((quotes : Quotes) → IsAllowed market H quotes command expected
    → (b ≡ true) ↔ IsAllowed market H quotes command told)
    → JudgesReply market H command told (by_words b)
by_another market H command expected told b allowed tells = record {
  however_quoted = λ quotes. record {
    where_stands = λ stands. by_test b (IsAllowed market H quotes command told)
        (IsOpen market H quotes command told) (tells quotes (allowed quotes stands));
  };
}

-- the status, by the one that the market tells
pub status_told : (market : Market) (H : List Entry) (expected told : Reply) (b : Bool)
    → ((quotes : Quotes) → Stands market H → IsAllowed market H quotes Status expected)
    → b ≡ reply_ghosts.eq told expected → JudgesReply market H Status told (by_words b)
status_told market H expected told b allowed same =
    by_another market H Status expected told b allowed (λ quotes is. (
      (λ yes. one_status _ _ _ _ _ _ _ _ (first_refusal market H Status) expected told is
          (sym same ∙ yes)),
      (λ also. same ∙ status_is_one _ _ _ _ _ _ _ _ (first_refusal market H Status) expected told
          is also),
    ))

-- what a user is paid, by what the market tells
pub paid_told : (market : Market) (H : List Entry) (u : List ℕ) (expected told : Reply) (b : Bool)
    → ((quotes : Quotes) → Stands market H → IsAllowed market H quotes (Paid u) expected)
    → b ≡ reply_ghosts.eq told expected → JudgesReply market H (Paid u) told (by_words b)
paid_told market H u expected told b allowed same =
    let payment = told_payment u (payment_to H (user_number H u)) in
    by_another market H (Paid u) expected told b allowed (λ quotes is. (
      (λ yes. one_payment payment (first_refusal market H (Paid u)) expected told is
          (sym same ∙ yes)),
      (λ also. same ∙ payment_is_one payment (first_refusal market H (Paid u)) expected told is
          also),
    ))
