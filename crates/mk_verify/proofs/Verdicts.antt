-- Judgements of replies by those of the numbers in them.
use Rattle.std.proofs.Common.{◌≡◌, sym, subst, Option, Some, None, IsSomeAnd, MatchOption, List}
use Rattle.mk_exact.specs.History.{Entry}
use Rattle.mk_exact.specs.Market.{Market}
use Rattle.mk_command.specs.declared.command.Command.{Command}
use Rattle.mk_reply.specs.declared.refusal.Refusal.{Refusal}
use Rattle.mk_reply.specs.declared.reply.Reply.{Reply}
use Rattle.mk_reply.specs.declared.reply.Reply.TheVariants.{Refused}
use Rattle.mk_rules.specs.Quotes.{Quotes}
use Rattle.mk_rules.specs.Refusals.{first_refusal}
use Rattle.mk_rules.specs.Answers.{IsAnswer}
use Rattle.mk_rules.specs.Standings.{Stands}
use Rattle.mk_judge.specs.declared.judged.Judged.{Judged}
use Rattle.mk_judge.specs.Judged.{Judges}
use Rattle.mk_judge.proofs.Judging.{judges_as}
use Rattle.mk_verify.specs.Clear.{IsOpen}
use Rattle.mk_verify.specs.inner.Judging.{JudgesQuoted, JudgesReply}

-- of what holds of a value that is there
pub judges_some : {X : Type 0} (o : Option X) (E S O : X → Type 0) (j : Judged) → IsSomeAnd o E
    → ((x : X) → E x → Judges j (S x) (O x)) → Judges j (IsSomeAnd o S) (IsSomeAnd o O)
judges_some None E S O j found judged = absurd found
judges_some (Some x) E S O j found judged = judged x found

-- nothing holds of any value
pub none_holds : {X : Type 0} (o : Option X) (S : X → Type 0) → ((x : X) → S x → ⊥)
    → IsSomeAnd o S → ⊥
none_holds None S never h = h
none_holds (Some x) S never h = never x h

-- of a reply to a command that nothing of the table refuses, where users were quoted so
pub quoted_answer : (market : Market) (H : List Entry) (quotes : Quotes) (command : Command)
    (reply : Reply) (j : Judged) → first_refusal market H command ≡ None
    → (Stands market H → Judges j (IsAnswer market H quotes command reply)
    (IsOpen market H quotes command reply)) → JudgesQuoted market H quotes command reply j
quoted_answer market H quotes command reply j none judged = record {
  where_stands = λ stands. subst (λ (o : Option Refusal). Judges j
      (MatchOption o (IsAnswer market H quotes command reply) (λ why. reply ≡ Refused why))
      (IsOpen market H quotes command reply)) (sym none) (judged stands);
}

-- and of one to a command that it refuses
pub quoted_refusal : (market : Market) (H : List Entry) (quotes : Quotes) (command : Command)
    (reply : Reply) (why : Refusal) (j : Judged) → first_refusal market H command ≡ Some why
    → Judges j (reply ≡ Refused why) ⊥ → JudgesQuoted market H quotes command reply j
quoted_refusal market H quotes command reply why j refused judged =
    let unclear = IsOpen market H quotes command reply in
    record {
      where_stands = λ stands. subst (λ (o : Option Refusal). Judges j
          (MatchOption o (IsAnswer market H quotes command reply) (λ why. reply ≡ Refused why))
          unclear) (sym refused)
          (judges_as j (reply ≡ Refused why) (reply ≡ Refused why) ⊥ unclear (λ h. h) (λ h. h)
          (λ never. absurd never) judged);
    }

-- whatever they were quoted
pub judges_answer : (market : Market) (H : List Entry) (command : Command) (reply : Reply)
    (j : Judged) → first_refusal market H command ≡ None
    → ((quotes : Quotes) → Stands market H → Judges j (IsAnswer market H quotes command reply)
    (IsOpen market H quotes command reply)) → JudgesReply market H command reply j
judges_answer market H command reply j none judged = record {
  however_quoted = λ quotes. quoted_answer market H quotes command reply j none (judged quotes);
}

pub refusal_judged : (market : Market) (H : List Entry) (command : Command) (reply : Reply)
    (why : Refusal) (j : Judged) → first_refusal market H command ≡ Some why
    → Judges j (reply ≡ Refused why) ⊥ → JudgesReply market H command reply j
refusal_judged market H command reply why j refused judged = record {
  however_quoted = λ quotes. quoted_refusal market H quotes command reply why j refused judged;
}
