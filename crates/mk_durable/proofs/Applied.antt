-- What a command's reply makes of a history, of its records and of their store.
use Rattle.std.proofs.Common.{◌≡◌, ◌≢◌, ℕ, ◌+◌, List, [], ◌∷◌, ◌++◌, length, map, Option}
use Rattle.std.proofs.Common.{None, Some, refl, sym, ap, subst, ◌∙◌, arith, length-append}
use Rattle.std.specs.Prelude.{option_to_list}
use Rattle.std.proofs.lemmas.List.{append-nil}
use Rattle.mk_exact.specs.History.{Entry, revision}
use Rattle.mk_command.specs.declared.command.Command.{Command}
use Rattle.mk_command.specs.Commands.{command_text}
use Rattle.mk_reply.specs.declared.reply.Reply.{Reply}
use Rattle.mk_reply.specs.Replies.{reply_text}
use Rattle.mk_rules.specs.Answers.{entry_of}
use Rattle.mk_rules.specs.Transcript.{Standing}
use Rattle.mk_restore.specs.Restoring.{Changes}
use Rattle.mk_journal.specs.Keepers.{StoreOf, IsHeld}
use Rattle.mk_journal.specs.Market.{IsFront}
use Rattle.mk_journal.specs.Moments.{LeavesOnly}
use Rattle.mk_journal.specs.inner.HeldLaws.{held_left}
use Rattle.mk_journal.specs.inner.MomentLaws.{started}
use Rattle.mk_market.specs.Trading.{Trading, IsAnswered}
use Rattle.mk_durable.specs.Applying.{DurableOf, IsApplied, records_made}

-- by the length of the history behind a reply
no_entry : (H : List Entry) (change : Command × Reply) (o : Option Entry)
    → length (H ++ option_to_list o) ≡ length H
    → (elim o as (λ x. Changes) [ None ↦ [] | Some e ↦ change ∷ [] ]) ≡ []
no_entry H change None same = refl
no_entry H change (Some e) same = absurd (omega (arith, length-append H (e ∷ [])))

some_entry : (H : List Entry) (change : Command × Reply) (o : Option Entry)
    → length (H ++ option_to_list o) ≢ length H
    → (elim o as (λ x. Changes) [ None ↦ [] | Some e ↦ change ∷ [] ]) ≡ change ∷ []
some_entry H change None other = absurd (other (ap (λ (l : List Entry). length l) (append-nil H)))
some_entry H change (Some e) other = refl

one_longer : (H : List Entry) (o : Option Entry) → length (H ++ option_to_list o) ≢ length H
    → length (H ++ option_to_list o) ≡ length H + 1
one_longer H None other = absurd (other (ap (λ (l : List Entry). length l) (append-nil H)))
one_longer H (Some e) other = length-append H (e ∷ [])

module _ {Own : Type 0} (old new : Trading Own) (command : Command) (reply : Reply)
    (answered : IsAnswered old new command reply) where
  -- a reply behind which the history is no longer makes no record
  pub none_made : length new.standing.history ≡ length old.standing.history
      → records_made old command reply ≡ []
  none_made same =
      ap (λ (changes : Changes). map (λ (c : Command × Reply).
      command_text (c.0) ++ 10 ∷ reply_text (c.1)) changes)
      (no_entry old.standing.history (command, reply)
      (entry_of old.market old.standing.history command reply)
      (sym (ap (λ (s : Standing). length s.history) answered.next) ∙ same))

  -- one behind which it is makes one, and the revision is the next
  pub one_made : length new.standing.history ≢ length old.standing.history
      → records_made old command reply ≡ (command_text command ++ 10 ∷ reply_text reply) ∷ []
  one_made other =
      ap (λ (changes : Changes). map (λ (c : Command × Reply).
      command_text (c.0) ++ 10 ∷ reply_text (c.1)) changes)
      (some_entry old.standing.history (command, reply)
      (entry_of old.market old.standing.history command reply)
      (λ same. other (ap (λ (s : Standing). length s.history) answered.next ∙ same)))

  pub next_revision : length new.standing.history ≢ length old.standing.history
      → revision new.standing.history ≡ revision old.standing.history + 1
  next_revision other =
      ap (λ (s : Standing). length s.history) answered.next
      ∙ one_longer old.standing.history (entry_of old.market old.standing.history command reply)
      (λ same. other (ap (λ (s : Standing). length s.history) answered.next ∙ same))

-- where no record was made, what was held is held still, and a crash leaves it
module _ (file : Option (List ℕ)) (may_leave : List ℕ → Type 0) (store : StoreOf) (bytes : List ℕ)
    (records made : List (List ℕ)) (none : made ≡ [])
    (held : IsHeld file may_leave store bytes records []) where
  pub held_still : IsHeld file may_leave store bytes (records ++ made) []
  held_still = subst (λ (rs : List (List ℕ)). IsHeld file may_leave store bytes rs [])
      (sym (ap (λ (rs : List (List ℕ)). records ++ rs) none ∙ append-nil records)) held

  pub left_still : {now : ℕ} {past : ℕ → List ℕ → Type 0}
      → ((c : List ℕ) → past now c → may_leave c)
      → LeavesOnly now now past past (IsFront bytes (records ++ made) (length records))
  left_still only = started (λ c left.
      subst (λ (rs : List (List ℕ)). IsFront bytes (records ++ rs) (length records) c) (sym none)
      (held_left held c (only c left)))

-- what is known of a market and its store is known of a durable market that is these
pub known_of : {Own : Type 0} {seen now : DurableOf Own} → seen ≡ now → (file : Option (List ℕ))
    (may_leave : List ℕ → Type 0) (bytes : List ℕ) (records : List (List ℕ)) (after : Trading Own)
    (command : Command) (P : Trading Own → Reply → Type 0)
    → (IsHeld file may_leave seen.store bytes records []
    → IsApplied seen.trading after command (P seen.trading))
    → IsHeld file may_leave now.store bytes records []
    → IsApplied now.trading after command (P now.trading)
known_of {Own = Own} is file may_leave bytes records after command P =
    subst (λ (d : DurableOf Own). IsHeld file may_leave d.store bytes records []
    → IsApplied d.trading after command (P d.trading)) is
