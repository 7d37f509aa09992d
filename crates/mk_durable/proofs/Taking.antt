-- What is read of a record, and where it moves a market.
use Rattle.std.proofs.Common.{◌≡◌, ◌≢◌, ℕ, List, [], ◌∷◌, ◌++◌, All, refl, sym, ◌∙◌, ap, subst}
use Rattle.std.specs.List.{AllByRecursion}
use Rattle.std.proofs.lemmas.List.Elements.{recursion_from_All}
use Rattle.mk_exact.specs.History.{Entry}
use Rattle.mk_exact.specs.Market.{Market, present}
use Rattle.mk_command.specs.declared.command.Command.{Command}
use Rattle.mk_command.specs.Commands.{IsCommand, command_text}
use Rattle.mk_reply.specs.declared.reply.Reply.{Reply}
use Rattle.mk_reply.specs.Replies.{IsReply, reply_text}
use Rattle.mk_rules.specs.Answers.{next_quotes}
use Rattle.mk_rules.specs.Quotes.{no_quotes}
use Rattle.mk_rules.specs.Transcript.{Standing, OfCommand, after}
use Rattle.mk_restore.specs.Restoring.{IsRecord, IsFit}
use Rattle.mk_restore.proofs.Records.{record_splits, record_holds_one}
use Rattle.mk_restore.proofs.Joined.{restores_join}
use Rattle.mk_restore.proofs.Unquoted.{fit_quotes_nobody}
use Rattle.mk_durable.specs.Recovery.{AreTakenBack, IsTakenBack, IsUnfit, unquoted}
use Rattle.mk_durable.proofs.Histories.{records_behind}

-- bytes with no LF are no record
has_line : (xs ys : List ℕ) → AllByRecursion (λ b. b ≢ 10) (xs ++ 10 ∷ ys) → ⊥
has_line [] ys none = none.0 refl
has_line (x ∷ xs) ys none = has_line xs ys none.1

pub no_line : (market : Market) (H : List Entry) (bytes : List ℕ)
    → All (λ b. b ≢ 10) bytes → IsUnfit market H bytes
no_line market H bytes none command reply is fits =
    has_line (command_text command) (reply_text reply)
    (subst (λ (l : List ℕ). AllByRecursion (λ b. b ≢ 10) l) is.text
    (recursion_from_All (λ b. b ≢ 10) bytes none))

-- nor are those whose first line is no command
pub no_command : (market : Market) (H : List Entry) (bytes line text : List ℕ)
    → All (λ b. b ≢ 10) line → bytes ≡ line ++ 10 ∷ text
    → ((c : Command) → IsCommand c → line ≢ command_text c) → IsUnfit market H bytes
no_command market H bytes line text none parts unread command reply is fits =
    unread command is.has_texts.0 (record_splits bytes command reply line text is none parts).0

-- nor those with no reply behind it
pub no_reply : (market : Market) (H : List Entry) (bytes line text : List ℕ)
    → All (λ b. b ≢ 10) line → bytes ≡ line ++ 10 ∷ text
    → ((r : Reply) → IsReply r → text ≢ reply_text r) → IsUnfit market H bytes
no_reply market H bytes line text none parts unread command reply is fits =
    unread reply is.has_texts.1 (record_splits bytes command reply line text is none parts).1

-- both texts are a record
pub both_read : (bytes line text : List ℕ) (command : Command) (reply : Reply)
    → bytes ≡ line ++ 10 ∷ text → IsCommand command × (line ≡ command_text command)
    → IsReply reply × (text ≡ reply_text reply) → IsRecord bytes command reply
both_read bytes line text command reply parts asked told = record {
  has_texts = (asked.0, told.0);
  text = parts ∙ ap (λ (l : List ℕ). l ++ 10 ∷ text) asked.1
      ∙ ap (λ (l : List ℕ). command_text command ++ 10 ∷ l) told.1;
}

-- where its change is not taken back, no other change of it is
pub unfit_record : (market : Market) (H : List Entry) (bytes : List ℕ) (command : Command)
    (reply : Reply) → IsRecord bytes command reply → (IsFit market H command reply → ⊥)
    → IsUnfit market H bytes
unfit_record market H bytes command reply is refused other another so fits =
    let same = record_holds_one bytes other command another reply so is in
    refused (subst (λ (c : Command). IsFit market H c reply) same.0
    (subst (λ (r : Reply). IsFit market H other r) same.1 fits))

-- nobody is quoted anything behind one record more
pub quotes_more : (market : Market) (bytes : List ℕ) (now new : Standing)
    → now ≡ unquoted now.history → IsTakenBack market now bytes new → new ≡ unquoted new.history
quotes_more market bytes now new quotes next =
    let to : Standing = after market now (OfCommand next.command) next.reply in
    let history : new.history ≡ to.history = ap (λ (s : Standing). s.history) next.next in
    let nobody : to.quotes ≡ no_quotes to.history =
    ap (λ (s : Standing). next_quotes market now.history s.quotes next.command next.reply) quotes
    ∙ fit_quotes_nobody market now.history next.command next.reply next.fits in
    next.next
    ∙ ap (λ (q : _). record { history = to.history; quotes = q }) nobody
    ∙ ap unquoted (sym history)

-- and it is taken back with those before it
pub taken_more : (market : Market) (old : List Entry) (records : List (List ℕ)) (bytes : List ℕ)
    (now new : Standing) → AreTakenBack market old records now.history
    → IsTakenBack (present market now.history) now bytes new
    → AreTakenBack market old (records ++ bytes ∷ []) new.history
taken_more market old records bytes now new taken next =
    let change : Command × Reply = (next.command, next.reply) in
    record {
      changes = taken.changes ++ change ∷ [];
      are = records_behind records (bytes ∷ []) taken.changes (change ∷ []) taken.are
          (next.is, tt);
      restores = restores_join market old now.history new.history taken.changes (change ∷ [])
          taken.restores (next.fits, ap (λ (s : Standing). s.history) next.next);
    }
