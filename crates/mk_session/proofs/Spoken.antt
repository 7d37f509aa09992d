-- One line and its reply: what they are to a run, and the record of the change.
use Rattle.std.proofs.Common.{◌≡◌, ◌≢◌, ℕ, ◌-◌, ◌≤◌, List, [], ◌∷◌, ◌++◌, length, take}
use Rattle.std.proofs.Common.{filter, Result, Err}
use Rattle.std.proofs.Common.{Option, Some, None, true, false, refl, sym, ap, subst, ◌∙◌, arith}
use Rattle.std.proofs.Common.{length-append, append_assoc}
use Rattle.std.specs.Prelude.{option_to_list}
use Rattle.std.specs.List.{flat_map, AllZip}
use Rattle.std.proofs.lemmas.List.{append-nil}
use Rattle.std.proofs.lemmas.List.Concat.{flat_map-cons}
use Rattle.std.proofs.Math.Seq.{take-append_seam}
use Rattle.mk_io.specs.Stream.{StreamLine, text, long, is_not_blank}
use Rattle.mk_journal.specs.Keepers.{Holds}
use Rattle.mk_exact.specs.History.{Entry}
use Rattle.mk_exact.specs.Market.{Market, present}
use Rattle.mk_command.specs.declared.command.Command.{Command}
use Rattle.mk_reply.specs.declared.reply.Reply.{Reply}
use Rattle.mk_reply.specs.declared.reply.Reply.TheVariants.{Refused}
use Rattle.mk_reply.specs.declared.refusal.Refusal.TheVariants.{Long}
use Rattle.mk_reply.specs.Replies.{reply_text}
use Rattle.mk_rules.specs.Answers.{entry_of}
use Rattle.mk_rules.specs.Transcript.{Standing, Line, OfCommand, NoCommand, LongLine, after}
use Rattle.mk_restore.specs.Restoring.{Changes, change_of}
use Rattle.mk_session.specs.Texts.{reply_line}
use Rattle.mk_session.specs.Transcript.{Asks, AreAnswered}
use Rattle.mk_session.specs.inner.Progress.{IsSoundAt}
use Rattle.mk_session.specs.Left.{records_of, LeavesSince}
use Rattle.mk_session.specs.inner.Keeping.{IsSpoken, AreSpoken, AreMade, HoldsSince, Tells}
use Rattle.mk_session.specs.inner.Keeping.{SpeaksAndTells}
use Rattle.mk_session.specs.declared.waiting.TellFault.{TellFault}
use Rattle.mk_session.specs.declared.waiting.TellFault.TheVariants.{Disk}
use Rattle.mk_session.proofs.Answering.{one_replied, one_answered}

pub answered_when_spoken : (market : Market) (old : Standing) (line : StreamLine) (new : Standing)
    (output : List ℕ) → is_not_blank line ≡ true → IsSpoken market old line new output
    → IsSoundAt market old → AreAnswered market old (line ∷ []) new output
answered_when_spoken market old line new output busy spoken sound =
    subst (AreAnswered market old (line ∷ []) new) (sym spoken.printed)
    (subst (λ (then : Standing). AreAnswered market old (line ∷ []) then (reply_line spoken.reply))
    (sym spoken.next)
    (one_answered market old (line ∷ [])
    (after (present market old.history) old spoken.asked spoken.reply) spoken.reply
    (one_replied market old line spoken.asked spoken.reply busy spoken.asks
    (spoken.allowed sound))))

pub one_spoken : (market : Market) (old : Standing) (line : StreamLine) (new : Standing)
    (output : List ℕ) → is_not_blank line ≡ true
    → (spoken : IsSpoken market old line new output)
    → (P : List ℕ → List (List ℕ) → Type 0)
    → P output (records_of (change_of (present market old.history) old.history spoken.asked
    spoken.reply))
    → AreSpoken market old (line ∷ []) new P
one_spoken market old line new output busy spoken P holds =
    let one : filter is_not_blank (line ∷ []) ≡ line ∷ [] = rw busy refl in
    let change : Changes =
    change_of (present market old.history) old.history spoken.asked spoken.reply in
    let printed : output ≡ flat_map reply_line (spoken.reply ∷ []) =
    spoken.printed ∙ sym (flat_map-cons reply_line spoken.reply []
    ∙ append-nil (reply_line spoken.reply)) in
    let same : records_of change ≡ records_of (change ++ []) =
    ap records_of (sym (append-nil change)) in
    record {
      asked = spoken.asked ∷ [];
      replies = spoken.reply ∷ [];
      asks = subst (λ (ls : List StreamLine). AllZip Asks ls (spoken.asked ∷ [])) (sym one)
          (spoken.asks, tt);
      run = λ sound. (spoken.allowed sound, spoken.next);
      holds = subst (λ (bytes : List ℕ). P bytes (records_of (change ++ []))) printed
          (subst (λ (records : List (List ℕ)). P output records) same holds);
    }

-- a blank line gets no reply
pub blank_spoken : (market : Market) (now : Standing) (line : StreamLine)
    → is_not_blank line ≡ false → (P : List ℕ → List (List ℕ) → Type 0) → P [] []
    → AreSpoken market now (line ∷ []) now P
blank_spoken market now line blank P holds =
    let none : filter is_not_blank (line ∷ []) ≡ [] = rw blank refl in
    record {
      asked = [];
      replies = [];
      asks = subst (λ (ls : List StreamLine). AllZip Asks ls []) (sym none) tt;
      run = λ sound. refl;
      holds = holds;
    }

pub spoken_also : (market : Market) (old : Standing) (lines : List StreamLine) (new : Standing)
    (P Q : List ℕ → List (List ℕ) → Type 0)
    → ((output : List ℕ) (records : List (List ℕ)) → P output records → Q output records)
    → AreSpoken market old lines new P → AreSpoken market old lines new Q
spoken_also market old lines new P Q step spoken = record {
  asked = spoken.asked;
  replies = spoken.replies;
  asks = spoken.asks;
  run = spoken.run;
  holds = step _ _ spoken.holds;
}

-- where the history is no longer, no change was made
no_entry : (H : List Entry) (change : Command × Reply) (o : Option Entry)
    → length (H ++ option_to_list o) ≡ length H
    → (elim o as (λ x. Changes) [ None ↦ [] | Some e ↦ change ∷ [] ]) ≡ []
no_entry H change None same = refl
no_entry H change (Some e) same = absurd (omega (arith, length-append H (e ∷ [])))

pub no_change : (market : Market) (old new : Standing) (asked : Line) (reply : Reply)
    → new ≡ after market old asked reply → length new.history ≡ length old.history
    → change_of market old.history asked reply ≡ []
no_change market old new (OfCommand command) reply next same =
    no_entry old.history (command, reply) (entry_of market old.history command reply)
    (sym (ap (λ (s : Standing). length s.history) next) ∙ same)
no_change market old new NoCommand reply next same = refl
no_change market old new LongLine reply next same = refl

-- where it is, the line made one
some_entry : (H : List Entry) (change : Command × Reply) (o : Option Entry)
    → length (H ++ option_to_list o) ≢ length H
    → (elim o as (λ x. Changes) [ None ↦ [] | Some e ↦ change ∷ [] ]) ≡ change ∷ []
some_entry H change None other = absurd (other (ap (λ (l : List Entry). length l) (append-nil H)))
some_entry H change (Some e) other = refl

pub one_record : (market : Market) (old new : Standing) (bytes : List ℕ) (asked : Line)
    (reply : Reply) → Asks (text bytes) asked → new ≡ after market old asked reply
    → length new.history ≢ length old.history
    → records_of (change_of market old.history asked reply)
    ≡ (bytes ++ 10 ∷ reply_text reply) ∷ []
one_record market old new bytes (OfCommand command) reply asks next other =
    let made = some_entry old.history (command, reply) (entry_of market old.history command reply)
    (λ same. other (ap (λ (s : Standing). length s.history) next ∙ same)) in
    ap records_of made ∙ ap (λ (line : List ℕ). (line ++ 10 ∷ reply_text reply) ∷ []) (sym asks.1)
one_record market old new bytes NoCommand reply asks next other =
    absurd (other (ap (λ (s : Standing). length s.history) next))
one_record market old new bytes LongLine reply asks next other = absurd asks

-- the printed line of a reply without its LF
pub text_of_line : (reply : Reply) (printed : List ℕ) → printed ≡ reply_line reply
    → take (length printed - 1) printed ≡ reply_text reply
text_of_line reply printed is =
    let size : length (reply_line reply) - 1 ≡ length (reply_text reply) =
    omega (arith, length-append (reply_text reply) (10 ∷ [])) in
    ap (λ (bytes : List ℕ). take (length bytes - 1) bytes) is
    ∙ ap (λ (n : ℕ). take n (reply_line reply)) size
    ∙ take-append_seam (reply_text reply) (10 ∷ [])

-- the same reply, where its line was read and printed elsewhere
pub spoken_as : (market : Market) (old : Standing) (heard line : List ℕ) (new : Standing)
    (printed output : List ℕ) → heard ≡ line → output ≡ printed
    → IsSpoken market old (text heard) new printed → IsSpoken market old (text line) new output
spoken_as market old heard line new printed output e f spoken =
    subst (λ (bytes : List ℕ). IsSpoken market old (text line) new bytes) (sym f)
    (subst (λ (bytes : List ℕ). IsSpoken market old (text bytes) new printed) e spoken)

-- the records of what it changed
pub made_when_spoken : (market : Market) (old : Standing) (line : List ℕ) (new : Standing)
    (printed output : List ℕ) (before : ℕ) → before ≡ length old.history → output ≡ printed
    → (spoken : IsSpoken market old (text line) new output)
    → AreMade (length new.history) before line printed
    (records_of (change_of (present market old.history) old.history spoken.asked spoken.reply))
made_when_spoken market old line new printed output before was e spoken =
    let here = present market old.history in
    record {
      none = λ same. ap records_of (no_change here old new spoken.asked spoken.reply spoken.next
          (same ∙ was));
      one = λ other.
          one_record here old new line spoken.asked spoken.reply spoken.asks spoken.next
          (λ same. other (same ∙ sym was))
          ∙ ap (λ (reply : List ℕ). (line ++ 10 ∷ reply) ∷ [])
          (sym (text_of_line spoken.reply printed (sym e ∙ spoken.printed)));
    }

-- a keeper that keeps nothing holds changes that it did not take
pub spared : (holds : List (List ℕ) → List (List ℕ) → Type 0)
    → ((change : List ℕ) (kept waiting : List (List ℕ)) → holds kept waiting
    → holds kept (waiting ++ change ∷ []))
    → (least : ℕ) (all records : List (List ℕ)) → Holds holds least all
    → Holds holds least (all ++ records)
spared holds spares least all [] held =
    subst (λ (l : List (List ℕ)). Holds holds least l) (sym (append-nil all)) held
spared holds spares least all (r ∷ records) held =
    subst (λ (l : List (List ℕ)). Holds holds least l) (append_assoc all (r ∷ []) records)
    (spared holds spares least (all ++ r ∷ []) records (record {
      kept = held.kept;
      waiting = held.waiting ++ r ∷ [];
      no_fewer = held.no_fewer;
      parts = ap (λ (l : List (List ℕ)). l ++ r ∷ []) held.parts
          ∙ append_assoc held.kept held.waiting (r ∷ []);
      held = spares r held.kept held.waiting held.held;
    }))

-- and a crash leaves a front of them
pub spared_since : (holds : List (List ℕ) → List (List ℕ) → Type 0)
    (passes : List (List ℕ) → ℕ → Type 0)
    → ((change : List ℕ) (kept waiting : List (List ℕ)) → holds kept waiting
    → holds kept (waiting ++ change ∷ []))
    → ((all more : List (List ℕ)) (least fewer : ℕ) → fewer ≤ least → passes all least
    → passes (all ++ more) fewer)
    → (first least : ℕ) (all records : List (List ℕ)) → HoldsSince holds passes first least all
    → HoldsSince holds passes first least (all ++ records)
spared_since holds passes spares fewer first least all records since = record {
  held = spared holds spares least all records since.held;
  no_fewer = since.no_fewer;
  passed = fewer all records first first (omega arith) since.passed;
}

-- a line that is too long makes no change
pub long_spoken : (market : Market) (now : Standing) (all : List (List ℕ))
    (Q : List ℕ → List (List ℕ) → Type 0) → Q (reply_line (Refused Long)) all
    → AreSpoken market now (long ∷ []) now (λ output records. Q output (all ++ records))
long_spoken market now all Q holds =
    one_spoken market now long now (reply_line (Refused Long)) refl
    (record {
      asked = LongLine;
      reply = Refused Long;
      asks = tt;
      allowed = λ sound. refl;
      next = refl;
      printed = refl;
    })
    (λ output records. Q output (all ++ records))
    (subst (λ (l : List (List ℕ)). Q (reply_line (Refused Long)) l) (sym (append-nil all)) holds)

-- what is left of the changes that were held is left of more
pub still : (P : List (List ℕ) → ℕ → Type 0)
    → ((all more : List (List ℕ)) (least fewer : ℕ) → fewer ≤ least → P all least
    → P (all ++ more) fewer)
    → (kept waiting before after more : List (List ℕ)) (least : ℕ) → before ≡ kept ++ waiting
    → least ≤ length kept → after ≡ before ++ more → P (kept ++ waiting) (length kept)
    → P after least
still P fewer kept waiting before after more least parts enough longer p =
    subst (λ (l : List (List ℕ)). P l least)
    (sym (longer ∙ ap (λ (l : List (List ℕ)). l ++ more) parts))
    (fewer (kept ++ waiting) more (length kept) least enough p)

-- what is held, a crash leaves
pub left_as_held : (holds : List (List ℕ) → List (List ℕ) → Type 0)
    (leaves passes : List (List ℕ) → ℕ → Type 0)
    → ((all more : List (List ℕ)) (least fewer : ℕ) → fewer ≤ least → leaves all least
    → leaves (all ++ more) fewer)
    → ((kept waiting : List (List ℕ)) → holds kept waiting
    → leaves (kept ++ waiting) (length kept))
    → (first least : ℕ) (all : List (List ℕ)) → HoldsSince holds passes first least all
    → LeavesSince leaves passes first all least
left_as_held holds leaves passes fewer leave first least all since =
    let held = since.held in
    record {
      now = still leaves fewer held.kept held.waiting all all [] least held.parts held.no_fewer
          (sym (append-nil all)) (leave held.kept held.waiting held.held);
      any_moment = since.passed;
    }

module _ {T : Type 0} (said : Result T TellFault) (market : Market)
    (before after : Option (List ℕ)) (waited waits : List ℕ) (least : ℕ) (all : List (List ℕ))
    (holds : ℕ → List (List ℕ) → Type 0) (leaves : List (List ℕ) → ℕ → Type 0) where
  -- a line that is too long was told of, or waits
  pub long_tells : (now : Standing)
      → Tells said before after waited (reply_line (Refused Long)) waits least (length all)
      (λ n. holds n all) (leaves all)
      → SpeaksAndTells said market now (long ∷ []) now before after waited waits least all holds
      leaves
  long_tells now tells = long_spoken market now all
      (λ output l. Tells said before after waited output waits least (length l) (λ n. holds n l)
      (leaves l)) tells

  -- the line of a reply was, whose change is held
  pub text_tells : (old new : Standing) (lines : List StreamLine) (printed line mid : List ℕ)
      (held : List (List ℕ) → Type 0) → line ≡ printed → mid ≡ waited
      → ((all : List (List ℕ)) → held all → Tells said before after mid line waits least
      (length all) (λ n. holds n all) (leaves all))
      → AreSpoken market old lines new
      (λ output records. (printed ≡ output) × held (all ++ records))
      → SpeaksAndTells said market old lines new before after waited waits least all holds leaves
  text_tells old new lines printed line mid held same still tells spoken =
      spoken_also market old lines new _ _
      (λ output records p.
      subst (λ (w : List ℕ). Tells said before after w output waits least
      (length (all ++ records)) (λ n. holds n (all ++ records)) (leaves (all ++ records)))
      still
      (subst (λ (more : List ℕ). Tells said before after mid more waits least
      (length (all ++ records)) (λ n. holds n (all ++ records)) (leaves (all ++ records)))
      (same ∙ p.0) (tells (all ++ records) p.1))) spoken

-- the disk failed before a line was told of
pub untaken : (market : Market) (old new : Standing) (lines : List StreamLine)
    (written : Option (List ℕ)) (waited waits printed : List ℕ) (least : ℕ)
    (all : List (List ℕ)) (holds : ℕ → List (List ℕ) → Type 0) (leaves : List (List ℕ) → ℕ → Type 0)
    → AreSpoken market old lines new
    (λ output records. (printed ≡ output) × leaves (all ++ records) least)
    → SpeaksAndTells {T = Unit {0}} (Err Disk) market old lines new written written waited waits
    least all holds leaves
untaken market old new lines written waited waits printed least all holds leaves spoken =
    spoken_also market old lines new _ _ (λ output records p. (refl, p.1)) spoken
