-- What a line that was given leaves of an audit: it goes on one line further, or it ends there.
use Rattle.std.proofs.Common.{◌≡◌, ℕ, ◌+◌, List, [], ◌∷◌, ◌++◌, true, Option, Some, None}
use Rattle.std.proofs.Common.{Result, Ok, Err, IfNone, IfSome, MatchOption, ◌⊎◌, inl, inr}
use Rattle.std.proofs.Common.{sym, ap, subst, ◌∙◌, arith, append_assoc, length-append}
use Rattle.std.specs.List.{flat_map}
use Rattle.std.proofs.lemmas.Grind.{flat_map-append}
use Rattle.std.proofs.lemmas.List.{append_cancel_left}
use Rattle.mk_io.specs.Stream.{StreamLine, stream_lines, AreWholeLines, is_not_blank}
use Rattle.mk_io.specs.Cutting.{Cutting, stream_left, GivesLine, IsWithinLimits}
use Rattle.mk_io.proofs.WholeLines.{whole_lines-append}
use Rattle.mk_exact.specs.Market.{Market, present}
use Rattle.mk_reply.specs.declared.reply.Reply.{Reply}
use Rattle.mk_rules.specs.Standings.{IsMarket}
use Rattle.mk_rules.specs.Transcript.{Standing, opening, IsAllowedFor, after}
use Rattle.mk_session.specs.Transcript.{AreReplied}
use Rattle.mk_session.specs.Texts.{ready_line, reply_line}
use Rattle.mk_session.specs.Outcome.{IsFrontOf}
use Rattle.mk_session.proofs.Answering.{no_more, blank_replied, one_replied, then_replied}
use Rattle.mk_session.proofs.Underway.{are_whole, behind, placed_next}
use Rattle.mk_verify.specs.Clear.{IsOpen}
use Rattle.mk_audit.specs.declared.verdict.Verdict.{Verdict}
use Rattle.mk_audit.specs.declared.verdict.Verdict.TheVariants.{Yes, No, Unsure}
use Rattle.mk_audit.specs.declared.verdict.AuditFault.{AuditFault}
use Rattle.mk_audit.specs.declared.verdict.AuditFault.TheVariants.{Read, TooMany, Memory}
use Rattle.mk_audit.specs.declared.front.Front.{Front}
use Rattle.mk_audit.specs.Verdicts.{IsReached, IsWrongAt, Disallowed, IsOpenNext}
use Rattle.mk_audit.specs.Verdicts.{AuditEnds, HasAuditCause}
use Rattle.mk_audit.specs.inner.Progress.{standing_at, left_of, IsPassed, IsStuck, IsUndecided}
use Rattle.mk_audit.specs.inner.Progress.{AreRepliesTo, EndsAt, Holds, IsHeld, IsSoFar}

-- the replies to a line in the market as it stands are those of a run of the file's market
step_replied : (start market : Market) (old new : Standing) (line : StreamLine)
    (replies : List Reply) → market ≡ present start old.history
    → AreRepliesTo line market old new replies → AreReplied start old (line ∷ []) new replies
step_replied start market old new line [] at blank =
    subst (λ (s : Standing). AreReplied start old (line ∷ []) s []) (sym blank.1)
    (blank_replied start old line blank.0)
step_replied start market old new line (reply ∷ []) at its =
    subst (λ (s : Standing). AreReplied start old (line ∷ []) s (reply ∷ []))
    (sym (its.leads ∙ ap (λ (m : Market). after m old its.asked reply) at))
    (one_replied start old line its.asked reply its.not_blank its.asks
    (subst (λ (m : Market). IsAllowedFor m old its.asked reply) at its.allowed))
step_replied start market old new line (reply ∷ another ∷ replies) at none = absurd none

held_next : (start market : Market) (lines : List StreamLine) (line : StreamLine)
    (old new : Standing) (transcript left rest : List ℕ) (before after : ℕ)
    → market ≡ present start old.history → IsPassed market old new line left rest before after
    → IsHeld start lines old transcript left before
    → IsHeld start (lines ++ line ∷ []) new transcript rest after
held_next start market lines line old new transcript left rest before after at passed held =
    let right = held.right in
    let bytes = flat_map reply_line passed.replies in
    record {
      front = held.front ++ bytes;
      right = record {
        replies = right.replies ++ passed.replies;
        replied = then_replied start opening old new lines (line ∷ []) right.replies passed.replies
            right.replied
            (step_replied start market old new line passed.replies at passed.replied);
        printed = ap (λ (xs : List ℕ). xs ++ bytes) right.printed
            ∙ append_assoc (ready_line start) (flat_map reply_line right.replies) bytes
            ∙ ap (λ (xs : List ℕ). ready_line start ++ xs)
            (sym (flat_map-append reply_line right.replies passed.replies));
        counted = omega (
          arith,
          passed.counted,
          right.counted,
          length-append right.replies passed.replies,
        );
      };
      parts = held.parts ∙ ap (λ (xs : List ℕ). held.front ++ xs) passed.stand
          ∙ sym (append_assoc held.front bytes rest);
    }

-- a line was given and passed
so_far_next : (start market : Market) (all : List ℕ) (line : StreamLine) (old new : Cutting)
    (source rest : Option (List ℕ)) (now then : Standing) (transcript : List ℕ)
    (before after : Front) → market ≡ present start now.history → old.last ≡ None
    → IsWithinLimits new
    → GivesLine line old new (stream_left old source) (stream_left new rest)
    → IsPassed market (standing_at now before) (standing_at then after) line
    (left_of transcript before) (left_of transcript after) before.right after.right
    → IsSoFar start all old source now transcript before
    → IsSoFar start all new rest then transcript after
so_far_next start market all line old new source rest now then transcript before after at none
    limits gives passed far =
    placed_next all line old new source rest
    (λ lines. IsHeld start lines (standing_at now before) transcript (left_of transcript before)
    before.right)
    (λ lines. IsHeld start lines (standing_at then after) transcript (left_of transcript after)
    after.right) none limits gives
    (λ lines held. held_next start market lines line (standing_at now before)
    (standing_at then after) transcript (left_of transcript before) (left_of transcript after)
    before.right after.right at passed held) far

-- all lines are those that are done, the one that was given, and those that are left
lines_of : (all done piece left : List ℕ) (line : StreamLine) → all ≡ (done ++ piece) ++ left
    → AreWholeLines (done ++ piece) ⊎ (left ≡ [])
    → stream_lines (done ++ piece) ≡ stream_lines done ++ line ∷ []
    → stream_lines all ≡ stream_lines done ++ line ∷ stream_lines left
lines_of all done piece left line bytes (inl whole) one =
    ap (λ (xs : List ℕ). stream_lines xs) bytes
    ∙ whole_lines-append (done ++ piece) left whole
    ∙ ap (λ (ls : List StreamLine). ls ++ stream_lines left) one
    ∙ append_assoc (stream_lines done) (line ∷ []) (stream_lines left)
lines_of all done piece left line bytes (inr none) one =
    let whole : all ≡ done ++ piece = bytes
    ∙ ap (λ (xs : List ℕ). (done ++ piece) ++ xs) none ∙ no_more (done ++ piece) in
    ap (λ (xs : List ℕ). stream_lines xs) whole ∙ one
    ∙ ap (λ (xs : List ℕ). stream_lines done ++ line ∷ stream_lines xs) (sym none)

-- what stands behind a front is what is left
behind_front : (transcript bytes left line : List ℕ) → transcript ≡ bytes ++ left
    → IsFrontOf transcript (bytes ++ line) → IsFrontOf left line
behind_front transcript bytes left line parts front = record {
  rest = front.rest;
  parts = append_cancel_left bytes left (line ++ front.rest)
      (sym parts ∙ front.parts ∙ append_assoc bytes line front.rest);
}

-- and what is left begins as it stands behind the front
in_front : (transcript bytes left line : List ℕ) → transcript ≡ bytes ++ left
    → IsFrontOf left line → IsFrontOf transcript (bytes ++ line)
in_front transcript bytes left line parts front = record {
  rest = front.rest;
  parts = parts ∙ ap (λ (xs : List ℕ). bytes ++ xs) front.parts
      ∙ sym (append_assoc bytes line front.rest);
}

-- a line was given behind lines that were passed
module _ (start market : Market) (all : List ℕ) (line : StreamLine) (old new : Cutting)
    (source rest : Option (List ℕ)) (now : Standing) (transcript : List ℕ) (front : Front)
    (at : market ≡ present start now.history) (none : old.last ≡ None)
    (gives : GivesLine line old new (stream_left old source) (stream_left new rest))
    (far : IsSoFar start all old source now transcript front) where
  -- the lines before it have a right front
  reached : (next : StreamLine → List StreamLine → Standing → List ℕ → Type 0)
      → is_not_blank line ≡ true
      → ((others : List StreamLine) (bytes : List ℕ)
      → transcript ≡ bytes ++ left_of transcript front
      → next line others (standing_at now front) bytes)
      → IsReached start (stream_lines all) transcript front.right next
  reached next busy there =
      let whole = are_whole old.last far.done far.left none far.between in
      let b = behind all far.done far.left line old new source rest far.bytes far.known whole
      gives in
      let held = far.answers in
      record {
        done = stream_lines far.done;
        line = line;
        rest = stream_lines b.left;
        parts = lines_of all far.done gives.piece b.left line b.bytes b.ends b.lines;
        not_blank = busy;
        now = standing_at now front;
        front = held.front;
        right = held.right;
        begins = record { rest = left_of transcript front; parts = held.parts };
        there = there (stream_lines b.left) held.front held.parts;
      }

  is_wrong : IsStuck market (standing_at now front) line (left_of transcript front)
      → IsWrongAt start (stream_lines all) transcript (front.right + 1)
  is_wrong stuck =
      Disallowed front.right (reached _ stuck.not_blank (λ others bytes parts. (
        stuck.asked,
        stuck.asks,
        λ gone. stuck.none gone.reply
            (subst (λ (m : Market). IsAllowedFor m (standing_at now front) stuck.asked gone.reply)
            (sym at) gone.allowed)
            (behind_front transcript bytes (left_of transcript front) (reply_line gone.reply)
            parts gone.stands),
      )))

  open_next : IsUndecided market (standing_at now front) line (left_of transcript front)
      → IsOpenNext start (stream_lines all) transcript front.right
  open_next told =
      reached _ told.not_blank (λ others bytes parts. (
        told.command,
        told.reply,
        told.asks,
        told.is_reply,
        in_front transcript bytes (left_of transcript front) (reply_line told.reply) parts
            told.stands,
        subst (λ (m : Market). IsOpen m now.history front.known.quotes told.command told.reply) at
            told.is_open,
      ))

  -- the audit ends at that line
  ends_there : (end : Result Verdict AuditFault)
      → EndsAt end market (standing_at now front) line (left_of transcript front) front.right
      → AuditEnds end start all transcript
  ends_there (Ok (Yes n)) h = absurd h
  ends_there (Ok (No n)) h =
      subst (IsWrongAt start (stream_lines all) transcript) (sym h.0) (is_wrong h.1)
  ends_there (Ok (Unsure n)) h = (front.right, h.0, open_next h.1)
  ends_there (Err Read) h = tt
  ends_there (Err TooMany) h = absurd h
  ends_there (Err Memory) h = tt

-- what is found of a line that was given, where the audit goes on
pub goes_on_behind : (ended : Option (Result Verdict AuditFault)) (market : Market)
    (line : StreamLine) (old new : Cutting) (source rest : Option (List ℕ)) (now then : Standing)
    (transcript : List ℕ) (before after : Front) → old.last ≡ None → IsWithinLimits new
    → GivesLine line old new (stream_left old source) (stream_left new rest)
    → Holds ended market now then line transcript before after
    → IfNone ended ((start : Market) (all : List ℕ) → market ≡ present start now.history
    → IsSoFar start all old source now transcript before
    → IsSoFar start all new rest then transcript after)
goes_on_behind None market line old new source rest now then transcript before after none limits
    gives passed =
    λ start all at far. so_far_next start market all line old new source rest now then transcript
    before after at none limits gives passed far
goes_on_behind (Some end) market line old new source rest now then transcript before after none
    limits gives h = tt

-- and where it ends
pub ends_behind : (ended : Option (Result Verdict AuditFault)) (market : Market)
    (line : StreamLine) (old new : Cutting) (source rest : Option (List ℕ)) (now then : Standing)
    (transcript : List ℕ) (before after : Front) → old.last ≡ None
    → GivesLine line old new (stream_left old source) (stream_left new rest)
    → Holds ended market now then line transcript before after
    → IfSome ended (λ end. (start : Market) (all : List ℕ) → IsMarket start
    → market ≡ present start now.history → IsSoFar start all old source now transcript before
    → AuditEnds end start all transcript)
ends_behind None market line old new source rest now then transcript before after none gives h = tt
ends_behind (Some end) market line old new source rest now then transcript before after none gives
    h = λ start all is_market at far. ends_there start market all line old new source rest now
    transcript before at none gives far end h

-- no read failed at a line that was given
cause_there : (end : Result Verdict AuditFault) (market : Market) (now : Standing)
    (line : StreamLine) (left : List ℕ) (count before after : ℕ) → after ≡ before
    → EndsAt end market now line left count → HasAuditCause end before after
cause_there (Ok verdict) market now line left count before after same h = same
cause_there (Err Read) market now line left count before after same h = absurd h
cause_there (Err TooMany) market now line left count before after same h = same
cause_there (Err Memory) market now line left count before after same h = same

pub cause_behind : (ended : Option (Result Verdict AuditFault)) (market : Market)
    (line : StreamLine) (now then : Standing) (transcript : List ℕ) (front behind : Front)
    (before after : ℕ) → after ≡ before
    → Holds ended market now then line transcript front behind
    → MatchOption ended (after ≡ before) (λ end. HasAuditCause end before after)
cause_behind None market line now then transcript front behind before after same h = same
cause_behind (Some end) market line now then transcript front behind before after same h =
    cause_there end market (standing_at now front) line (left_of transcript front) front.right
    before after same h
