-- What a line that was given and answered leaves of a run.
use Rattle.std.proofs.Common.{◌≡◌, ℕ, ◌+◌, List, [], ◌∷◌, ◌++◌, length, Option, Some, None, IfSome}
use Rattle.std.proofs.Common.{◌⊎◌, inl, inr, refl, sym, ap, subst, ◌∙◌, arith, append_assoc}
use Rattle.std.proofs.Common.{length-append}
use Rattle.mk_io.specs.declared.lines.Next.{Next}
use Rattle.mk_io.specs.Outside.{append_known, prepend_known, IsAtEnd}
use Rattle.mk_io.specs.Stream.{StreamLine, stream_lines, EndsInLf, AreWholeLines}
use Rattle.mk_io.specs.Cutting.{Cutting, stream_left, TakesPiece, GivesLine, IsWithinLimits}
use Rattle.mk_io.proofs.Told.{append_known_twice}
use Rattle.mk_io.proofs.WholeLines.{whole_lines-append}
use Rattle.mk_rules.specs.Transcript.{Standing}
use Rattle.mk_session.specs.Transcript.{Start}
use Rattle.mk_session.specs.inner.Progress.{Gathers, AreGathered, IsBetween, IsPlaced, AreSaid}
use Rattle.mk_session.specs.inner.Progress.{IsSoFar}
use Rattle.mk_session.proofs.Answering.{no_more, then_answered, sound_so_far}
use Rattle.mk_session.proofs.Gathering.{parts_behind}

-- what is left of a source behind some bytes of it that are known
pub record IsRest (part whole : List ℕ) (source : Option (List ℕ)) : Type 0 where
  pub rest : List ℕ
  pub told : source ≡ Some rest
  pub parts : whole ≡ part ++ rest

pub rest_of : (part whole : List ℕ) (source : Option (List ℕ)) → Some whole ≡ prepend_known part
    source → IsRest part whole source
rest_of part whole None e = absurd (cc)
rest_of part whole (Some rest) e = record { rest = rest; told = refl; parts = cc }

-- the place behind a line that was given
pub record IsBehind (all done piece : List ℕ) (line : StreamLine) (last : Option Next)
    (after : Option (List ℕ)) : Type 0 where
  pub left : List ℕ
  pub bytes : all ≡ (done ++ piece) ++ left
  pub known : after ≡ Some left
  pub between : IsBetween last (done ++ piece) left
  pub ends : AreWholeLines (done ++ piece) ⊎ (left ≡ [])
  pub lines : stream_lines (done ++ piece) ≡ stream_lines done ++ line ∷ []

whole_more : (done piece : List ℕ) → EndsInLf piece → AreWholeLines (done ++ piece)
whole_more done piece lf = inr (record {
  front = done ++ lf.front;
  ended = ap (λ (xs : List ℕ). done ++ xs) lf.ended ∙ sym (append_assoc done lf.front (10 ∷ []));
})

between_of : (done piece left : List ℕ) (last : Option Next) (after : Option (List ℕ))
    → after ≡ Some left → TakesPiece piece last after
    → IsBetween last (done ++ piece) left
between_of done piece left last after told (inl lf) =
    subst (λ (o : Option Next). IsBetween o (done ++ piece) left) (sym lf.1)
    (whole_more done piece lf.0)
between_of done piece left last after told (inr end) =
    subst (λ (o : Option Next). IsBetween o (done ++ piece) left) (sym end.1)
    (subst (λ (o : Option (List ℕ)). IsAtEnd o) told end.0)

ends_of : (done piece left : List ℕ) (last : Option Next) (after : Option (List ℕ))
    → after ≡ Some left → TakesPiece piece last after
    → AreWholeLines (done ++ piece) ⊎ (left ≡ [])
ends_of done piece left last after told (inl lf) = inl (whole_more done piece lf.0)
ends_of done piece left last after told (inr end) = inr (subst (λ (o : Option (List ℕ)). IsAtEnd o)
    told end.0)

pub behind : (all done left : List ℕ) (line : StreamLine) (old new : Cutting)
    (source rest : Option (List ℕ)) → all ≡ done ++ left
    → stream_left old source ≡ Some left → AreWholeLines done
    → (gives : GivesLine line old new (stream_left old source) (stream_left new rest))
    → IsBehind all done gives.piece line new.last (stream_left new rest)
behind all done left line old new source rest bytes known whole gives =
    let r = rest_of gives.piece left (stream_left new rest) (sym known ∙ gives.taken) in
    let one : stream_lines gives.piece ≡ line ∷ [] =
    subst (λ (o : Option (List ℕ)). IfSome o (λ _. stream_lines gives.piece ≡ line ∷ [])) r.told
    gives.is_line in
    record {
      left = r.rest;
      bytes = bytes ∙ ap (λ (xs : List ℕ). done ++ xs) r.parts
          ∙ sym (append_assoc done gives.piece r.rest);
      known = r.told;
      between = between_of done gives.piece r.rest new.last (stream_left new rest) r.told
          gives.ends;
      ends = ends_of done gives.piece r.rest new.last (stream_left new rest) r.told gives.ends;
      lines = whole_lines-append done gives.piece whole
          ∙ ap (λ (ls : List StreamLine). stream_lines done ++ ls) one;
    }

-- where no answer stays, the lines that are done are whole
pub are_whole : (last : Option Next) (done left : List ℕ) → last ≡ None → IsBetween last done left
    → AreWholeLines done
are_whole last done left none between = subst (λ (o : Option Next). IsBetween o done left) none
    between

-- a line was given: the place is behind it
pub placed_next : (all : List ℕ) (line : StreamLine) (old new : Cutting)
    (source rest : Option (List ℕ)) (P Q : List StreamLine → Type 0) → old.last ≡ None
    → IsWithinLimits new → GivesLine line old new (stream_left old source) (stream_left new rest)
    → ((lines : List StreamLine) → P lines → Q (lines ++ line ∷ []))
    → IsPlaced all old source P → IsPlaced all new rest Q
placed_next all line old new source rest P Q none limits gives step far =
    let whole = are_whole old.last far.done far.left none far.between in
    let b = behind all far.done far.left line old new source rest far.bytes far.known whole gives in
    let count : length (stream_lines (far.done ++ gives.piece)) ≡ length (stream_lines far.done) +
    1 =
    ap (λ (ls : List StreamLine). length ls) b.lines ∙ length-append (stream_lines far.done)
    (line ∷ []) in
    let given : new.given ≡ length (stream_lines (far.done ++ gives.piece)) =
    omega (arith, gives.given, far.given, count) in
    let spent : new.spent ≡ length (far.done ++ gives.piece) =
    omega (arith, gives.spent, far.spent, length-append far.done gives.piece) in
    record {
      done = far.done ++ gives.piece;
      left = b.left;
      bytes = b.bytes;
      known = b.known;
      between = b.between;
      answers = subst Q (sym b.lines) (step (stream_lines far.done) far.answers);
      given = given;
      spent = spent;
      within = record {
        lines = omega (arith, given, limits.given);
        bytes =
            omega (arith, spent, limits.spent);
      };
    }

-- a line was given and answered: the run has come one line further
pub so_far_next : (start : Start) (all : List ℕ) (line : StreamLine) (old new : Cutting)
    (source rest : Option (List ℕ)) (now then : Standing)
    (before written after : Option (List ℕ)) (waited waits : List ℕ) → old.last ≡ None
    → IsWithinLimits new
    → GivesLine line old new (stream_left old source) (stream_left new rest)
    → AreGathered start.market now (line ∷ []) then written after waited waits
    → IsSoFar start all old source now before written waited
    → IsSoFar start all new rest then before after waits
so_far_next start all line old new source rest now then before written after waited waits none
    limits gives said far =
    let gone = said.gathers.gone in
    placed_next all line old new source rest (λ lines. AreSaid start lines now before written
    waited)
    (λ lines. AreSaid start lines then before after waits) none limits gives
    (λ lines saying. record {
      begins = saying.begins;
      bytes = saying.bytes ++ gone;
      added = said.gathers.added ∙ ap (λ (w : Option (List ℕ)). append_known w gone) saying.added
          ∙ append_known_twice before saying.bytes gone;
      answers = saying.answers ++ said.output;
      answered = then_answered start.market start.standing now then lines (line ∷ [])
          saying.answers said.output saying.answered (said.answered (sound_so_far start
          saying.begins lines now saying.answered.replies saying.answered.replied));
      printed = sym (parts_behind saying.bytes waited said.output gone waits said.gathers.parts)
          ∙ ap (λ (bytes : List ℕ). bytes ++ said.output) saying.printed
          ∙ append_assoc start.head saying.answers said.output;
    }) far

-- at a place, one fact for another
pub placed_same : (all : List ℕ) (cutting : Cutting) (source : Option (List ℕ))
    (P Q : List StreamLine → Type 0) → ((lines : List StreamLine) → P lines → Q lines)
    → IsPlaced all cutting source P → IsPlaced all cutting source Q
placed_same all cutting source P Q step far = record {
  done = far.done;
  left = far.left;
  bytes = far.bytes;
  known = far.known;
  between = far.between;
  answers = step (stream_lines far.done) far.answers;
  given = far.given;
  spent = far.spent;
  within = far.within;
}

-- some of what waits was written
pub still_so_far : (start : Start) (all : List ℕ) (cutting : Cutting) (source : Option (List ℕ))
    (now : Standing) (before written after : Option (List ℕ))
    (waited waits : List ℕ) → Gathers written after waited [] waits → IsSoFar start all cutting
    source now before written waited
    → IsSoFar start all cutting source now before after waits
still_so_far start all cutting source now before written after waited waits gathers far =
    placed_same all cutting source (λ lines. AreSaid start lines now before written waited)
    (λ lines. AreSaid start lines now before after waits)
    (λ lines said. record {
      begins = said.begins;
      bytes = said.bytes ++ gathers.gone;
      added = gathers.added ∙ ap (λ (w : Option (List ℕ)). append_known w gathers.gone) said.added
          ∙ append_known_twice before said.bytes gathers.gone;
      answers = said.answers;
      answered = said.answered;
      printed = sym (parts_behind said.bytes waited [] gathers.gone waits gathers.parts)
          ∙ no_more (said.bytes ++ waited) ∙ said.printed;
    }) far
