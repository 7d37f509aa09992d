-- What an answered line leaves of the changes that are held, and what a crash leaves of them.
use Rattle.std.proofs.Common.{◌≡◌, ℕ, ◌+◌, ◌≤◌, List, ◌++◌, length, filter}
use Rattle.std.proofs.Common.{Option, Result, Ok, Err, OnOk, OnErr}
use Rattle.std.proofs.Common.{inl, inr, refl, sym, ap, subst, ◌∙◌, arith, append_assoc}
use Rattle.std.proofs.Common.{length-append}
use Rattle.std.specs.List.{flat_map, AllZip}
use Rattle.std.proofs.lemmas.List.{length-map, map-append}
use Rattle.std.proofs.lemmas.List.Elements.{filter-append}
use Rattle.std.proofs.lemmas.Grind.{flat_map-append}
use Rattle.mk_io.specs.Outside.{append_known, AddsFront}
use Rattle.mk_io.specs.Stream.{StreamLine, is_not_blank}
use Rattle.mk_io.specs.Cutting.{Cutting}
use Rattle.mk_io.proofs.Told.{append_known_twice}
use Rattle.mk_reply.specs.declared.reply.Reply.{Reply}
use Rattle.mk_rules.specs.Transcript.{Standing, Line, Run}
use Rattle.mk_rules.proofs.Keeps.{runs_join}
use Rattle.mk_restore.specs.Restoring.{changes_of}
use Rattle.mk_session.specs.declared.waiting.TellFault.{TellFault}
use Rattle.mk_session.specs.declared.waiting.TellFault.TheVariants.{Disk, Sink}
use Rattle.mk_session.specs.Texts.{reply_line}
use Rattle.mk_session.specs.Transcript.{Start, Asks}
use Rattle.mk_session.specs.Outcome.{IsFrontOf}
use Rattle.mk_session.specs.inner.Progress.{IsPlaced}
use Rattle.mk_session.specs.Left.{record_of, records_of, changes_from, AreTold, IsLeft}
use Rattle.mk_session.specs.inner.Keeping.{AreSpoken, SpeaksAndTells, AreHeld, AreLeft}
use Rattle.mk_session.proofs.Answering.{asks_behind, sound_so_far}
use Rattle.mk_session.proofs.Endings.{whole_or_none}
use Rattle.mk_session.proofs.Records.{are_recorded}
use Rattle.mk_session.proofs.Keeping.{same_number, changes_behind, told_more, all_told}
use Rattle.mk_session.proofs.Keeping.{told_in_front}

module _ (start : Start) (lines more : List StreamLine) (now then : Standing)
    (before written after : Option (List ℕ)) (waited waits : List ℕ) (old : List (List ℕ))
    (holds holds' : ℕ → List (List ℕ) → Type 0) (leaves : List (List ℕ) → ℕ → Type 0)
    (far : AreHeld start lines now before written waited old holds) where
  abbrev records : List (List ℕ)
  records = records_of (changes_from start far.asked far.replies)

  module _ (P : List ℕ → List (List ℕ) → Type 0)
      (said : AreSpoken start.market now more then P) where
    abbrev asked : List Line
    asked = far.asked ++ said.asked

    abbrev replies : List Reply
    replies = far.replies ++ said.replies

    abbrev others : List (List ℕ)
    others = records_of (changes_of start.market now said.asked said.replies)

    run : Run start.market start.standing asked replies then
    run = runs_join start.market start.standing now then far.asked said.asked far.replies
        said.replies far.run (said.run (sound_so_far start far.begins lines now far.replies
        (record { asked = far.asked; asks = far.asks; run = far.run })))

    asks : AllZip Asks (filter is_not_blank (lines ++ more)) asked
    asks = subst (λ (qs : List StreamLine). AllZip Asks qs asked)
        (sym (filter-append is_not_blank lines more))
        (asks_behind (filter is_not_blank lines) (filter is_not_blank more) far.asked said.asked
        far.asks said.asks)

    all_records : old ++ records_of (changes_from start asked replies)
        ≡ (old ++ records) ++ others
    all_records =
        ap (λ (rs : List (List ℕ)). old ++ rs)
        (ap records_of (changes_behind start.market start.standing now far.asked said.asked
        far.replies said.replies far.run)
        ∙ map-append record_of (changes_from start far.asked far.replies)
        (changes_of start.market now said.asked said.replies))
        ∙ sym (append_assoc old records others)

    all_count : length old + length (changes_from start asked replies)
        ≤ length ((old ++ records) ++ others)
    all_count =
        omega (
          arith,
          ap (λ (rs : List (List ℕ)). length rs) all_records,
          length-append old (records_of (changes_from start asked replies)),
          length-map (changes_from start asked replies) record_of,
        )

    no_fewer : length old ≤ length ((old ++ records) ++ others)
    no_fewer = omega (arith, length-append old records, length-append (old ++ records) others)

    not_yet : AreTold start asked replies (λ text. length text ≤ length far.bytes) (length old)
        far.least
    not_yet = told_more start far.asked said.asked far.replies said.replies far.bytes waited
        (length old) far.least
        (same_number start.market start.standing now far.asked far.replies far.run) far.printed
        far.told

    abbrev output : List ℕ
    output = flat_map reply_line said.replies

    all_printed : (far.bytes ++ waited) ++ output ≡ start.head ++ flat_map reply_line replies
    all_printed = ap (λ (text : List ℕ). text ++ output) far.printed
        ∙ append_assoc start.head (flat_map reply_line far.replies) output
        ∙ ap (λ (text : List ℕ). start.head ++ text)
        (sym (flat_map-append reply_line far.replies said.replies))

    held_stays : after ≡ written → waits ≡ waited ++ output
        → holds' far.least ((old ++ records) ++ others)
        → AreHeld start (lines ++ more) then before after waits old holds'
    held_stays still wait held = record {
      begins = far.begins;
      bytes = far.bytes;
      added = still ∙ far.added;
      asked = asked;
      replies = replies;
      asks = asks;
      run = run;
      printed = ap (λ (text : List ℕ). far.bytes ++ text) wait
          ∙ sym (append_assoc far.bytes waited output) ∙ all_printed;
      least = far.least;
      no_fewer = far.no_fewer;
      told = not_yet;
      held = subst (λ (rs : List (List ℕ)). holds' far.least rs) (sym all_records) held;
    }

    held_goes : after ≡ append_known written waited → waits ≡ output
        → holds' (length ((old ++ records) ++ others)) ((old ++ records) ++ others)
        → AreHeld start (lines ++ more) then before after waits old holds'
    held_goes gone wait held = record {
      begins = far.begins;
      bytes = far.bytes ++ waited;
      added = gone ∙ ap (λ (w : Option (List ℕ)). append_known w waited) far.added
          ∙ append_known_twice before far.bytes waited;
      asked = asked;
      replies = replies;
      asks = asks;
      run = run;
      printed = ap (λ (text : List ℕ). (far.bytes ++ waited) ++ text) wait ∙ all_printed;
      least = length ((old ++ records) ++ others);
      no_fewer = no_fewer;
      told = all_told start asked replies
          (λ text. length text ≤ length (far.bytes ++ waited)) (length old)
          (length ((old ++ records) ++ others)) all_count;
      held = subst (λ (rs : List (List ℕ)). holds' (length ((old ++ records) ++ others)) rs)
          (sym all_records) held;
    }

    left_before : after ≡ written → leaves ((old ++ records) ++ others) far.least
        → AreLeft start (lines ++ more) before after old leaves
    left_before still left = record {
      bytes = far.bytes;
      added = still ∙ far.added;
      now = then;
      asked = asked;
      replies = replies;
      asks = asks;
      run = run;
      shown = record {
        rest = waited ++ output;
        parts = sym all_printed ∙ append_assoc far.bytes waited output;
      };
      are = are_recorded start far.begins (lines ++ more) then asked replies asks run;
      least = far.least;
      no_fewer = far.no_fewer;
      told = told_in_front start asked replies far.bytes (length old) far.least not_yet;
      left = subst (λ (rs : List (List ℕ)). leaves rs far.least) (sym all_records) left;
    }

    left_behind : AddsFront written after waited
        → leaves ((old ++ records) ++ others) (length ((old ++ records) ++ others))
        → AreLeft start (lines ++ more) before after old leaves
    left_behind cut left = record {
      bytes = far.bytes ++ cut.front;
      added = cut.added ∙ ap (λ (w : Option (List ℕ)). append_known w cut.front) far.added
          ∙ append_known_twice before far.bytes cut.front;
      now = then;
      asked = asked;
      replies = replies;
      asks = asks;
      run = run;
      shown = record {
        rest = cut.rest ++ output;
        parts = sym all_printed
            ∙ ap (λ (text : List ℕ). (far.bytes ++ text) ++ output) cut.parts
            ∙ ap (λ (text : List ℕ). text ++ output)
            (sym (append_assoc far.bytes cut.front cut.rest))
            ∙ append_assoc (far.bytes ++ cut.front) cut.rest output;
      };
      are = are_recorded start far.begins (lines ++ more) then asked replies asks run;
      least = length ((old ++ records) ++ others);
      no_fewer = no_fewer;
      told = all_told start asked replies (IsFrontOf (far.bytes ++ cut.front)) (length old)
          (length ((old ++ records) ++ others)) all_count;
      left = subst (λ (rs : List (List ℕ)). leaves rs (length ((old ++ records) ++ others)))
          (sym all_records) left;
    }

  -- the lines more are answered, and told of or wait
  pub held_more : {T : Type 0} (said : Result T TellFault)
      → SpeaksAndTells said start.market now more then written after waited waits far.least
      (old ++ records) holds' leaves
      → OnOk said (AreHeld start (lines ++ more) then before after waits old holds')
  held_more (Ok v) spoken =
      elim spoken.holds [
        | inl stays ↦ held_stays _ spoken stays.0 stays.1 stays.2
        | inr goes ↦ held_goes _ spoken goes.0 goes.1 goes.2
      ]
  held_more (Err fault) spoken = tt

  -- telling of them failed
  pub left_more : {T : Type 0} (said : Result T TellFault)
      → SpeaksAndTells said start.market now more then written after waited waits far.least
      (old ++ records) holds' leaves
      → OnErr said (AreLeft start (lines ++ more) before after old leaves)
  left_more (Ok v) spoken = tt
  left_more (Err Disk) spoken = left_before _ spoken spoken.holds.0 spoken.holds.1
  left_more (Err Sink) spoken = left_behind _ spoken spoken.holds.0 spoken.holds.1

-- what is held between two lines, a crash leaves
pub left_now : (start : Start) (lines : List StreamLine) (now : Standing)
    (before written : Option (List ℕ)) (waits : List ℕ) (old : List (List ℕ))
    (holds : ℕ → List (List ℕ) → Type 0) (leaves : List (List ℕ) → ℕ → Type 0)
    → ((n : ℕ) (rs : List (List ℕ)) → holds n rs → leaves rs n)
    → AreHeld start lines now before written waits old holds
    → AreLeft start lines before written old leaves
left_now start lines now before written waits old holds leaves leave far = record {
  bytes = far.bytes;
  added = far.added;
  now = now;
  asked = far.asked;
  replies = far.replies;
  asks = far.asks;
  run = far.run;
  shown = record { rest = waits; parts = sym far.printed };
  are = are_recorded start far.begins lines now far.asked far.replies far.asks far.run;
  least = far.least;
  no_fewer = far.no_fewer;
  told = told_in_front start far.asked far.replies far.bytes (length old) far.least far.told;
  left = leave far.least (old ++ records_of (changes_from start far.asked far.replies)) far.held;
}

pub left_of_placed : (start : Start) (all : List ℕ) (cutting : Cutting)
    (source before written : Option (List ℕ)) (old : List (List ℕ))
    (leaves : List (List ℕ) → ℕ → Type 0)
    → IsPlaced all cutting source (λ lines. AreLeft start lines before written old leaves)
    → IsLeft start all before written old leaves
left_of_placed start all cutting source before written old leaves far =
    let left = far.answers in
    record {
      done = far.done;
      rest = far.left;
      bytes = far.bytes;
      lines = whole_or_none cutting.last far.done far.left far.left refl far.between;
      output = left.bytes;
      added = left.added;
      now = left.now;
      asked = left.asked;
      replies = left.replies;
      asks = left.asks;
      run = left.run;
      shown = left.shown;
      are = left.are;
      least = left.least;
      no_fewer = left.no_fewer;
      told = left.told;
      left = left.left;
    }
