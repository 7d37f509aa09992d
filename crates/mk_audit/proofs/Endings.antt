-- How an audit begins, and how it ends behind the last line.
use Rattle.std.proofs.Common.{◌≡◌, ◌≢◌, ℕ, ◌+◌, ◌≤◌, List, [], ◌++◌, length, drop}
use Rattle.std.proofs.Common.{length-drop}
use Rattle.std.proofs.Common.{Option, Some, inl, refl, sym, ap, subst, ◌∙◌, arith}
use Rattle.mk_io.specs.Stream.{StreamLine, stream_lines}
use Rattle.mk_io.specs.Cutting.{Cutting, fresh}
use Rattle.mk_exact.specs.Market.{Market}
use Rattle.mk_rules.specs.Quotes.{Quotes}
use Rattle.mk_rules.specs.Standings.{IsMarket, IsReady}
use Rattle.mk_rules.specs.Bounded.{IsBounded}
use Rattle.mk_rules.proofs.Keeps.{opening_stands}
use Rattle.mk_rules.proofs.Ready.{unquoted_is_ready}
use Rattle.mk_rules.proofs.Follows.{opening_is_bounded}
use Rattle.mk_rules.specs.Transcript.{Standing, opening}
use Rattle.mk_session.specs.Texts.{ready_line}
use Rattle.mk_session.specs.Transcript.{from_opening}
use Rattle.mk_session.proofs.Answering.{no_more, none_replied, opening_begins, allowed_run_of}
use Rattle.mk_session.proofs.Completing.{none_within_stream}
use Rattle.mk_known.specs.Known.{IsKnown}
use Rattle.mk_audit.specs.declared.verdict.Verdict.{Verdict}
use Rattle.mk_audit.specs.declared.verdict.Verdict.TheVariants.{Yes, No, Unsure}
use Rattle.mk_audit.specs.declared.front.Front.{Front}
use Rattle.mk_audit.specs.Verdicts.{IsWrongAt, Longer, Means}
use Rattle.mk_audit.specs.inner.Progress.{StandsAt, standing_at, left_of, EndsBehind, IsHeld}
use Rattle.mk_audit.specs.inner.Progress.{IsSoFar}

-- a transcript begins with a line, as a test says
pub begins_with : (transcript line ready : List ℕ) (place : ℕ) → line ≡ ready
    → place ≡ length line → transcript ≡ line ++ drop (length line) transcript
    → transcript ≡ ready ++ drop place transcript
begins_with transcript line ready place text size stands =
    stands ∙ ap (λ (n : ℕ). line ++ drop n transcript) (sym size)
    ∙ ap (λ (l : List ℕ). l ++ drop place transcript) text

-- bytes are left where the place is not their end
pub longer_ends : (verdict : Verdict) (transcript : List ℕ) (front : Front)
    → verdict ≡ No (front.right + 1) → front.place ≤ length transcript
    → front.place ≢ length transcript
    → EndsBehind verdict (left_of transcript front) front.right
longer_ends verdict transcript front is within apart =
    subst (λ (v : Verdict). EndsBehind v (left_of transcript front) front.right) (sym is) (
      refl,
      λ none. let size = length-drop front.place transcript in
          let empty : length (drop front.place transcript) ≡ 0 = ap length none in
          apart (omega arith),
    )

-- all of the transcript is right
means_yes : (market : Market) → IsMarket market → (lines : List StreamLine) (now : Standing)
    (transcript left : List ℕ) (count : ℕ) → left ≡ []
    → IsHeld market lines now transcript left count → Means market lines transcript (Yes count)
means_yes market is_market lines now transcript left count none held =
    let right = held.right in
    let whole : transcript ≡ held.front = held.parts
    ∙ ap (λ (xs : List ℕ). held.front ++ xs) none ∙ no_more held.front in (
      record {
        after = now;
        replies = right.replies;
        run = allowed_run_of (from_opening market) (opening_begins market is_market) lines now
            right.replies right.replied;
        printed = whole ∙ right.printed;
      },
      (
        now,
        record {
          replies = right.replies;
          replied = right.replied;
          printed = whole ∙ right.printed;
          counted = right.counted;
        },
      ),
    )

-- something stands behind the last right line
means_longer : (market : Market) (lines : List StreamLine) (now : Standing)
    (transcript left : List ℕ) (count : ℕ) → left ≢ []
    → IsHeld market lines now transcript left count → IsWrongAt market lines transcript (count + 1)
means_longer market lines now transcript left count some held = Longer count (record {
  now = now;
  front = held.front;
  right = held.right;
  rest = left;
  parts = held.parts;
  more = some;
})

end_means : (verdict : Verdict) (market : Market) → IsMarket market → (lines : List StreamLine)
    (now : Standing) (transcript left : List ℕ) (count : ℕ) → EndsBehind verdict left count
    → IsHeld market lines now transcript left count → Means market lines transcript verdict
end_means (Yes n) market is_market lines now transcript left count ends held =
    subst (λ (m : ℕ). Means market lines transcript (Yes m)) (sym ends.0)
    (means_yes market is_market lines now transcript left count ends.1 held)
end_means (No n) market is_market lines now transcript left count ends held =
    subst (IsWrongAt market lines transcript) (sym ends.0)
    (means_longer market lines now transcript left count ends.1 held)
end_means (Unsure n) market is_market lines now transcript left count ends held = absurd ends

-- where the stream is at its end, the verdict is of all commands
pub means_at_end : (verdict : Verdict) (market : Market) → IsMarket market → (all : List ℕ)
    (cutting : Cutting) (source : Option (List ℕ)) (now : Standing) (transcript : List ℕ)
    (front : Front) → EndsBehind verdict (left_of transcript front) front.right
    → (far : IsSoFar market all cutting source now transcript front) → far.left ≡ []
    → Means market (stream_lines all) transcript verdict
means_at_end verdict market is_market all cutting source now transcript front ends far empty =
    let whole : all ≡ far.done = far.bytes ∙ ap (λ (left : List ℕ). far.done ++ left) empty
    ∙ no_more far.done in
    subst (λ (bytes : List ℕ). Means market (stream_lines bytes) transcript verdict) (sym whole)
    (end_means verdict market is_market (stream_lines far.done) (standing_at now front) transcript
    (left_of transcript front) front.right ends far.answers)

-- at the opening nobody is quoted anything
opened_at : (now : Standing) (quotes : Quotes) → now ≡ opening → quotes ≡ []
    → opening ≡ record { history = now.history; quotes = quotes }
opened_at now quotes begins none =
    ap (λ (q : Quotes). record { history = []; quotes = q }) (sym none)
    ∙ ap (λ (s : Standing). record { history = s.history; quotes = quotes }) (sym begins)

pub stands_at_opening : (market : Market) → IsMarket market → (now : Standing) (front : Front)
    → now ≡ opening → IsKnown market [] front.known → front.known.quotes ≡ []
    → StandsAt market now front
stands_at_opening market is_market now front begins known none = record {
  known = subst (λ (s : Standing). IsKnown market s.history front.known) (sym begins) known;
  ready = subst (λ (s : Standing). IsReady market s)
      (opened_at now front.known.quotes begins none)
      (unquoted_is_ready market [] (opening_stands market is_market));
  bounded = subst (λ (s : Standing). IsBounded market s.history) (sym begins)
      (opening_is_bounded market);
}

-- before the first line the ready line is right
pub held_at_start : (market : Market) (now : Standing) (transcript all : List ℕ)
    (lines : Cutting) (source : Option (List ℕ)) (front : Front) → lines ≡ fresh
    → source ≡ Some all → now ≡ opening → front.known.quotes ≡ [] → front.right ≡ 1
    → transcript ≡ ready_line market ++ left_of transcript front
    → IsSoFar market all lines source now transcript front
held_at_start market now transcript all lines source front unread told begins none one parts =
    subst (λ (c : Cutting). IsSoFar market all c source now transcript front) (sym unread)
    (subst (λ (o : Option (List ℕ)). IsSoFar market all fresh o now transcript front) (sym told)
    (record {
      done = [];
      left = all;
      bytes = refl;
      known = refl;
      between = inl refl;
      answers = record {
        front = ready_line market;
        right = record {
          replies = [];
          replied = none_replied market opening (standing_at now front)
              (sym (opened_at now front.known.quotes begins none));
          printed = sym (no_more (ready_line market));
          counted = one;
        };
        parts = parts;
      };
      given = refl;
      spent = refl;
      within = none_within_stream;
    }))
