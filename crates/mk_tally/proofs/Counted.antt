-- The count of the replies: none, one more, and all at the end.
use Rattle.std.proofs.Common.{◌≡◌, ℕ, ◌+◌, cond, Bool, true, false, All, List, [], ◌∷◌, ◌++◌}
use Rattle.std.proofs.Common.{Option, Some, None, IfNone, Result, Ok, Err}
use Rattle.std.proofs.Common.{MatchResult, OnOk, inl, refl, sym, ap, subst, ◌∙◌, arith}
use Rattle.std.proofs.Common.{length-append}
use Rattle.std.specs.Int.{from_bool}
use Rattle.std.proofs.lemmas.List.Elements.{All-nil, All-cons, All-append}
use Rattle.std.proofs.lemmas.List.Sums.{sum_by_push}
use Rattle.mk_io.specs.declared.lines.Next.TheVariants.{ReadFault}
use Rattle.mk_io.specs.Stream.{StreamLine, stream_lines}
use Rattle.mk_io.specs.Cutting.{Cutting, fresh, stream_left, GivesLine, IsWithinLimits}
use Rattle.mk_io.specs.Cutting.{HasReadCause}
use Rattle.mk_exact.specs.Market.{Market}
use Rattle.mk_reply.specs.declared.reply.Reply.{Reply}
use Rattle.mk_rules.specs.Standings.{IsMarket}
use Rattle.mk_rules.specs.Transcript.{Standing, opening}
use Rattle.mk_market.specs.Trading.{Trading}
use Rattle.mk_session.specs.Transcript.{from_opening, AreReplied}
use Rattle.mk_session.specs.Complete.{AreWithin}
use Rattle.mk_session.proofs.Present.{at_first}
use Rattle.mk_session.proofs.Answering.{no_more, none_replied, then_replied, sound_so_far}
use Rattle.mk_session.proofs.Answering.{allowed_run_of, opening_begins}
use Rattle.mk_session.proofs.Underway.{placed_next}
use Rattle.mk_session.proofs.Endings.{risen}
use Rattle.mk_session.proofs.Completing.{none_rose, none_within_stream}
use Rattle.mk_tally.specs.declared.counts.Tally.{Tally}
use Rattle.mk_tally.specs.declared.counts.TallyFault.{TallyFault}
use Rattle.mk_tally.specs.declared.counts.TallyFault.TheVariants.{Memory}
use Rattle.mk_tally.specs.Tally.{is_trade, is_refusal, last_reply, IsRemembered, AreCounted}
use Rattle.mk_tally.specs.Tally.{IsTally}
use Rattle.mk_tally.specs.inner.Counting.{uncounted, is_want, IsWithin, IsCounted, CountsLine}
use Rattle.mk_tally.specs.inner.Counting.{IsCountedSoFar, IsCounting}

last_more : (replies : List Reply) (reply : Reply) → last_reply (replies ++ reply ∷ []) ≡ Some reply
last_more [] reply = refl
last_more (first ∷ []) reply = refl
last_more (first ∷ next ∷ replies) reply = last_more (next ∷ replies) reply

-- one reply more
pub counted_more : (earlier : List Reply) (reply : Reply) (before after : Tally)
    → after.replies ≡ before.replies + 1
    → after.trades ≡ before.trades + cond (is_trade reply) 1 0 → after.refused ≡ before.refused +
    cond (is_refusal reply) 1 0
    → after.last ≡ Some reply → AreCounted earlier before → AreCounted (earlier ++ reply ∷ []) after
counted_more earlier reply before after replies trades refused last counts = record {
  counted = replies ∙ ap (λ n. n + 1) counts.counted ∙ sym (length-append earlier (reply ∷ []));
  trades = trades ∙ ap (λ n. n + cond (is_trade reply) 1 0) counts.trades
      ∙ sym (sum_by_push (λ r. cond (is_trade r) 1 0) earlier reply);
  refusals = refused ∙ ap (λ n. n + cond (is_refusal reply) 1 0) counts.refusals
      ∙ sym (sum_by_push (λ r. cond (is_refusal r) 1 0) earlier reply);
  last = last ∙ sym (last_more earlier reply);
}

-- a blank line has no reply to be counted
pub counts_none : (earlier : List Reply) (tally : Tally) → AreCounted earlier tally
    → AreCounted (earlier ++ []) tally
counts_none earlier tally counts = subst (λ (replies : List Reply). AreCounted replies tally)
    (sym (nothing_more earlier)) counts
  where
    nothing_more : (replies : List Reply) → replies ++ [] ≡ replies
    nothing_more replies = no_more replies

-- a reply that is no want of memory
pub remembered_one : (reply : Reply) → is_want reply ≡ false → All IsRemembered (reply ∷ [])
remembered_one reply none = All-cons IsRemembered reply [] (λ e. let want : true ≡ false =
    sym (ap is_want e) ∙ none in cc) (All-nil IsRemembered)

none_counted : (market : Market) → IsMarket market → (now : Standing) → now ≡ opening
    → IsCounted market [] now uncounted
none_counted market is_market now begins = record {
  is_market = is_market;
  replies = [];
  replied = none_replied market opening now begins;
  remembered = All-nil IsRemembered;
  counts = record { counted = refl; trades = refl; refusals = refl; last = refl };
}

counted_next : (market : Market) (lines : List StreamLine) (line : StreamLine) (now then : Standing)
    (before after : Tally)
    → CountsLine market now line then before after → IsCounted market lines now before
    → IsCounted market (lines ++ line ∷ []) then after
counted_next market lines line now then before after more counted = record {
  is_market = counted.is_market;
  replies = counted.replies ++ more.replies;
  replied = then_replied market opening now then lines (line ∷ []) counted.replies more.replies
      counted.replied (more.replied (sound_so_far (from_opening market)
      (opening_begins market counted.is_market) lines now counted.replies counted.replied));
  remembered = All-append IsRemembered counted.replies more.replies counted.remembered
      more.remembered;
  counts = more.counts counted.replies counted.counts;
}

counted_at_start : (market : Market) → IsMarket market → (all source : List ℕ) (now : Standing)
    → source ≡ all → now ≡ opening
    → IsCountedSoFar market all fresh source now uncounted
counted_at_start market is_market all source now told begins = record {
  done = [];
  left = all;
  bytes = refl;
  known = ap Some told;
  between = inl refl;
  answers = none_counted market is_market now begins;
  given = refl;
  spent = refl;
  within = none_within_stream;
}

none_within : IsWithin fresh.given uncounted
none_within = record { replies = omega arith; trades = omega arith; refused = omega arith }

pub counting_at_start : {Own : Type 0} (trading : Trading Own) → IsMarket trading.market
    → (all : List ℕ) (lines : Cutting) (source : List ℕ) (tally : Tally) → lines ≡ fresh
    → tally ≡ uncounted → source ≡ all → trading.standing ≡ opening
    → IsCounting trading.market trading all lines source tally
counting_at_start trading is_market all lines source tally unread none told begins =
    let market = trading.market in
    subst (λ (l : Cutting). IsCounting market trading all l source tally) (sym unread)
    (subst (λ (t : Tally). IsCounting market trading all fresh source t) (sym none) (record {
      market = at_first trading begins;
      goes_on = inl refl;
      fits = none_within;
      far = counted_at_start market is_market all source trading.standing told begins;
    }))

-- a line was given and counted
pub counted_so_far_next : (market : Market) (all : List ℕ) (line : StreamLine) (old new : Cutting)
    (source rest : List ℕ) (now then : Standing)
    (before after : Tally) → old.last ≡ None → IsWithinLimits new → GivesLine line old new
    (stream_left old (Some source)) (stream_left new (Some rest))
    → CountsLine market now line then before after → IsCountedSoFar market all old source now before
    → IsCountedSoFar market all new rest then after
counted_so_far_next market all line old new source rest now then before after none limits gives more
    far =
    placed_next all line old new (Some source) (Some rest) (λ lines. IsCounted market lines now
    before) (λ lines. IsCounted market lines then after)
    none limits gives (λ lines counted. counted_next market lines line now then before after more
    counted) far

-- where the stream is at its end, the count is that of all commands
pub tally_of : (market : Market) (all : List ℕ) (cutting : Cutting) (source : List ℕ)
    (now : Standing) (tally : Tally)
    → (far : IsCountedSoFar market all cutting source now tally) → far.left ≡ []
    → IsTally market all tally
tally_of market all cutting source now tally far empty =
    let whole : all ≡ far.done = far.bytes ∙ ap (λ (left : List ℕ). far.done ++ left) empty
    ∙ no_more far.done in
    let counted = far.answers in
    record {
      after = now;
      replies = counted.replies;
      run = allowed_run_of (from_opening market) (opening_begins market counted.is_market)
          (stream_lines all) now counted.replies
          (subst (λ (bytes : List ℕ). AreReplied market opening (stream_lines bytes) now
          counted.replies) (sym whole) counted.replied);
      remembered = counted.remembered;
      counts = counted.counts;
      within = subst AreWithin (sym whole) far.within;
    }

-- a line that is not too long: the count goes on where memory was not wanting
pub counts_on : {T E U : Type 0} (said : Result T E) (ended : Option (Result U TallyFault))
    (is_at : Market → Type 0) (line : StreamLine) (old new : Cutting)
    (source rest : List ℕ) (now then : Standing) (before after : Tally)
    → MatchResult said (λ _. ended ≡ None) (λ _. ended ≡ Some (Err Memory))
    → old.last ≡ None → IsWithinLimits new → GivesLine line old new (stream_left old (Some source))
    (stream_left new (Some rest))
    → ((start : Market) → is_at start → OnOk said (CountsLine start now line then before after))
    → IfNone ended ((start : Market) (all : List ℕ) → is_at start
    → IsCountedSoFar start all old source now before
    → IsCountedSoFar start all new rest then after)
counts_on {U = U} (Ok v) ended is_at line old new source rest now then before after e none limits
    gives counted =
    subst (λ (o : Option (Result U TallyFault)). IfNone o ((start : Market) (all : List ℕ)
    → is_at start → IsCountedSoFar start all old source now before
    → IsCountedSoFar start all new rest then after))
    (sym e) (λ start all here far. counted_so_far_next start all line old new source rest now then
    before after none limits gives (counted start here) far)
counts_on {U = U} (Err x) ended is_at line old new source rest now then before after e none limits
    gives counted =
    subst (λ (o : Option (Result U TallyFault)). IfNone o ((start : Market) (all : List ℕ)
    → is_at start → IsCountedSoFar start all old source now before
    → IsCountedSoFar start all new rest then after))
    (sym e) tt

-- the inputs count no fault, so no read fails
pub no_read_fault : (old : Cutting) → old.last ≡ None → HasReadCause ReadFault old 0 0 → ⊥
no_read_fault old none cause = none_rose (risen old 0 0 none cause).rose

-- a test as a number
abbrev pub test_number : Bool → ℕ
test_number test = cond test 1 0

pub number_of_test : (test : Bool) → from_bool test ≡ test_number test
number_of_test true = refl
number_of_test false = refl
