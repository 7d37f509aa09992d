-- Lines that are answered: none, one, and some behind others.
use Rattle.std.proofs.Common.{◌≡◌, ℕ, List, [], ◌∷◌, ◌++◌, filter, true, false, refl, sym, ap, ap₂}
use Rattle.std.proofs.Common.{subst, ◌∙◌}
use Rattle.std.specs.List.{AllZip}
use Rattle.std.proofs.lemmas.List.Elements.{filter-append}
use Rattle.std.proofs.lemmas.Grind.{flat_map-append}
use Rattle.std.proofs.lemmas.List.Concat.{flat_map-cons}
use Rattle.mk_io.specs.Stream.{StreamLine, is_not_blank}
use Rattle.mk_exact.specs.Market.{Market, present}
use Rattle.mk_reply.specs.declared.reply.Reply.{Reply}
use Rattle.mk_rules.specs.Transcript.{Standing, opening, Line, IsAllowedFor, after}
use Rattle.mk_rules.specs.Standings.{IsMarket, Stands}
use Rattle.mk_rules.proofs.Keeps.{run_keeps, runs_join}
use Rattle.mk_rules.proofs.Ready.{opening_is_ready}
use Rattle.mk_rules.proofs.Follows.{opening_is_bounded}
use Rattle.mk_rules.proofs.Settling.{run_settles}
use Rattle.mk_session.specs.Texts.{reply_line}
use Rattle.mk_session.specs.Transcript.{Start, Asks, AreReplied, AreAnswered, IsAllowedRun}
use Rattle.mk_session.specs.Transcript.{Transcript}
use Rattle.mk_session.specs.Begins.{CanBegin}
use Rattle.mk_session.specs.inner.Progress.{IsSoundAt}
use Rattle.mk_session.proofs.Passing.{safe_on_way}

pub no_more : {X : Type 0} (xs : List X) → xs ++ [] ≡ xs
no_more [] = refl
no_more (x ∷ xs) = ap (λ ys. x ∷ ys) (no_more xs)

pub none_replied : (market : Market) (old new : Standing) → new ≡ old → AreReplied market old [] new
    []
none_replied market old new same = record { asked = []; asks = tt; run = same }

-- a blank line is passed over
pub blank_replied : (market : Market) (now : Standing) (line : StreamLine)
    → is_not_blank line ≡ false → AreReplied market now (line ∷ []) now []
blank_replied market now line blank =
    let none : filter is_not_blank (line ∷ []) ≡ [] = rw blank refl in
    record {
      asked = [];
      asks = subst (λ (ls : List StreamLine). AllZip Asks ls []) (sym none) tt;
      run = refl;
    }

-- another line is answered by one reply
pub one_replied : (market : Market) (now : Standing) (line : StreamLine) (question : Line)
    (reply : Reply) → is_not_blank line ≡ true
    → Asks line question → IsAllowedFor (present market now.history) now question reply
    → AreReplied market now (line ∷ []) (after (present market now.history) now question reply)
    (reply ∷ [])
one_replied market now line question reply busy asks allowed =
    let one : filter is_not_blank (line ∷ []) ≡ line ∷ [] = rw busy refl in
    record {
      asked = question ∷ [];
      asks = subst (λ (ls : List StreamLine). AllZip Asks ls (question ∷ [])) (sym one) (asks, tt);
      run = (allowed, refl);
    }

pub asks_behind : (ls ms : List StreamLine) (xs ys : List Line) → AllZip Asks ls xs
    → AllZip Asks ms ys → AllZip Asks (ls ++ ms) (xs ++ ys)
asks_behind [] ms [] ys first second = second
asks_behind [] ms (x ∷ xs) ys first second = absurd first
asks_behind (l ∷ ls) ms [] ys first second = absurd first
asks_behind (l ∷ ls) ms (x ∷ xs) ys first second = (first.0, asks_behind ls ms xs ys first.1 second)

-- lines behind others that are answered
pub then_replied : (market : Market) (old mid new : Standing) (ls ms : List StreamLine)
    (rs ss : List Reply) → AreReplied market old ls mid rs
    → AreReplied market mid ms new ss → AreReplied market old (ls ++ ms) new (rs ++ ss)
then_replied market old mid new ls ms rs ss first second = record {
  asked = first.asked ++ second.asked;
  asks = subst (λ (qs : List StreamLine). AllZip Asks qs (first.asked ++ second.asked))
      (sym (filter-append is_not_blank ls ms))
      (asks_behind (filter is_not_blank ls) (filter is_not_blank ms) first.asked second.asked
      first.asks second.asks);
  run = runs_join market old mid new first.asked second.asked rs ss first.run second.run;
}

-- the same of lines whose replies are printed
pub none_answered : (market : Market) (old new : Standing) → new ≡ old → AreAnswered market old []
    new []
none_answered market old new same = record {
  replies = [];
  replied = none_replied market old new
      same;
  printed = refl;
}

pub blank_answered : (market : Market) (now : Standing) (line : StreamLine)
    → is_not_blank line ≡ false → AreAnswered market now (line ∷ []) now []
blank_answered market now line blank = record {
  replies = [];
  replied = blank_replied market now
      line blank;
  printed = refl;
}

pub one_answered : (market : Market) (old : Standing) (lines : List StreamLine) (new : Standing)
    (reply : Reply)
    → AreReplied market old lines new (reply ∷ []) → AreAnswered market old lines new
    (reply_line reply)
one_answered market old lines new reply replied = record {
  replies = reply ∷ [];
  replied = replied;
  printed = sym (flat_map-cons reply_line reply [] ∙ no_more (reply_line reply));
}

pub then_answered : (market : Market) (old mid new : Standing) (ls ms : List StreamLine)
    (a b : List ℕ) → AreAnswered market old ls mid a
    → AreAnswered market mid ms new b → AreAnswered market old (ls ++ ms) new (a ++ b)
then_answered market old mid new ls ms a b first second = record {
  replies = first.replies ++ second.replies;
  replied = then_replied market old mid new ls ms first.replies second.replies first.replied
      second.replied;
  printed = ap₂ (λ x y. x ++ y) first.printed second.printed
      ∙ sym (flat_map-append reply_line first.replies second.replies);
}

-- a market can begin at its opening
pub opening_begins : (market : Market) → IsMarket market → CanBegin market opening
opening_begins market is_market = record {
  is_market = is_market;
  ready = opening_is_ready market is_market;
  bounded = opening_is_bounded market;
}

pub can_begin : (market : Market) (standing : Standing) → IsMarket market → standing ≡ opening
    → CanBegin market standing
can_begin market standing is_market begins =
    subst (λ (s : Standing). CanBegin market s) (sym begins) (opening_begins market is_market)

-- the lines of a run leave a sound history
pub sound_so_far : (start : Start) → CanBegin start.market start.standing
    → (lines : List StreamLine) (now : Standing) (replies : List Reply)
    → AreReplied start.market start.standing lines now replies → IsSoundAt start.market now
sound_so_far start begins lines now replies replied =
    let stands = run_keeps start.market start.standing now replied.asked replies
    begins.ready.stands replied.run in
    stands.sound

-- what the lines of a run keep
pub allowed_run_of : (start : Start) → CanBegin start.market start.standing
    → (lines : List StreamLine) (end : Standing) (replies : List Reply)
    → AreReplied start.market start.standing lines end replies
    → IsAllowedRun start lines end replies
allowed_run_of start begins lines end replies replied =
    let old = start.standing.history in
    let stands : Stands (present start.market old) old = begins.ready.stands in
    record {
      replied = replied;
      safe = safe_on_way start.market start.standing end replied.asked replies stands replied.run;
      settled = run_settles start.market start.standing end replied.asked replies stands
          replied.run;
    }

-- behind what is written before them they are a transcript
pub transcript_of : (start : Start) → CanBegin start.market start.standing
    → (lines : List StreamLine) (end : Standing) (answers output : List ℕ)
    → AreAnswered start.market start.standing lines end answers → output ≡ start.head ++ answers
    → Transcript start lines output
transcript_of start begins lines end answers output answered printed = record {
  after = end;
  replies = answered.replies;
  run = allowed_run_of start begins lines end answered.replies answered.replied;
  printed = printed ∙ ap (λ (bytes : List ℕ). start.head ++ bytes) answered.printed;
}

pub transcript_stands : (start : Start) (begins : CanBegin start.market start.standing)
    (lines : List StreamLine) (end : Standing) (answers output : List ℕ)
    (answered : AreAnswered start.market start.standing lines end answers)
    (printed : output ≡ start.head ++ answers)
    → (transcript_of start begins lines end answers output answered printed).after ≡ end
unfolding transcript_of
transcript_stands start begins lines end answers output answered printed = refl
