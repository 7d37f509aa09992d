-- What stops a spread, or does not, by bounds that are found anew for an auditor.
use Rattle.std.specs.Prelude.{◌≡◌, ℕ, ◌+◌, ◌<◌, ◌≤◌, List, [], ◌∷◌, length, slice_index, Option}
use Rattle.std.specs.Prelude.{Some, None}
use Rattle.std.proofs.Common.{sym, ap, ap₂, ◌∙◌, arith}
use Rattle.mk_net.specs.declared.words.PairText.{PairText}
use Rattle.mk_net.specs.Firsts.{first_of}
use Rattle.mk_net.specs.Network.{Variable, sizes}
use Rattle.mk_exact.specs.History.{Entry, revision}
use Rattle.mk_spread.specs.Markets.{values_left}
use Rattle.mk_spread.specs.Spreads.{SpreadAsked}
use Rattle.mk_spread.proofs.Suits.{is_impossible}
use Rattle.mk_tree.specs.Given.{GivenTree}
use Rattle.mk_quote.specs.declared.spread_quote.SpreadQuote.{SpreadQuote}
use Rattle.mk_quote.specs.declared.values.SpreadBounds.{SpreadBounds}
use Rattle.mk_quote.specs.Spreads.{user_of, question_of, revision_of, sides_of}
use Rattle.mk_quote.specs.Values.{sides_in, has_no_side}
use Rattle.mk_reply.specs.declared.refusal.Refusal.{Refusal}
use Rattle.mk_rules.specs.Refusals.{spread_named, impossible_together, sure_value}
use Rattle.mk_rules.specs.Refusals.{impossible_share, missing_share}
use Rattle.mk_answers.specs.Open.{IsOpen, CanBeSpreadHere}
use Rattle.mk_asking.specs.declared.possible.Stopped.{Stopped}
use Rattle.mk_asking.specs.declared.possible.Stopped.TheVariants as stopped
use Rattle.mk_evidence.specs.inner.Finding.{AreEachFound, HasQuote, ArePlaced, IsStoppedAnew}
use Rattle.mk_evidence.specs.inner.Finding.{IsDecidedAnew}
use Rattle.mk_asking.specs.Quoting.{IsSpreadQuoteOf}
use Rattle.mk_asking.specs.Stopped.{IsRefusedFor, MayStop}
use Rattle.mk_asking.proofs.SpreadQuotes.{made_of_bounds}
use Rattle.mk_asking.proofs.StoppedSpreads.{decided_first, impossible_first, missing_first}
use Rattle.mk_asking.proofs.StoppedSpreads.{none_first, first_below}
use Rattle.mk_asking.proofs.TogetherSpreads.{together_left, not_sure}

module _ (network : List Variable) (tree : GivenTree) (H : List Entry) (u : ℕ)
    (spread : SpreadAsked) where
  -- a quote that is made of bounds that are found
  pub quote_anew : CanBeSpreadHere network tree H spread → (most : ℕ) (bounds : SpreadBounds)
      → AreEachFound most network H u spread bounds → (quote : SpreadQuote) → user_of quote ≡ u
      → question_of quote ≡ spread → revision_of quote ≡ revision H
      → sides_of quote ≡ sides_in bounds → IsSpreadQuoteOf network tree H u spread quote
  quote_anew answered most bounds found quote =
      made_of_bounds network tree H u spread answered bounds (found.two_left, found.enclosed) quote

  -- what may stop it
  pub anew_may_stop : (Xs : List ℕ) → length Xs ≡ slice_index (sizes network) spread.variable
      → (why : Stopped) → IsStoppedAnew network tree H u spread Xs why
      → MayStop network H spread why
  anew_may_stop Xs one_each (stopped.Decided why) is = is
  anew_may_stop Xs one_each (stopped.ImpossibleShare value) is =
      let below : value < 0 + length Xs =
      first_below (is_impossible (has_no_side (sides_of is.quote))) 0 Xs value is.meets in
      omega (arith, below, one_each)
  anew_may_stop Xs one_each stopped.MissingShare is = tt
  anew_may_stop Xs one_each (stopped.Outside box) is = tt

  -- so does what decides it
  pub decided_is_anew : (Xs : List ℕ) (why : Stopped) → IsDecidedAnew network H spread why
      → IsStoppedAnew network tree H u spread Xs why
  decided_is_anew Xs (stopped.Decided why) is = is
  decided_is_anew Xs (stopped.ImpossibleShare value) is = absurd is
  decided_is_anew Xs stopped.MissingShare is = absurd is
  decided_is_anew Xs (stopped.Outside box) is = absurd is

  module _ (v : List ℕ) (words : List PairText)
      (named : spread_named network v words ≡ Some spread) where
    -- nothing decides it where two values are left
    pub two_first : 2 ≤ length (values_left network H spread)
        → first_of (impossible_together network H words ∷ sure_value network H v words ∷ [])
        ≡ None
    two_first two =
        ap₂ (λ (a b : Option Refusal). first_of (a ∷ b ∷ []))
        (together_left network H v words spread named (omega (arith, two)))
        (not_sure network H v words spread named two)

    module _ (is_open : IsOpen network tree H) (to : List ℕ) where
      abbrev firsts : Option Refusal
      firsts = first_of (impossible_together network H words ∷ sure_value network H v words
          ∷ impossible_share network H v words to ∷ missing_share network H v words to ∷ [])

      -- what stops it is its first refusal by what can come
      pub stopped_first : (why : Stopped) (found : Refusal)
          → IsStoppedAnew network tree H u spread to why
          → IsRefusedFor network H v words spread why found → firsts ≡ Some found
      stopped_first (stopped.Decided why) found by is =
          decided_first network tree H v words spread named why found
          (impossible_share network H v words to ∷ missing_share network H v words to ∷ []) by is
      stopped_first (stopped.ImpossibleShare value) found by is =
          impossible_first network tree H v words spread named is_open u by.quote by.its to value
          by.meets ∙ ap (λ (w : Refusal). Some w) (sym is)
      stopped_first stopped.MissingShare found by is =
          missing_first network tree H v words spread named is_open u by.quote by.its to
          (by.meets.0) (by.meets.1) ∙ ap (λ (w : Refusal). Some w) (sym is)
      stopped_first (stopped.Outside box) found by is = absurd by

      -- and there is none where its shares are at the right places
      pub placed_first : HasQuote network tree H u spread (ArePlaced to) → firsts ≡ None
      placed_first has =
          none_first network tree H v words spread named is_open u has.quote has.its to
          (has.meets.0) (has.meets.1)

-- what decides a spread is its first refusal by what can come
pub decided_only : (network : List Variable) (tree : GivenTree) (H : List Entry)
    (spread : SpreadAsked) (v : List ℕ) (words : List PairText)
    → spread_named network v words ≡ Some spread → (why : Stopped) (found : Refusal)
    → IsDecidedAnew network H spread why → IsRefusedFor network H v words spread why found
    → first_of (impossible_together network H words ∷ sure_value network H v words ∷ [])
    ≡ Some found
decided_only network tree H spread v words named (stopped.Decided why) found by is =
    decided_first network tree H v words spread named why found [] by is
decided_only network tree H spread v words named (stopped.ImpossibleShare value) found by is =
    absurd by
decided_only network tree H spread v words named stopped.MissingShare found by is = absurd by
decided_only network tree H spread v words named (stopped.Outside box) found by is = absurd by

pub decided_may_stop : (network : List Variable) (H : List Entry) (spread : SpreadAsked)
    (why : Stopped) → IsDecidedAnew network H spread why → MayStop network H spread why
decided_may_stop network H spread (stopped.Decided why) by = by
decided_may_stop network H spread (stopped.ImpossibleShare value) by = absurd by
decided_may_stop network H spread stopped.MissingShare by = tt
decided_may_stop network H spread (stopped.Outside box) by = tt
