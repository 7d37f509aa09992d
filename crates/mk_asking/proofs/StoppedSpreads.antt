-- What stops a spread is the first refusal by what can come.
use Rattle.std.specs.Prelude.{◌≡◌, ℕ, ◌+◌, ◌≤◌, ◌<◌, List, [], ◌∷◌, length, find, slice_index, Bool, true, false, Option, Some, None, option_map}
use Rattle.std.specs.List.{enumerate_from}
use Rattle.std.proofs.Common.{cond, sym, ap, ap₂, ◌∙◌, arith}
use Rattle.mk_net.specs.declared.words.PairText.{PairText}
use Rattle.mk_net.specs.Firsts.{fault_if, first_of}
use Rattle.mk_net.specs.Network.{Variable, sizes}
use Rattle.mk_exact.specs.History.{Entry}
use Rattle.mk_spread.specs.Bounds.{InsideEach}
use Rattle.mk_spread.specs.Markets.{values_left}
use Rattle.mk_spread.specs.Spreads.{SpreadAsked}
use Rattle.mk_spread.proofs.Suits.{is_impossible}
use Rattle.mk_tree.specs.Given.{GivenTree}
use Rattle.mk_quote.specs.declared.spread_quote.SpreadQuote.{SpreadQuote}
use Rattle.mk_quote.specs.Spreads.{sides_of, intervals_of}
use Rattle.mk_quote.specs.Values.{has_no_side, impossible_share_in, misses_share_in}
use Rattle.mk_reply.specs.declared.refusal.Refusal.{Refusal}
use Rattle.mk_reply.specs.declared.refusal.Refusal.TheVariants.{Impossible, Range}
use Rattle.mk_rules.specs.Refusals.{spread_named, pair_with, impossible_together, sure_value, impossible_share, missing_share}
use Rattle.mk_answers.specs.Open.{IsOpen}
use Rattle.mk_record.specs.declared.last_quote.LastQuote.{LastQuote}
use Rattle.mk_asking.specs.declared.possible.SpreadDecided.{SpreadDecided}
use Rattle.mk_asking.specs.declared.possible.SpreadDecided.TheVariants as decided
use Rattle.mk_asking.specs.declared.possible.Stopped.{Stopped}
use Rattle.mk_asking.specs.declared.possible.Stopped.TheVariants as stopped
use Rattle.mk_asking.specs.Quoting.{IsSpreadQuoteOf, IsTurnedDown}
use Rattle.mk_asking.specs.Stopped.{IsSpreadDecidedBy, IsRefusedFor, MayStop}
use Rattle.mk_asking.proofs.SpreadQuotes.{two_left, no_side_is}
use Rattle.mk_asking.proofs.TogetherSpreads.{together_left, sure_is, not_sure, impossible_by, missing_by, inside_is_placed}

-- ---- the first refusal by what can come

module _ (network : List Variable) (tree : GivenTree) (H : List Entry) (v : List ℕ) (words : List PairText) (spread : SpreadAsked) (named : spread_named network v words ≡ Some spread) where
  -- what decides a distribution
  pub decided_first : (why : SpreadDecided) (found : Refusal) (later : List (Option Refusal)) → IsSpreadDecidedBy network H spread why
      → IsRefusedFor network H v words spread (stopped.Decided why) found → first_of (impossible_together network H words ∷ sure_value network H v words ∷ later) ≡ Some found
  decided_first decided.Impossible found later by is = ap (λ (o : Option Refusal). first_of (o ∷ sure_value network H v words ∷ later)) is
  decided_first (decided.Sure value) found later by is =
      let one : length (values_left network H spread) ≡ 1 = ap length by in
      ap₂ (λ (a b : Option Refusal). first_of (a ∷ b ∷ later)) (together_left network H v words spread named (omega (arith, one))) (sure_is network H v words spread named value by)
      ∙ ap (λ (w : Refusal). Some w) (sym is)

  module _ (open_for : IsOpen network tree H) (u : ℕ) (quote : SpreadQuote) (is : IsSpreadQuoteOf network tree H u spread quote) where
    -- nothing decides one that has a quote
    two : 2 ≤ length (values_left network H spread)
    two = two_left network tree H u spread quote is

    pub undecided : (later : List (Option Refusal)) → first_of (impossible_together network H words ∷ sure_value network H v words ∷ later) ≡ first_of later
    undecided later =
        ap₂ (λ (a b : Option Refusal). first_of (a ∷ b ∷ later)) (together_left network H v words spread named (omega (arith, two))) (not_sure network H v words spread named two)

    -- where its shares stand at the wrong places that is the first
    module _ (to : List ℕ) where
      abbrev by_states : List (Option Refusal)
      by_states = impossible_together network H words ∷ sure_value network H v words ∷ impossible_share network H v words to ∷ missing_share network H v words to ∷ []

      abbrev at_places : Option ℕ → Option Refusal → Option Refusal
      at_places impossible missing = first_of (option_map (λ value. Impossible (pair_with network v spread value)) impossible ∷ missing ∷ [])

      first_at : first_of by_states ≡ at_places (impossible_share_in (sides_of quote) to) (fault_if (misses_share_in (sides_of quote) to) (Range 0))
      first_at =
          undecided (impossible_share network H v words to ∷ missing_share network H v words to ∷ [])
          ∙ ap₂ (λ (a b : Option Refusal). first_of (a ∷ b ∷ []))
          (impossible_by network H v words spread named (sides_of quote) (no_side_is network tree H u spread quote is open_for) to)
          (missing_by network H v words spread named (sides_of quote) (no_side_is network tree H u spread quote is open_for) to)

      pub impossible_first : (value : ℕ) → impossible_share_in (sides_of quote) to ≡ Some value → first_of by_states ≡ Some (Impossible (pair_with network v spread value))
      impossible_first value e = first_at ∙ ap (λ (o : Option ℕ). at_places o (fault_if (misses_share_in (sides_of quote) to) (Range 0))) e

      pub missing_first : impossible_share_in (sides_of quote) to ≡ None → misses_share_in (sides_of quote) to ≡ true → first_of by_states ≡ Some (Range 0)
      missing_first none e = first_at ∙ ap₂ (λ (o : Option ℕ) (b : Bool). at_places o (fault_if b (Range 0))) none e

      pub none_first : impossible_share_in (sides_of quote) to ≡ None → misses_share_in (sides_of quote) to ≡ false → first_of by_states ≡ None
      none_first none e = first_at ∙ ap₂ (λ (o : Option ℕ) (b : Bool). at_places o (fault_if b (Range 0))) none e

      -- shares inside of its intervals meet none
      pub inside_first : InsideEach (intervals_of quote) to → first_of by_states ≡ None
      inside_first inside = let both = inside_is_placed (sides_of quote) to inside in none_first (both.0) (both.1)

-- ---- what may stop a spread

pub first_below : (test : ℕ × ℕ → Bool) (a : ℕ) (Xs : List ℕ) (value : ℕ) → option_map (λ (numbered : ℕ × ℕ). numbered.0) (find test (enumerate_from a Xs)) ≡ Some value → value < a + length Xs
first_below test a [] value e = cc
first_below test a (X ∷ Xs) value e = at (test (a, X)) e (first_below test (a + 1) Xs value)
  where
    at : (b : Bool) → option_map (λ (numbered : ℕ × ℕ). numbered.0) (cond b (Some (a, X)) (find test (enumerate_from (a + 1) Xs))) ≡ Some value
        → (option_map (λ (numbered : ℕ × ℕ). numbered.0) (find test (enumerate_from (a + 1) Xs)) ≡ Some value → value < a + 1 + length Xs) → value < a + length (X ∷ Xs)
    at true e later = let same : a ≡ value = cc in omega (arith, same)
    at false e later = let below = later e in omega (arith, below)

module _ (network : List Variable) (tree : GivenTree) (H : List Entry) (u : ℕ) (spread : SpreadAsked) (quotes new_quotes : List (Option LastQuote)) (Xs : List ℕ)
    (one_each : length Xs ≡ slice_index (sizes network) spread.variable) where
  pub turned_may_stop : (why : Stopped) → IsTurnedDown network tree H u spread quotes new_quotes Xs why → MayStop network H spread why
  turned_may_stop (stopped.Decided why) down = down.decided
  turned_may_stop (stopped.ImpossibleShare value) down =
      let below : value < 0 + length Xs = first_below (is_impossible (has_no_side (sides_of down.quote))) 0 Xs value down.is_stopped in
      omega (arith, below, one_each)
  turned_may_stop stopped.MissingShare down = tt
  turned_may_stop (stopped.Outside box) down = tt
