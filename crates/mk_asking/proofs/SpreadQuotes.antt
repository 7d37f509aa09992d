-- A quote of a spread has a place for each value, right bounds and fair units.
use Rattle.std.specs.Prelude.{◌≡◌, ℕ, ◌≤◌, List, [], ◌∷◌}
use Rattle.std.specs.Prelude.{length, Option}
use Rattle.std.specs.Prelude.{slice_index, suc}
use Rattle.std.proofs.Common.{refl, sym, ap, ◌∙◌, subst, arith}
use Rattle.mk_net.specs.Network.{Variable, sizes}
use Rattle.mk_exact.specs.History.{Entry, revision}
use Rattle.mk_exact.specs.Limits.{Side}
use Rattle.mk_exact.specs.Weight.{IsSmall}
use Rattle.mk_spread.specs.Spreads.{SpreadAsked}
use Rattle.mk_spread.specs.Bounds.{Intervals}
use Rattle.mk_spread.specs.Existing.{HasValueSides}
use Rattle.mk_spread.specs.Markets.{AreRightBoundsOf, AreValueSides, IsFairList, IsValueSide, value_cannot_come}
use Rattle.mk_spread.specs.Markets.{values_left}
use Rattle.mk_spread.proofs.Exist.{value_sides_exist}
use Rattle.mk_spread.proofs.Listed.{ranged_length}
use Rattle.mk_spread.proofs.Suits.{no_side_where}
use Rattle.mk_spread.proofs.When.{units_when, bounds_when}
use Rattle.mk_tree.specs.Given.{GivenTree}
use Rattle.mk_quote.specs.declared.side.SideBounds.{SideBounds}
use Rattle.mk_quote.specs.declared.spread_quote.SpreadQuote.{SpreadQuote}
use Rattle.mk_quote.specs.declared.values.SpreadBounds.{SpreadBounds}
use Rattle.mk_quote.specs.Values.{AreEachExact, AreRightForEach, AreFairForEach, EncloseEach}
use Rattle.mk_quote.specs.Values.{has_no_side, sides_in}
use Rattle.mk_quote.specs.Spreads.{question_of, revision_of, sides_of, user_of}
use Rattle.mk_quote.proofs.Suiting.{no_side_as}
use Rattle.mk_answers.specs.Open.{IsOpen, CanBeSpreadHere, AreSideBoundsFor}
use Rattle.mk_answers.specs.Results.{AreSpreadSidesFor}
use Rattle.mk_answers.specs.declared.spread.SpreadSides.TheVariants.{Open}
use Rattle.mk_record.specs.declared.last_quote.LastQuote.TheVariants.{Bounds as LastBounds}
use Rattle.mk_asking.specs.Keeping.{IsKeptQuote}
use Rattle.mk_asking.specs.Quoting.{IsSpreadQuoteOf}

-- bounds enclose as many sides
enclosed_lengths : (values : List (Option SideBounds)) (sides : List (Option Side)) → EncloseEach values sides → length values ≡ length sides
enclosed_lengths [] [] h = refl
enclosed_lengths [] (side ∷ sides) h = absurd h
enclosed_lengths (value ∷ values) [] h = absurd h
enclosed_lengths (value ∷ values) (side ∷ sides) h = ap suc (enclosed_lengths values sides h.1)

-- a quote that is made of the bounds of each value, where two can come, is one of its spread
pub made_of_bounds : (network : List Variable) (tree : GivenTree) (H : List Entry) (u : ℕ)
    (spread : SpreadAsked) → CanBeSpreadHere network tree H spread → (bounds : SpreadBounds)
    → AreSpreadSidesFor network H u spread (Open bounds) → (quote : SpreadQuote) → user_of quote ≡ u
    → question_of quote ≡ spread → revision_of quote ≡ revision H
    → sides_of quote ≡ sides_in bounds
    → IsSpreadQuoteOf network tree H u spread quote
made_of_bounds network tree H u spread answered bounds found quote its question present same =
    record {
      same_user = its;
      question = question;
      at_present = present;
      current = record {
        answered = subst (λ (s : SpreadAsked). CanBeSpreadHere network tree H s) (sym question)
            answered;
        two_left = subst (λ (s : SpreadAsked). 2 ≤ length (values_left network H s)) (sym question)
            found.0;
        bounds = λ sides are.
            subst (λ (values : List (Option SideBounds)). AreSideBoundsFor values (IsSmall network H)
            sides) (sym same)
            (found.1 sides (subst (λ (s : SpreadAsked). AreValueSides network H u s sides) question
            are));
      };
    }

module _ (network : List Variable) (tree : GivenTree) (H : List Entry) (u : ℕ) (spread : SpreadAsked) (quote : SpreadQuote) (is : IsSpreadQuoteOf network tree H u spread quote) where
  pub kept_quote : IsKeptQuote network tree H u (LastBounds quote)
  kept_quote = record { same_user = is.same_user; not_later = omega (arith, is.at_present); current = λ same. is.current }

  -- two values are left
  pub two_left : 2 ≤ length (values_left network H spread)
  two_left = subst (λ (s : SpreadAsked). 2 ≤ length (values_left network H s)) is.question is.current.two_left

  module _ (open_for : IsOpen network tree H) where
    has_sides : HasValueSides network H u (question_of quote)
    has_sides = value_sides_exist network H u (question_of quote) open_for.legal open_for.proper
        (record { in_order = is.current.answered.in_order; two_left = is.current.two_left })

    enclosed : AreSideBoundsFor (sides_of quote) (IsSmall network H) has_sides.sides
    enclosed = is.current.bounds has_sides.sides has_sides.are_sides

    -- there is a place for each value
    pub as_many_sides : length (sides_of quote) ≡ slice_index (sizes network) spread.variable
    as_many_sides =
        enclosed_lengths (sides_of quote) has_sides.sides enclosed.sides
        ∙ ranged_length (IsValueSide network H u (question_of quote)) (slice_index (sizes network) (question_of quote).variable) 0 has_sides.sides has_sides.are_sides
        ∙ ap (λ (s : SpreadAsked). slice_index (sizes network) s.variable) is.question

    -- a value without a side is one that cannot come
    pub no_side_is : (k : ℕ) → has_no_side (sides_of quote) k ≡ value_cannot_come network H spread k
    no_side_is k =
        no_side_as (sides_of quote) has_sides.sides enclosed.sides k
        ∙ sym (no_side_where network H (question_of quote) u has_sides.sides is.current.answered.in_order.in_range.variable has_sides.are_sides k)
        ∙ ap (λ (s : SpreadAsked). value_cannot_come network H s k) is.question

    -- its bounds are right
    pub right_bounds : (intervals : Intervals) → AreRightForEach (sides_of quote) intervals → AreRightBoundsOf network H u spread intervals
    right_bounds intervals right =
        subst (λ (s : SpreadAsked). AreRightBoundsOf network H u s intervals) is.question (record {
          sides = has_sides.sides;
          are_sides = has_sides.are_sides;
          right = bounds_when (IsSmall network H) (AreEachExact (sides_of quote)) enclosed.exact has_sides.sides intervals (right has_sides.sides enclosed.sides enclosed.graded);
        })

    -- and the units that it gives are a fair list
    pub fair_list : (Xs Fs : List ℕ) → AreFairForEach (sides_of quote) Xs Fs → IsFairList network H u spread Xs Fs
    fair_list Xs Fs fair =
        subst (λ (s : SpreadAsked). IsFairList network H u s Xs Fs) is.question (record {
          sides = has_sides.sides;
          are_sides = has_sides.are_sides;
          units = units_when (IsSmall network H) (AreEachExact (sides_of quote)) enclosed.exact has_sides.sides Xs Fs (fair has_sides.sides enclosed.sides enclosed.graded);
        })
