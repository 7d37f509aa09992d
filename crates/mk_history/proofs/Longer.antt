-- Kept changes are the same history where the lists beside them grow.
use Rattle.std.specs.Prelude.{◌≡◌, ℕ, ◌+◌, ◌≤◌, List, [], ◌∷◌, ◌++◌, length, drop, slice_range, All}
use Rattle.std.specs.List.{AllByRecursion}
use Rattle.std.proofs.Common.{refl, sym, ap, ◌∙◌, arith, length-append}
use Rattle.std.proofs.lemmas.List.{take-append-le, get_or_append_left}
use Rattle.std.proofs.lemmas.List.Elements.{All-from_recursion, recursion_from_All}
use Rattle.std.proofs.lemmas.Slice.{between_is}
use Rattle.mk_net.specs.declared.words.Pair.{Pair}
use Rattle.mk_exact.specs.History as history
use Rattle.mk_history.specs.declared.change.Change.{Change}
use Rattle.mk_history.specs.declared.change.Change.TheVariants.{Join, Deposit, Withdraw, Trade}
use Rattle.mk_history.specs.declared.change.Change.TheVariants.{Resolve}
use Rattle.mk_history.specs.declared.change.Change.TheVariants.{Settle, Add}
use Rattle.mk_history.specs.declared.change.KeptTrade.{KeptTrade}
use Rattle.mk_history.specs.inner.Kept.{Lists, ratio_kept, entry_kept, IsKept, IsKeptTrade}
use Rattle.mk_history.specs.inner.Kept.{no_addition}
use Rattle.mk_history.specs.inner.Counted.{entries_kept}

-- lists, each with more behind it, and the same payments
pub record Grows (old new : Lists) (names : List (List ℕ)) (pairs : List Pair) (factors : List ℕ)
    (additions : List history.Addition) : Type 0 where
  pub same_names : new.names ≡ old.names ++ names
  pub same_pairs : new.pairs ≡ old.pairs ++ pairs
  pub same_factors : new.factors ≡ old.factors ++ factors
  pub same_payments : new.payments ≡ old.payments
  pub same_additions : new.additions ≡ old.additions ++ additions

pub range_more : {X : Type 0} (xs ys : List X) (i j : ℕ) → j ≤ length xs → slice_range (xs ++ ys) i j ≡ slice_range xs i j
range_more xs ys i j there =
    between_is (xs ++ ys) i j ∙ (ap (drop i) (take-append-le j xs ys there) ∙ sym (between_is xs i j))

longer : {X : Type 0} (new old more : List X) (n : ℕ) → new ≡ old ++ more → n ≤ length old → n ≤ length new
longer new old more n e there = rw e (omega (arith, length-append old more, there))

module _ (old new : Lists) (names : List (List ℕ)) (pairs : List Pair) (factors : List ℕ) (additions : List history.Addition)
    (more : Grows old new names pairs factors additions) where
  ratio_more : (trade : KeptTrade) → IsKeptTrade old.pairs old.factors trade
      → ratio_kept new.pairs new.factors trade ≡ ratio_kept old.pairs old.factors trade
  ratio_more trade kept = rw (
    more.same_pairs,
    more.same_factors,
    range_more old.pairs pairs trade.first_pair (trade.first_pair + trade.pairs) kept.pairs_there,
    range_more old.factors factors trade.first_factor (trade.first_factor + trade.factors) kept.factors_there,
  ) refl

  pub entry_more : (change : Change) → IsKept old change → entry_kept new change ≡ entry_kept old change
  entry_more (Join name) kept = rw (more.same_names, get_or_append_left old.names names [] name kept) refl
  entry_more (Deposit user bits) kept = refl
  entry_more (Withdraw user bits) kept = refl
  entry_more (Trade trade) kept = rw (ratio_more trade kept) refl
  entry_more (Resolve pair) kept = refl
  entry_more Settle kept = rw more.same_payments refl
  entry_more (Add question) kept = rw (more.same_additions, get_or_append_left old.additions additions no_addition question kept) refl

  pub kept_more : (change : Change) → IsKept old change → IsKept new change
  kept_more (Join name) kept = rw more.same_names (omega (arith, length-append old.names names, kept))
  kept_more (Deposit user bits) kept = tt
  kept_more (Withdraw user bits) kept = tt
  kept_more (Trade trade) kept = record {
    pairs_there = longer new.pairs old.pairs pairs _ more.same_pairs kept.pairs_there;
    factors_there = longer new.factors old.factors factors _ more.same_factors kept.factors_there;
    ratio = rw (ratio_more trade kept) kept.ratio;
  }
  kept_more (Resolve pair) kept = tt
  kept_more Settle kept = tt
  kept_more (Add question) kept = rw more.same_additions (omega (arith, length-append old.additions additions, kept))

  entries_step : (changes : List Change) → AllByRecursion (IsKept old) changes → entries_kept new changes ≡ entries_kept old changes
  entries_step [] kept = refl
  entries_step (c ∷ cs) kept = rw (entry_more c kept.0, entries_step cs kept.1) refl

  all_step : (changes : List Change) → AllByRecursion (IsKept old) changes → AllByRecursion (IsKept new) changes
  all_step [] kept = tt
  all_step (c ∷ cs) kept = (kept_more c kept.0, all_step cs kept.1)

  pub entries_more : (changes : List Change) → All (IsKept old) changes → entries_kept new changes ≡ entries_kept old changes
  entries_more changes kept = entries_step changes (recursion_from_All (IsKept old) changes kept)

  pub all_more : (changes : List Change) → All (IsKept old) changes → All (IsKept new) changes
  all_more changes kept = All-from_recursion (IsKept new) changes (all_step changes (recursion_from_All (IsKept old) changes kept))
