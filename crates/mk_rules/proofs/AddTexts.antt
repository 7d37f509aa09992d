-- What an added question is refused for has a text.
use Rattle.std.proofs.Common.{◌≡◌, ℕ, ◌+◌, ◌≤◌, Bool, true, false, cond, not, List, [], ◌∷◌}
use Rattle.std.proofs.Common.{◌++◌, length, sum, Option, Some, None, IfSome, refl, arith}
use Rattle.std.specs.Prelude.{◌==◌, option_map, All}
use Rattle.std.specs.List.{AllByRecursion, enumerate_from}
use Rattle.std.proofs.lemmas.List.Elements.{recursion_from_All}
use Rattle.std.proofs.lemmas.List.Sums.{sum_by-le}
use Rattle.mk_names.specs.Name.{IsName}
use Rattle.mk_states.proofs.Sums.{each_weaker, each_both, each-append, each-flat_map}
use Rattle.mk_exact.specs.History.{Entry}
use Rattle.mk_exact.specs.Market.{Market}
use Rattle.mk_text.specs.Numbers.{IsShort}
use Rattle.mk_addition.specs.Adds.{AreBetween, IsAddText}
use Rattle.mk_addition.specs.declared.add.AddText.{AddText}
use Rattle.mk_command.specs.declared.command.Command.TheVariants.{Add}
use Rattle.mk_reply.specs.Refusals.{IsRefusal}
use Rattle.mk_reply.specs.declared.refusal.Refusal.{Refusal}
use Rattle.mk_reply.specs.declared.refusal.Refusal.TheVariants.{Twice, NoVariable, ValueTwice}
use Rattle.mk_reply.specs.declared.refusal.Refusal.TheVariants.{Uncovered, NotRunning, RowWidth}
use Rattle.mk_reply.specs.declared.refusal.Refusal.TheVariants.{Sum}
use Rattle.mk_rules.specs.Additions.{is_among, variables_full, taken, nobody_named, no_link}
use Rattle.mk_rules.specs.Additions.{uncovered, not_running, row_count, row_width, most_share}
use Rattle.mk_rules.specs.Additions.{shares_of, row_sum, too_large}
use Rattle.mk_rules.specs.Refusals.{settled, twice, value_twice, least_share, ranges}
use Rattle.mk_rules.specs.Refusals.{first_refusal}
use Rattle.mk_rules.specs.Standings.{IsMarket}
use Rattle.mk_rules.proofs.Spreads.{numbers_in_range}
use Rattle.mk_rules.proofs.Additions.{rows_have, cells_bounded}
use Rattle.mk_rules.proofs.Faults.{faulted, first_has, then_all, found_has, repeat_has, name_fault}
use Rattle.mk_rules.proofs.Faults.{ranges_have}

module _ (market : Market) (H : List Entry) where
  -- rows that are short are counted by short numbers
  abbrev IsShortWidth : ℕ × List ℕ → Type 0
  IsShortWidth numbered = IsShort (numbered.0) × IsShort (length (numbered.1))

  width_fault : (o : Option (ℕ × List ℕ))
      → IfSome o IsShortWidth
      → IfSome (option_map (λ numbered. RowWidth (numbered.0) (length (numbered.1))) o) IsRefusal
  width_fault None h = tt
  width_fault (Some numbered) h = h

  counted_rows : (n : ℕ) (rows : List (List ℕ)) → n + length rows ≤ 65
      → AllByRecursion (AreBetween 1 16 IsShort) rows
      → AllByRecursion IsShortWidth (enumerate_from n rows)
  counted_rows n [] few h = tt
  counted_rows n (row ∷ rows) few h = (
    (omega (arith, few), omega (arith, h.0.few)),
    counted_rows (n + 1) rows (omega (arith, few)) h.1,
  )

  -- sixteen numbers in range have a short sum
  at_most_million : most_share market ≤ 1000000
  at_most_million = at market.zeros
    where
      at : (b : Bool) → cond b 1000000 999999 ≤ 1000000
      at true = omega arith
      at false = omega arith

  row_is_short : (row : List ℕ) → AreBetween 1 16 IsShort row × All (λ n. n ≤ 1000000) row
      → IsShort (sum row)
  row_is_short row h = omega (arith, sum_by-le (λ n. n) 1000000 row h.1, h.0.few)

  sum_fault : (o : Option (List ℕ)) → IfSome o (λ row. IsShort (sum row))
      → IfSome (option_map (λ row. Sum (sum row)) o) IsRefusal
  sum_fault None h = tt
  sum_fault (Some row) h = h

  -- what a question is refused for before its rows are summed: by what is held, by its names, by
  -- where it goes, and by its rows
  abbrev by_hold : AddText → List (Option Refusal)
  by_hold add =
      settled H ∷ variables_full market.network ∷ taken market.network add.variable ∷ []

  abbrev by_names : AddText → List (Option Refusal)
  by_names add =
      value_twice add.values.items ∷ nobody_named market.network [] add.parents.items
      ∷ nobody_named market.network (add.variable ∷ []) add.clique.items
      ∷ twice add.parents.items ∷ twice add.clique.items ∷ []

  abbrev by_place : AddText → List (Option Refusal)
  by_place add =
      no_link market.cliques add.link ∷ uncovered add ∷ not_running market add ∷ []

  abbrev by_rows : AddText → List (Option Refusal)
  by_rows add =
      row_count market.network add ∷ row_width add
      ∷ ranges (least_share market) (most_share market) (shares_of add) ∷ []

  abbrev by_words : AddText → List (Option Refusal)
  by_words add = by_hold add ++ (by_names add ++ (by_place add ++ by_rows add))

  abbrev HaveTexts : List (Option Refusal) → Type 0
  HaveTexts faults = AllByRecursion (λ o. IfSome o IsRefusal) faults

  abbrev HasText : Option Refusal → Type 0
  HasText o = IfSome o IsRefusal

  module _ (add : AddText) (text : IsAddText add) where
    clique_named : AllByRecursion IsName add.clique.items
    clique_named = recursion_from_All IsName add.clique.items text.clique.each

    parents_named : AllByRecursion IsName add.parents.items
    parents_named = recursion_from_All IsName add.parents.items text.parents.each

    rows_short : AllByRecursion (AreBetween 1 16 IsShort) add.rows.items
    rows_short = recursion_from_All (AreBetween 1 16 IsShort) add.rows.items text.rows.each

    shares_short : AllByRecursion IsShort (shares_of add)
    shares_short =
        each-flat_map IsShort (λ row. row) add.rows.items
        (each_weaker (AreBetween 1 16 IsShort) (AllByRecursion IsShort)
        (λ row h. recursion_from_All IsShort row h.each) add.rows.items rows_short)

    holds_have : HaveTexts (by_hold add)
    holds_have = (faulted _ _ tt, (faulted _ _ refl, (faulted _ _ text.variable, tt)))

    names_have : HaveTexts (by_names add)
    names_have =
        let values = recursion_from_All IsName add.values.items text.values.each in
        let twice_has = name_fault Twice (λ name named. named) in
        let nobody_has = name_fault NoVariable (λ name named. named) in (
          name_fault ValueTwice (λ name named. named) _ (repeat_has [] add.values.items values),
          (
            nobody_has _ (found_has IsName _ add.parents.items parents_named),
            (
              nobody_has _ (found_has IsName _ add.clique.items clique_named),
              (
                twice_has _ (repeat_has [] add.parents.items parents_named),
                (twice_has _ (repeat_has [] add.clique.items clique_named), tt),
              ),
            ),
          ),
        )

    place_has : HaveTexts (by_place add)
    place_has = (
      faulted _ _ text.link,
      (
        name_fault Uncovered (λ name named. named) _
            (found_has IsName (λ name. not (is_among add.clique.items name))
            (add.variable ∷ add.parents.items) (text.variable, parents_named)),
        (
          name_fault NotRunning (λ name named. named) _
              (found_has IsName _ add.clique.items clique_named),
          tt,
        ),
      ),
    )

    rows_fit : HaveTexts (by_rows add)
    rows_fit =
        let few : 1 + length add.rows.items ≤ 65 = omega (arith, text.rows.few) in
        let widths = counted_rows 1 add.rows.items few rows_short in (
          faulted _ _ (omega (arith, text.rows.few)),
          (
            width_fault _ (found_has IsShortWidth _ (enumerate_from 1 add.rows.items) widths),
            (ranges_have (least_share market) (most_share market) (shares_of add) shares_short, tt),
          ),
        )

    words_have : HaveTexts (by_words add)
    words_have =
        each-append HasText (by_hold add) (by_names add ++ (by_place add ++ by_rows add)) holds_have
        (each-append HasText (by_names add) (by_place add ++ by_rows add) names_have
        (each-append HasText (by_place add) (by_rows add) place_has rows_fit))

    sums_have : ranges (least_share market) (most_share market) (shares_of add) ≡ None
        → IfSome (row_sum add) IsRefusal
    sums_have within =
        let items = add.rows.items in
        let numbers = each_weaker
        (λ n. (least_share market ≤ n) × (n ≤ most_share market)) (λ n. n ≤ 1000000)
        (λ n inside. omega (arith, inside.1, at_most_million)) (shares_of add)
        (numbers_in_range (least_share market) (most_share market) (shares_of add) within) in
        let sums = each_weaker (λ row. AreBetween 1 16 IsShort row × All (λ n. n ≤ 1000000) row)
        (λ row. IsShort (sum row)) row_is_short items
        (each_both (AreBetween 1 16 IsShort) (All (λ n. n ≤ 1000000)) items rows_short
        (rows_have (λ n. n ≤ 1000000) items numbers)) in
        sum_fault _
        (found_has (λ row. IsShort (sum row)) (λ row. not (sum row == 1000000)) items sums)

    -- where the numbers of its rows are in range, their sums are short, and so are the cells
    pub add_refused : IsMarket market → IfSome (first_refusal market H (Add add)) IsRefusal
    add_refused legal =
        then_all (by_words add) (row_sum add ∷ too_large market add ∷ []) words_have (λ none.
        let cells = cells_bounded market add legal text none.1.1.0
        none.1.1.1.1.1.1.1.1.1.1.0 in
        first_has (row_sum add ∷ too_large market add ∷ []) (
          sums_have none.1.1.1.1.1.1.1.1.1.1.1.1.1.0,
          (faulted _ _ (omega (arith, cells)), tt),
        ))
