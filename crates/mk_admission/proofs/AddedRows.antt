-- The rows of an added question, one after the other.
use Rattle.std.proofs.Common.{◌≡◌, ℕ, ◌+◌, ◌*◌, ◌<◌, ◌≤◌, Bool, true, false, cond, not, leb}
use Rattle.std.proofs.Common.{List, [], ◌∷◌, ◌++◌, length, sum, drop, get_or, slice_index, Option}
use Rattle.std.proofs.Common.{Some}
use Rattle.std.proofs.Common.{None, refl, sym, ap, ap₂, ◌∙◌, arith, mul_assoc, slice_index_or}
use Rattle.std.specs.Prelude.{◌==◌, ◌-◌, ◌^◌, ◌&&◌, All, find, option_map, position}
use Rattle.std.specs.List.{flat_map, enumerate_from}
use Rattle.std.proofs.lemmas.List.{at_drop_more, at_drop_all}
use Rattle.std.proofs.lemmas.List.Elements.{All-from_recursion}
use Rattle.std.proofs.lemmas.List.Sums.{sum_by-le}
use Rattle.mk_net.specs.Bounds.{million, max_values}
use Rattle.mk_net.specs.Firsts.{fault_if, or_else}
use Rattle.mk_net.specs.Network.{choices}
use Rattle.mk_states.proofs.Sums.{each_weaker}
use Rattle.mk_exact.specs.Market.{Market}
use Rattle.mk_reply.specs.declared.refusal.Refusal.{Refusal}
use Rattle.mk_reply.specs.declared.refusal.Refusal.TheVariants.{Range, Sum, RowWidth}
use Rattle.mk_rules.specs.Refusals.{ranges, sums, least_share}
use Rattle.mk_addition.specs.declared.add.AddText.{AddText}
use Rattle.mk_rules.specs.Additions.{most_share, row_width}
use Rattle.mk_rules.proofs.Spreads.{numbers_in_range}
use Rattle.mk_rules.proofs.Additions.{rows_have}
use Rattle.mk_admission.proofs.Finding.{counted_found, counted_missed}

abbrev pub all_of : List (List ℕ) → List ℕ
all_of rows = flat_map (λ row. row) rows

-- the first number out of range, in a row or behind it
ranges_both : (least most : ℕ) (xs ys : List ℕ)
    → ranges least most (xs ++ ys) ≡ or_else (ranges least most xs) (ranges least most ys)
ranges_both least most [] ys = refl
ranges_both least most (x ∷ xs) ys =
    at (not (leb least x && leb x most)) (ranges_both least most xs ys)
  where
    test : ℕ → Bool
    test n = not (leb least n && leb n most)

    at : (b : Bool)
        → ranges least most (xs ++ ys) ≡ or_else (ranges least most xs) (ranges least most ys)
        → option_map Range (cond b (Some x) (find test (xs ++ ys)))
        ≡ or_else (option_map Range (cond b (Some x) (find test xs))) (ranges least most ys)
    at true rest = refl
    at false rest = rest

module _ (least most : ℕ) (rows : List (List ℕ)) (k : ℕ) (d : List ℕ) (within : k < length rows)
    (so_far : ranges least most (all_of (drop k rows)) ≡ ranges least most (all_of rows)) where
  here : or_else (ranges least most (get_or rows k d))
      (ranges least most (all_of (drop (k + 1) rows))) ≡ ranges least most (all_of rows)
  here =
      sym (ranges_both least most (get_or rows k d) (all_of (drop (k + 1) rows)))
      ∙ sym (at_drop_more (λ rs. ranges least most (all_of rs)) rows k d within) ∙ so_far

  pub row_in_range : None ≡ ranges least most (get_or rows k d)
      → ranges least most (all_of (drop (k + 1) rows)) ≡ ranges least most (all_of rows)
  row_in_range h =
      ap (λ o. or_else o (ranges least most (all_of (drop (k + 1) rows)))) h ∙ here

  pub row_out_of_range : (why : Refusal) → Some why ≡ ranges least most (get_or rows k d)
      → Some why ≡ ranges least most (all_of rows)
  row_out_of_range why h =
      ap (λ o. or_else o (ranges least most (all_of (drop (k + 1) rows)))) h ∙ here

pub rows_in_range : (least most : ℕ) (rows : List (List ℕ)) (k : ℕ) → length rows ≤ k
    → ranges least most (all_of (drop k rows)) ≡ ranges least most (all_of rows)
    → None ≡ ranges least most (all_of rows)
rows_in_range least most rows k h so_far =
    sym (at_drop_all (λ rs. ranges least most (all_of rs)) rows k h) ∙ so_far

-- the first row whose numbers do not make a million
abbrev pub first_sum : List (List ℕ) → Option Refusal
first_sum rows = option_map (λ row. Sum (sum row)) (find (λ row. not (sum row == million)) rows)

sum_or_later : (row : List ℕ) (rows : List (List ℕ))
    → first_sum (row ∷ rows) ≡ or_else (sums row) (first_sum rows)
sum_or_later row rows = at (not (sum row == million))
  where
    at : (b : Bool)
        → option_map (λ row. Sum (sum row))
        (cond b (Some row) (find (λ row. not (sum row == million)) rows))
        ≡ or_else (fault_if b (Sum (sum row))) (first_sum rows)
    at true = refl
    at false = refl

module _ (rows : List (List ℕ)) (k : ℕ) (d : List ℕ) (within : k < length rows)
    (so_far : first_sum (drop k rows) ≡ first_sum rows) where
  whole_here : or_else (sums (get_or rows k d)) (first_sum (drop (k + 1) rows)) ≡ first_sum rows
  whole_here =
      sym (sum_or_later (get_or rows k d) (drop (k + 1) rows))
      ∙ sym (at_drop_more first_sum rows k d within) ∙ so_far

  pub row_is_whole : None ≡ sums (get_or rows k d)
      → first_sum (drop (k + 1) rows) ≡ first_sum rows
  row_is_whole h = ap (λ o. or_else o (first_sum (drop (k + 1) rows))) h ∙ whole_here

  pub row_is_not_whole : (why : Refusal) → Some why ≡ sums (get_or rows k d)
      → Some why ≡ first_sum rows
  row_is_not_whole why h = ap (λ o. or_else o (first_sum (drop (k + 1) rows))) h ∙ whole_here

pub rows_are_whole : (rows : List (List ℕ)) (k : ℕ) → length rows ≤ k
    → first_sum (drop k rows) ≡ first_sum rows → None ≡ first_sum rows
rows_are_whole rows k h so_far = sym (at_drop_all first_sum rows k h) ∙ so_far

-- the numbers of a row that are shares have a sum that fits
pub row_sum_fits : (row : List ℕ) → length row ≤ max_values → All (λ n. n ≤ million) row
    → sum row < 2 ^ 32
row_sum_fits row few small = omega (arith, sum_by-le (λ n. n) million row small, few)

pub rows_are_small : (market : Market) (rows : List (List ℕ))
    → None ≡ ranges (least_share market) (most_share market) (all_of rows)
    → All (All (λ n. n ≤ million)) rows
rows_are_small market rows h =
    All-from_recursion (All (λ n. n ≤ million)) rows
    (rows_have (λ n. n ≤ million) rows
    (each_weaker (λ n. (least_share market ≤ n) × (n ≤ most_share market)) (λ n. n ≤ million)
    (λ n inside. most market.zeros n inside.1) (all_of rows)
    (numbers_in_range (least_share market) (most_share market) (all_of rows) (sym h))))
  where
    most : (zeros : Bool) (n : ℕ) → n ≤ cond zeros million (million - 1) → n ≤ million
    most true n i = i
    most false n i = omega (arith, i)

-- the first row of another width
pub width_found : (add : AddText) (rows : List (List ℕ)) (width place given : ℕ) (row : List ℕ)
    → rows ≡ add.rows.items → width ≡ length add.values.items → place < length rows
    → Some place ≡ position (λ row. not (length row == width)) rows
    → row ≡ slice_index_or rows place row → given ≡ length row
    → Some (RowWidth (place + 1) given) ≡ row_width add
width_found add rows width place given row e f within first read wide =
    let next : place + 1 ≡ 1 + place = omega arith in
    ap₂ (λ n m. Some (RowWidth n m)) next wide
    ∙ sym (ap (option_map told) (counted_found (λ row. not (length row == width)) rows 1 place row
    within first read))
    ∙ ap₂ (λ rs n. option_map told (find (λ (numbered : ℕ × List ℕ).
    not (length (numbered.1) == n)) (enumerate_from 1 rs))) e f
  where
    told : ℕ × List ℕ → Refusal
    told numbered = RowWidth (numbered.0) (length (numbered.1))

pub width_missed : (add : AddText) (rows : List (List ℕ)) (width : ℕ)
    → rows ≡ add.rows.items → width ≡ length add.values.items
    → None ≡ position (λ row. not (length row == width)) rows → None ≡ row_width add
width_missed add rows width e f first =
    sym (ap (option_map told) (counted_missed (λ row. not (length row == width)) rows 1 first))
    ∙ ap₂ (λ rs n. option_map told (find (λ (numbered : ℕ × List ℕ).
    not (length (numbered.1) == n)) (enumerate_from 1 rs))) e f
  where
    told : ℕ × List ℕ → Refusal
    told numbered = RowWidth (numbered.0) (length (numbered.1))

-- how many lists of values there are, one variable after the other
pub lists_next : (ns vars : List ℕ) (k lists values : ℕ) → k < length vars
    → values ≡ slice_index ns (get_or vars k 0)
    → lists * choices ns (drop k vars) ≡ choices ns vars
    → lists * values * choices ns (drop (k + 1) vars) ≡ choices ns vars
lists_next ns vars k lists values within e so_far =
    mul_assoc lists values (choices ns (drop (k + 1) vars))
    ∙ ap (λ n. lists * (n * choices ns (drop (k + 1) vars))) e
    ∙ ap (λ n. lists * n) (sym (at_drop_more (choices ns) vars k 0 within)) ∙ so_far
