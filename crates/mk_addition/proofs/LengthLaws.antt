-- How long the text of an added question is at most.
use Rattle.std.specs.Prelude.{ℕ, ◌+◌, ◌*◌, ◌≤◌, List, [], ◌∷◌, length, All, codes, decimal}
use Rattle.std.proofs.Common.{arith, length-append}
use Rattle.std.proofs.lemmas.List.Elements.{All-head, All-tail}
use Rattle.mk_names.specs.Name.{IsName}
use Rattle.mk_text.specs.Joined.{items_text}
use Rattle.mk_text.specs.Numbers.{IsShort}
use Rattle.mk_text.proofs.LengthLaws.{short_length, items_length}
use Rattle.mk_addition.specs.Adds.{joined, names_text, parents_text, row_text, rows_text, add_text}
use Rattle.mk_addition.specs.Adds.{AreBetween, IsAddText}
use Rattle.mk_addition.specs.declared.add.AddText.{AddText}

-- a list has one separator fewer than things
joined_length : {X : Type 0} (separator : List ℕ) (t : X → List ℕ) (F : X → Type 0)
    (gap most : ℕ) → length separator ≤ gap → ((x : X) → F x → length (t x) ≤ most) →
    (xs : List X) → 1 ≤ length xs → All F xs →
    length (joined separator t xs) + gap ≤ (most + gap) * length xs
joined_length separator t F gap most narrow each [] some all = absurd (omega arith)
joined_length separator t F gap most narrow each (x ∷ xs) some all =
    let here = each x (All-head F x xs all) in
    let others = items_length separator t F (most + gap)
    (λ x fits. let own = each x fits in omega arith) xs (All-tail F x xs all) in
    omega (arith, length-append (t x) (items_text separator t xs))

names_length : (names : List (List ℕ)) → 1 ≤ length names → All IsName names →
    length (names_text names) + 1 ≤ 33 * length names
names_length names some all = joined_length (codes ",") (λ name. name) IsName 1 32 (omega arith)
    (λ name fits. fits.short) names some all

parents_length : (names : List (List ℕ)) → length names ≤ 8 → All IsName names →
    length (parents_text names) ≤ 266
parents_length [] few all = omega arith
parents_length (name ∷ names) few all =
    let own = names_length (name ∷ names) (omega arith) all in
    omega (arith, length-append (codes " | ") (names_text (name ∷ names)))

abbrev IsRow : List ℕ → Type 0
IsRow = AreBetween 1 16 IsShort

row_length : (row : List ℕ) → IsRow row → length (row_text row) ≤ 159
row_length row fits =
    let own = joined_length (codes " ") decimal IsShort 1 9 (omega arith) short_length row
    (fits.enough) (fits.each) in
    omega (arith, fits.few)

rows_length : (rows : List (List ℕ)) → AreBetween 1 64 IsRow rows →
    length (rows_text rows) ≤ 10302
rows_length rows fits =
    let own = joined_length (codes ", ") row_text IsRow 2 159 (omega arith) row_length rows
    (fits.enough) (fits.each) in
    omega (arith, fits.few)

pub add_length : (add : AddText) → IsAddText add → length (add_text add) ≤ 11580
add_length add fits =
    let names = fits.values in
    let clique = fits.clique in
    let values = names_length add.values.items (omega (arith, names.enough)) names.each in
    let parents = parents_length add.parents.items fits.parents.few fits.parents.each in
    let rows = rows_length add.rows.items fits.rows in
    let cliques = names_length add.clique.items clique.enough clique.each in
    let link = short_length add.link fits.link in
    simp length-append (omega (arith, fits.variable.short, names.few, clique.few))
