-- How long texts are at most.
use Rattle.std.specs.Prelude.{◌≡◌, ℕ, ◌+◌, ◌*◌, ◌≤◌, ◌/◌, ◌%◌, List, [], ◌∷◌, ◌++◌, length, All, codes, decimal, Option, Some, None}
use Rattle.std.proofs.Common.{arith, length-append, lit<}
use Rattle.std.proofs.lemmas.Fmt.{length-decimal-le}
use Rattle.std.proofs.lemmas.List.Elements.{All-head, All-tail}
use Rattle.mk_net.specs.declared.words.PairText.{PairText}
use Rattle.mk_net.specs.declared.words.QuestionText.{QuestionText}
use Rattle.mk_text.specs.Joined.{items_text, spaced, AreSeveral}
use Rattle.mk_text.specs.Numbers.{IsShort, IsLong, price_text, IsPrice, places, units, limits_text, AreLimits}
use Rattle.mk_text.specs.Texts.{IsPairText, pair_text, IsCondition, condition_text, IsQuestionText, question_text}
use Rattle.mk_text.proofs.NumberLemmas.{length-places}

pub short_length : (n : ℕ) → IsShort n → length (decimal n) ≤ 9
short_length n short = length-decimal-le 9 n (lit< tt) short (omega arith)

pub long_length : (n : ℕ) → IsLong n → length (decimal n) ≤ 19
long_length n long = length-decimal-le 19 n (lit< tt) (omega arith) (omega arith)

pub pair_length : (pair : PairText) → IsPairText pair → length (pair_text pair) ≤ 65
pair_length pair fits = simp length-append (omega (arith, fits.variable.short, fits.value.short))

pub items_length : {X : Type 0} (separator : List ℕ) (text : X → List ℕ) (Fits : X → Type 0) (most : ℕ) → ((x : X) → Fits x → length separator + length (text x) ≤ most) →
    (xs : List X) → All Fits xs → length (items_text separator text xs) ≤ most * length xs
items_length separator text Fits most each [] all = omega arith
items_length separator text Fits most each (x ∷ xs) all =
    let here = each x (All-head Fits x xs all) in
    let more = items_length separator text Fits most each xs (All-tail Fits x xs all) in
    simp length-append (omega arith)

joined_length : (a b c : List ℕ) (l m n : ℕ) → length a ≤ l → length b ≤ m → length c ≤ n → length (a ++ (b ++ c)) ≤ l + (m + n)
joined_length a b c l m n first second third = simp length-append (omega (arith, first, second, third))

pub condition_length : (pairs : List PairText) → IsCondition pairs → length (condition_text pairs) ≤ 537
condition_length [] fits = omega arith
condition_length (pair ∷ pairs) fits =
    let first = pair_length pair (All-head IsPairText pair pairs fits.each) in
    let more = items_length (codes ", ") pair_text IsPairText 67 (λ pair fits. omega (arith, pair_length pair fits)) pairs (All-tail IsPairText pair pairs fits.each) in
    joined_length (codes " | ") (pair_text pair) (items_text (codes ", ") pair_text pairs) 3 65 469 (omega arith) first (omega (arith, more, fits.few))

pub question_length : (question : QuestionText) → IsQuestionText question → length (question_text question) ≤ 602
question_length question fits =
    omega (
      arith,
      length-append (pair_text question.target) (condition_text question.condition.items),
      pair_length question.target fits.target,
      condition_length question.condition.items fits.condition,
    )

pub price_length : (price : ℕ) → IsPrice price → length (price_text price) ≤ 30
price_length price fits =
    let whole : IsLong (price / units) = omega (arith, fits) in
    let digits : length (places 10 (price % units)) ≡ 10 = length-places 10 (price % units) in
    simp length-append (omega (arith, long_length (price / units) whole, digits))

pub limits_length : (limits : Option (ℕ × ℕ)) → AreLimits limits → length (limits_text limits) ≤ 40
limits_length None fits = omega arith
limits_length (Some limits) fits =
    simp length-append (omega (arith, long_length (limits.0) (omega (arith, fits.ordered, fits.below)), long_length (limits.1) (omega (arith, fits.below))))

-- several short numbers
pub shorts_length : (xs : List ℕ) → AreSeveral IsShort xs → length (spaced decimal xs) ≤ 160
shorts_length [] fits = omega arith
shorts_length (x ∷ xs) fits =
    let first = short_length x (All-head IsShort x xs fits.each) in
    let more = items_length (codes " ") decimal IsShort 10 (λ y is. let n = short_length y is in omega (arith, n)) xs (All-tail IsShort x xs fits.each) in
    omega (arith, length-append (decimal x) (items_text (codes " ") decimal xs), first, more, fits.few)
