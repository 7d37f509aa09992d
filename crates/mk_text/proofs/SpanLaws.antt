-- What is read of several intervals: of prices, and of numbers or none.
use Rattle.std.specs.Prelude.{◌≡◌, ℕ, ◌/◌, ◌%◌, ◌^◌, ◌<◌, List, ◌++◌, false, codes, decimal}
use Rattle.std.specs.Prelude.{Option, Some, None}
use Rattle.std.proofs.Common.{refl, ◌∙◌, arith, append_assoc, lit≤, lit<}
use Rattle.std.proofs.lemmas.Option.{same_Some, option_and_then_some}
use Rattle.mk_text.specs.Joined.{spaced, AreSeveral}
use Rattle.mk_text.specs.Numbers.{places, units, price_text, ArePrices, prices_text}
use Rattle.mk_text.specs.Numbers.{AreEnds, ends_text}
use Rattle.mk_text.specs.Words.{EndsWord, after}
use Rattle.mk_text.specs.Reading.{made, given, read_range, read_several, before_revision}
use Rattle.mk_text.specs.Reading.{read_two_prices, read_ends}
use Rattle.mk_text.proofs.ReadingLaws.{Took, took_same, Reads, both_reads, behind_reads}
use Rattle.mk_text.proofs.ReadingLaws.{either_cases, either_here, either_else}
use Rattle.mk_text.proofs.PartLaws.{price_reads, AreBelow, both_ends, range_reads}
use Rattle.mk_text.proofs.PartLaws.{EndsSeveral, several_reads, number_no_word, number_goes_on}

-- two prices, and several times two
pub two_prices_reads : Reads read_two_prices prices_text ArePrices EndsWord
unfolding read_two_prices
two_prices_reads =
    let high = behind_reads (codes "..") price_reads in
    both_reads price_reads high (λ high rest fits ends. refl)

prices_go_on : (prices : ℕ × ℕ) (rest : List ℕ) → ArePrices prices →
    before_revision (codes " " ++ (prices_text prices ++ rest)) ≡ false
prices_go_on prices rest fits =
    let whole = prices.0 / units in
    let part = codes "." ++ places 10 (prices.0 % units) in
    let high = codes ".." ++ price_text (prices.1) in
    let behind = append_assoc (price_text (prices.0)) high rest in
    let first = append_assoc (decimal whole) part (high ++ rest) in
    let below : whole < 2 ^ 64 = omega (arith, fits.0) in
    rw (behind, first) (number_goes_on whole (part ++ (high ++ rest)) below)

pub all_prices_reads :
    Reads (read_several read_two_prices) (spaced prices_text) (AreSeveral ArePrices) EndsSeveral
all_prices_reads = several_reads two_prices_reads prices_go_on

-- two numbers of a reply or none, and several of these
two_reads : Reads (read_range (2 ^ 63)) both_ends (AreBelow (2 ^ 63)) EndsWord
two_reads = range_reads (2 ^ 63) (lit≤ tt)

ends_takes : (bytes : List ℕ) (ends : Option (ℕ × ℕ)) (rest : List ℕ) →
    read_ends bytes ≡ Some (ends, rest) → Took ends_text AreEnds bytes ends rest
unfolding read_ends
ends_takes bytes ends rest e =
    let two = made (λ ends. Some ends) (read_range (2 ^ 63)) in
    either_cases (codes "none") (given None) two bytes (Some (ends, rest)) _ e
    (λ left begins e1.
    let same = same_Some (None, left) (ends, rest) e1 in
    let took : Took ends_text AreEnds bytes None left = record { begins = begins; fits = tt } in
    took_same ends_text AreEnds bytes (None, left) (ends, rest) same took)
    (λ e1. option_and_then_some _ _ (ends, rest) e1 (λ x was e2.
    let same = same_Some (Some (x.0), x.1) (ends, rest) e2 in
    let read = two_reads.takes bytes (x.0) (x.1) was in
    let took : Took ends_text AreEnds bytes (Some (x.0)) (x.1) =
    record { begins = read.begins; fits = read.fits } in
    took_same ends_text AreEnds bytes (Some (x.0), x.1) (ends, rest) same took))

-- two numbers of a reply begin with digits
digits_begin : (two : ℕ × ℕ) (rest : List ℕ) →
    ends_text (Some two) ++ rest ≡ decimal (two.0) ++ ((codes ".." ++ decimal (two.1)) ++ rest)
digits_begin two rest = append_assoc (decimal (two.0)) (codes ".." ++ decimal (two.1)) rest

ends_again : (ends : Option (ℕ × ℕ)) (rest : List ℕ) → AreEnds ends → EndsWord rest →
    read_ends (ends_text ends ++ rest) ≡ Some (ends, rest)
unfolding read_ends
ends_again None rest fits ends =
    either_here (codes "none") (given None) (made (λ ends. Some ends) (read_range (2 ^ 63))) rest
ends_again (Some two) rest fits ends =
    let behind = (codes ".." ++ decimal (two.1)) ++ rest in
    let low : two.0 < 2 ^ 64 = omega (arith, fits.0) in
    let missing : after (codes "none") (ends_text (Some two) ++ rest) ≡ None =
    rw (digits_begin two rest) (number_no_word 110 (codes "one") (two.0) behind (lit< tt) low) in
    let read = made (λ ends. Some ends) (read_range (2 ^ 63)) in
    either_else (codes "none") (given None) read (ends_text (Some two) ++ rest) missing
    ∙ rw (two_reads.again two rest fits ends) refl

pub ends_reads : Reads read_ends ends_text AreEnds EndsWord
ends_reads = record { takes = ends_takes; again = ends_again }

ends_go_on : (ends : Option (ℕ × ℕ)) (rest : List ℕ) → AreEnds ends →
    before_revision (codes " " ++ (ends_text ends ++ rest)) ≡ false
unfolding after
ends_go_on None rest fits = refl
ends_go_on (Some two) rest fits =
    let behind = (codes ".." ++ decimal (two.1)) ++ rest in
    let low : two.0 < 2 ^ 64 = omega (arith, fits.0) in
    rw (digits_begin two rest) (number_goes_on (two.0) behind low)

pub all_ends_reads :
    Reads (read_several read_ends) (spaced ends_text) (AreSeveral AreEnds) EndsSeveral
all_ends_reads = several_reads ends_reads ends_go_on
