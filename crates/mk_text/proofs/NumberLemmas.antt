-- Numbers: each is read from the digits in which it is written, and from no others.
use Rattle.std.specs.Prelude.{◌≡◌, ℕ, zero, suc, ◌+◌, ◌*◌, ◌/◌, ◌%◌, ◌^◌, ◌<◌, ◌≤◌, List, [], ◌∷◌, length, drop, Bool, true, false, ◌&&◌, nat_lt, Option, Some, None, decimal, cond, IsUtf8, All}
use Rattle.std.specs.List.{list_all}
use Rattle.std.specs.Str.{bytes_eq}
use Rattle.std.specs.Char.{digit_value}
use Rattle.std.specs.Int.{IsInRange}
use Rattle.std.specs.Str.Parse.{IsNumeral, AllDigits, digits_value}
use Rattle.std.proofs.Common.{refl, sym, ap, ◌∙◌, arith, length-append, lit<}
use Rattle.std.proofs.lemmas.Bool.Decides.{nat_tests}
use Rattle.std.proofs.lemmas.Option.{cond_some}
use Rattle.std.proofs.lemmas.Bool.{ltb-true, lt-ltb}
use Rattle.std.proofs.lemmas.Fmt.{decimal_is_IsNumeral, decimal_digit, decimal_step}
use Rattle.std.proofs.lemmas.Int.Digits.{digits_push, digits_value_push}
use Rattle.std.proofs.Math.Nat.{pow-suc, div-lt_iff_lt-mul}
use Rattle.std.proofs.lemmas.Slice.Eq.{bytes_eq-Decides}
use Rattle.std.proofs.lemmas.Str.{digit_value_digit}
use Rattle.std.proofs.lemmas.Str.Parse.{digit_from_value}
use Rattle.std.proofs.lemmas.Str.{IsUtf8-from_ascii}
use Rattle.std.proofs.lemmas.Str.Ascii.{IsAscii-from_all}
use Rattle.std.proofs.lemmas.List.Elements.{All-nil, All-cons}
use Rattle.mk_names.specs.Name.{IsName, is_name_byte}
use Rattle.mk_text.specs.Numbers.{places}
use Rattle.mk_text.specs.Reading.{number_written}
use Rattle.mk_text.proofs.WordLemmas.{both_true}

-- numbers below a limit are written in digits that have their value
pub record IsWriting (write : ℕ → List ℕ) (limit : ℕ) : Type 0 where
  pub numeral : (n : ℕ) → n < limit → IsNumeral 10 (write n)
  pub value : (n : ℕ) → n < limit → digits_value 10 (write n) ≡ n

-- digits may stand in a word
digit_in_word : (b : ℕ) → IsInRange 48 57 b → is_name_byte b ≡ true
digit_in_word b inside = grind (arith, nat_tests)

pub digits_in_word : (digits : List ℕ) → AllDigits 10 digits → list_all is_name_byte digits ≡ true
digits_in_word [] all = refl
digits_in_word (b ∷ digits) all = rw (digit_in_word b (digit_from_value b (all.0)), digits_in_word digits (all.1)) refl

-- digits without leading zeros
pub decimal_writing : (limit : ℕ) → limit ≤ 2 ^ 64 → IsWriting decimal limit
decimal_writing limit fits = record {
  numeral = λ n below. (decimal_is_IsNumeral n (omega arith)).0;
  value = λ n below. (decimal_is_IsNumeral n (omega arith)).1;
}

last_digit : (n : ℕ) → digit_value (48 + n % 10) ≡ n % 10
last_digit n = grind (arith, digit_value_digit (48 + n % 10))

-- as many digits as there are places
places_digits : (count n : ℕ) → AllDigits 10 (places count n)
unfolding places
places_digits zero n = tt
places_digits (suc count) n =
    digits_push 10 (places count (n / 10)) (48 + n % 10) (places_digits count (n / 10)) (rw (last_digit n) (omega arith))

pub length-places : (count n : ℕ) → length (places count n) ≡ count
unfolding places
length-places zero n = refl
length-places (suc count) n = omega (arith, length-append (places count (n / 10)) ((48 + n % 10) ∷ []), length-places count (n / 10))

places_value : (count n : ℕ) → n < 10 ^ count → digits_value 10 (places count n) ≡ n
unfolding places
places_value zero n below = omega (arith, below)
places_value (suc count) n below =
    let room : n < 10 ^ count * 10 = rw (← pow-suc 10 count) below in
    let fewer : n / 10 < 10 ^ count = (div-lt_iff_lt-mul {k = 10} {x = n} {y = 10 ^ count} (lit< tt)).1 room in
    let front : digits_value 10 (places count (n / 10)) ≡ n / 10 = places_value count (n / 10) fewer in
    digits_value_push 10 (places count (n / 10)) (48 + n % 10) ∙ rw (front, last_digit n) (omega arith)

pub places_writing : IsWriting (places 10) (10 ^ 10)
places_writing = record {
  numeral = λ n below. (omega (arith, length-places 10 n), places_digits 10 n);
  value = λ n below. places_value 10 n below;
}

taken_if : (test : Bool) (n : ℕ) → (test ≡ true → ⊥) → cond test (Some n) None ≡ None
taken_if true n never = absurd (never refl)
taken_if false n never = refl

both_pass : (p q : Bool) → p ≡ true → q ≡ true → p && q ≡ true
both_pass true true e f = refl
both_pass true false e f = f
both_pass false q e f = e

-- what is read of the digits in which a number is written
pub number_found : (write : ℕ → List ℕ) (limit n : ℕ) (text : List ℕ) → IsWriting write limit → n < limit → write n ≡ text →
    number_written write limit text ≡ Some n
unfolding number_written
number_found write limit n text writing below same =
    let value : digits_value 10 text ≡ n = rw (← same) (writing.value n below) in
    let passes : nat_lt n limit && bytes_eq (write n) text ≡ true =
    both_pass (nat_lt n limit) (bytes_eq (write n) text) (lt-ltb n limit below) ((bytes_eq-Decides (write n) text).1 same) in
    rw (value, passes) refl

pub number_is : (write : ℕ → List ℕ) (limit n : ℕ) (text : List ℕ) → number_written write limit text ≡ Some n →
    (write n ≡ text) × (n < limit)
unfolding number_written
number_is write limit n text e =
    let picked = cond_some (nat_lt (digits_value 10 text) limit && bytes_eq (write (digits_value 10 text)) text) (digits_value 10 text) n e in
    let parts = both_true (nat_lt (digits_value 10 text) limit) (bytes_eq (write (digits_value 10 text)) text) (picked.0) in (
      ap write (sym (picked.1)) ∙ (bytes_eq-Decides (write (digits_value 10 text)) text).0 (parts.1),
      rw (← picked.1) (ltb-true (digits_value 10 text) limit (parts.0)),
    )

pub number_missing : (write : ℕ → List ℕ) (limit : ℕ) (text : List ℕ) → ((n : ℕ) → n < limit → write n ≡ text → ⊥) →
    number_written write limit text ≡ None
unfolding number_written
number_missing write limit text without =
    taken_if (nat_lt (digits_value 10 text) limit && bytes_eq (write (digits_value 10 text)) text) (digits_value 10 text) (λ e.
    let parts = both_true (nat_lt (digits_value 10 text) limit) (bytes_eq (write (digits_value 10 text)) text) e in
    without (digits_value 10 text) (ltb-true (digits_value 10 text) limit (parts.0)) ((bytes_eq-Decides (write (digits_value 10 text)) text).0 (parts.1)))

-- a number of which the digits give another value is not written so
pub number_refused : (write : ℕ → List ℕ) (limit : ℕ) (text : List ℕ) (value : Option ℕ) → IsWriting write limit → limit ≤ 2 ^ 64 →
    (IsNumeral 10 text → digits_value 10 text < 2 ^ 64 → value ≡ Some (digits_value 10 text)) →
    ((n : ℕ) → value ≡ Some n → n < limit → write n ≡ text → ⊥) → number_written write limit text ≡ None
number_refused write limit text value writing fits gives apart = number_missing write limit text (λ n below same.
    let numeral : IsNumeral 10 text = rw (← same) (writing.numeral n below) in
    let own : digits_value 10 text ≡ n = rw (← same) (writing.value n below) in
    let read : value ≡ Some n = gives numeral (rw own (omega arith)) ∙ ap (λ (n : ℕ). Some n) own in
    apart n read below same)

-- the bytes of a name are text
word_byte_ascii : (b : ℕ) → is_name_byte b ≡ true → b < 128
word_byte_ascii b named = grind (arith, nat_tests)

each_ascii : (bytes : List ℕ) → list_all is_name_byte bytes ≡ true → All (λ b. b < 128) bytes
each_ascii [] named = All-nil (λ b. b < 128)
each_ascii (b ∷ bytes) named =
    let parts = both_true (is_name_byte b) (list_all is_name_byte bytes) named in
    All-cons (λ b. b < 128) b bytes (word_byte_ascii b (parts.0)) (each_ascii bytes (parts.1))

pub name_is_text : (bytes : List ℕ) → IsName bytes → IsUtf8 bytes
name_is_text bytes name = IsUtf8-from_ascii bytes (IsAscii-from_all bytes (each_ascii bytes name.each))

-- what a test of two texts tells of what was written
pub told_same : (written text word : List ℕ) (same : Bool) → written ≡ text → same ≡ bytes_eq written word → same ≡ true → text ≡ word
told_same written text word same e told passes = sym e ∙ (bytes_eq-Decides written word).0 (sym told ∙ passes)

pub told_apart : (written text word : List ℕ) (same : Bool) → written ≡ text → same ≡ bytes_eq written word → same ≡ false → text ≡ word → ⊥
told_apart written text word same e told fails equal =
    let passes : bytes_eq written word ≡ true = (bytes_eq-Decides written word).1 (e ∙ equal) in cc

-- a one in front of the places makes a number of one digit more
pub behind_one : (count n : ℕ) → n < 10 ^ count → 10 ^ count + n < 2 ^ 64 → decimal (10 ^ count + n) ≡ 49 ∷ places count n
unfolding places
behind_one zero n below fits = let none : n ≡ 0 = omega (arith, below) in rw none (decimal_digit 1 (lit< tt))
behind_one (suc count) n below fits =
    let power : 10 ^ suc count ≡ 10 ^ count * 10 = pow-suc 10 count in
    let room : n < 10 ^ count * 10 = rw (← power) below in
    let fewer : n / 10 < 10 ^ count = (div-lt_iff_lt-mul {k = 10} {x = n} {y = 10 ^ count} (lit< tt)).1 room in
    let front : (10 ^ suc count + n) / 10 ≡ 10 ^ count + n / 10 = rw power (omega arith) in
    let last : (10 ^ suc count + n) % 10 ≡ n % 10 = rw power (omega arith) in
    let some : 10 ≤ 10 ^ suc count + n = omega (arith, power, fewer) in
    let shorter : 10 ^ count + n / 10 < 2 ^ 64 = omega (arith, power, fits) in
    decimal_step (10 ^ suc count + n) some fits ∙ rw (front, last, behind_one count (n / 10) fewer shorter) refl

pub ten_behind_one : (part : ℕ) → part < 10 ^ 10 → decimal (10 ^ 10 + part) ≡ 49 ∷ places 10 part
ten_behind_one part below = behind_one 10 part below (omega (arith, below))

pub behind_first : (digits rest : List ℕ) → digits ≡ 49 ∷ rest → drop 1 digits ≡ rest
behind_first digits rest e = rw e refl

pub length-behind_first : (digits rest : List ℕ) → digits ≡ 49 ∷ rest → 1 ≤ length digits
length-behind_first digits rest e = rw e (omega arith)
