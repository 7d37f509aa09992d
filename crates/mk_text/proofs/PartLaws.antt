-- What is read of each part of a text.
use Rattle.std.specs.Prelude.{◌≡◌, ℕ, ◌+◌, ◌*◌, ◌/◌, ◌%◌, ◌^◌, ◌≤◌, ◌<◌, List, [], ◌∷◌, ◌++◌, length, All, Bool, true, false, ◌&&◌, ◌||◌, Option, Some, None, option_and_then, codes, decimal, nat_le, ◌==◌}
use Rattle.std.specs.List.{list_all}
use Rattle.std.specs.Str.Parse.{IsNumeral}
use Rattle.std.proofs.lemmas.Fmt.{decimal_is_IsNumeral}
use Rattle.std.proofs.Common.{refl, sym, ap, ◌∙◌, arith, append_assoc, lit≤, lit<, inl, inr}
use Rattle.std.proofs.lemmas.Option.{same_Some, option_and_then_some}
use Rattle.std.proofs.lemmas.List.Elements.{All-nil, All-cons, All-head, All-tail}
use Rattle.std.proofs.lemmas.Bool.{leb-true, le-leb}
use Rattle.std.proofs.lemmas.Bool.Decides.{nat_tests}
use Rattle.std.proofs.lemmas.Str.Parse.{digit_from_value}
use Rattle.mk_names.specs.Name.{IsName, is_name, is_name_byte, max_name_bytes, begins_with_letter}
use Rattle.mk_net.specs.declared.words.PairText.{PairText}
use Rattle.mk_net.specs.declared.words.QuestionText.{QuestionText}
use Rattle.mk_text.specs.Joined.{items_text, spaced, AreSeveral}
use Rattle.mk_text.specs.Numbers.{places, price_text, IsPrice, units, limits_text, AreLimits, IsWithinLimits, range_text, IsInterval, interval_text, AreIntervals, intervals_text, IsShort}
use Rattle.mk_text.specs.Texts.{IsPairText, pair_text, IsCondition, condition_text, IsQuestionText, question_text}
use Rattle.mk_text.specs.Words.{word, behind_word, EndsWord, after}
use Rattle.mk_text.specs.Reading.{Read, made, given, never, items, read_name, read_written, read_number, read_pair, more_pairs, read_condition, read_question, read_price, read_range, read_two_limits, read_interval, read_limits, read_short, read_units, before_revision, more_spaced, read_several, read_intervals, number_written}
use Rattle.mk_text.proofs.WordLemmas.{word_splits, word_of, behind_word_of, both_true}
use Rattle.mk_text.proofs.NumberLemmas.{IsWriting, decimal_writing, places_writing, digits_in_word, number_found, number_is}
use Rattle.mk_text.proofs.ReadingLaws.{Took, took_same, Reads, Added, EndsItems, BothFit, both_text, behind_text, items_takes, items_again, fronted, reads_same, IsMade, both_reads, behind_reads, made_reads, passed_reads, passing, either_cases, either_here, either_else}

name_from_test : (bytes : List ℕ) → is_name bytes ≡ true → IsName bytes
name_from_test bytes passes =
    let outer = both_true (nat_le (length bytes) max_name_bytes) (begins_with_letter bytes && list_all is_name_byte bytes) passes in
    let inner = both_true (begins_with_letter bytes) (list_all is_name_byte bytes) (outer.1) in
    record { short = leb-true (length bytes) max_name_bytes (outer.0); first = inner.0; each = inner.1 }

test_from_name : (bytes : List ℕ) → IsName bytes → is_name bytes ≡ true
test_from_name bytes name = rw (le-leb (length bytes) max_name_bytes name.short, name.first, name.each) refl

name_took : (bytes x rest : List ℕ) → read_name bytes ≡ Some (x, rest) → Took (λ (name : List ℕ). name) IsName bytes x rest
unfolding read_name
name_took bytes x rest e =
    let picked = passing (is_name (word bytes)) (word bytes, behind_word bytes) (x, rest) e in
    took_same (λ (name : List ℕ). name) IsName bytes (word bytes, behind_word bytes) (x, rest) (picked.1)
    (record { begins = sym (word_splits bytes); fits = name_from_test (word bytes) (picked.0) })

pub name_reads : Reads read_name (λ (name : List ℕ). name) IsName EndsWord
unfolding read_name
name_reads = record {
  takes = name_took;
  again = λ x rest fits ends. rw (word_of x rest fits.each ends, behind_word_of x rest fits.each ends, test_from_name x fits) refl;
}

pub written_reads : (write : ℕ → List ℕ) (limit : ℕ) → IsWriting write limit → Reads (read_written write limit) write (λ n. n < limit) EndsWord
written_reads write limit writing = record {
  takes = λ bytes n rest e. option_and_then_some _ (number_written write limit (word bytes)) (n, rest) e (λ m was e1.
      let told = number_is write limit m (word bytes) was in
      took_same write (λ n. n < limit) bytes (m, behind_word bytes) (n, rest) (same_Some (m, behind_word bytes) (n, rest) e1)
      (record { begins = sym (word_splits bytes) ∙ ap (λ (front : List ℕ). front ++ behind_word bytes) (sym (told.0)); fits = told.1 }));
  again = λ n rest below ends.
      let digits = digits_in_word (write n) ((writing.numeral n below).1) in
      rw (word_of (write n) rest digits ends, behind_word_of (write n) rest digits ends, number_found write limit n (write n) writing below refl) refl;
}

pub number_reads : (limit : ℕ) → limit ≤ 2 ^ 64 → Reads (read_number limit) decimal (λ n. n < limit) EndsWord
unfolding read_number
number_reads limit fits = written_reads decimal limit (decimal_writing limit fits)

pub pair_reads : Reads read_pair pair_text IsPairText EndsWord
unfolding read_pair
pair_reads = made_reads {split = λ (pair : PairText). (pair.variable, pair.value)}
    (both_reads name_reads (behind_reads (codes "=") name_reads) (λ value rest fits ends. refl)) (record {
      spelled = λ pair fits. refl;
      fits = λ pair fits. record { variable = fits.0; value = fits.1 };
      parts_fit = λ pair fits. (fits.variable, fits.value);
      whole = λ pair fits. refl;
    })

-- where a condition ends: no word goes on, and neither do pairs
pub record EndsQuestion (rest : List ℕ) : Type 0 where
  pub word : EndsWord rest
  pub comma : after (codes ", ") rest ≡ None
  pub bar : after (codes " | ") rest ≡ None

-- a condition with its first pair
condition_took : (bytes left middle : List ℕ) (pair : PairText) (pairs : List PairText) (rest : List ℕ) → bytes ≡ codes " | " ++ left →
    Took pair_text IsPairText left pair middle → Added (codes ", ") pair_text IsPairText 7 (pair ∷ []) middle pairs rest →
    Took condition_text IsCondition bytes pairs rest
condition_took bytes left middle pair pairs rest begins took added =
    took_same condition_text IsCondition bytes (pair ∷ added.more, rest) (pairs, rest) (ap (λ (all : List PairText). (all, rest)) (sym (added.joined))) (record {
      begins = begins ∙ ap (λ (left : List ℕ). codes " | " ++ left) (took.begins ∙ ap (λ (middle : List ℕ). pair_text pair ++ middle) (added.begins))
          ∙ fronted (codes " | ") (pair_text pair) (items_text (codes ", ") pair_text (added.more)) rest;
      fits = record { few = omega (arith, added.few); each = All-cons IsPairText pair (added.more) (took.fits) (added.fits) };
    })

-- no word goes on before further pairs
goes_on : (pairs : List PairText) (rest : List ℕ) → EndsWord rest → EndsWord (items_text (codes ", ") pair_text pairs ++ rest)
goes_on [] rest ends = ends
goes_on (pair ∷ pairs) rest ends = refl

condition_takes : (bytes : List ℕ) (pairs : List PairText) (rest : List ℕ) → read_condition bytes ≡ Some (pairs, rest) →
    Took condition_text IsCondition bytes pairs rest
unfolding read_condition more_pairs
condition_takes bytes pairs rest e = either_cases (codes " | ") _ (given []) bytes (Some (pairs, rest)) _ e
    (λ left begins e1. option_and_then_some _ (read_pair left) (pairs, rest) e1 (λ pair was e2.
    condition_took bytes left (pair.1) (pair.0) pairs rest begins (pair_reads.takes left (pair.0) (pair.1) was)
    (items_takes pair_reads never (codes ", ") 7 ((pair.0) ∷ []) (pair.1) pairs rest e2)))
    (λ e1. took_same condition_text IsCondition bytes ([], bytes) (pairs, rest) (same_Some ([], bytes) (pairs, rest) e1)
    (record { begins = refl; fits = record { few = omega arith; each = All-nil IsPairText } }))

condition_again : (pairs : List PairText) (rest : List ℕ) → IsCondition pairs → EndsQuestion rest →
    read_condition (condition_text pairs ++ rest) ≡ Some (pairs, rest)
unfolding read_condition more_pairs
condition_again [] rest fits ends = either_else (codes " | ") _ (given []) rest (ends.bar)
condition_again (pair ∷ pairs) rest fits ends =
    let others = items_text (codes ", ") pair_text pairs in
    let few : length pairs ≤ 7 = omega (arith, fits.few) in
    let first : IsPairText pair = All-head IsPairText pair pairs (fits.each) in
    let follows : EndsWord (others ++ rest) = goes_on pairs rest (ends.word) in
    let more = items_again pair_reads never (codes ", ") (λ rest. refl) (λ pair rest fits. refl) 7 (pair ∷ []) pairs rest few
    (All-tail IsPairText pair pairs (fits.each)) (ends.word) (record { stopped = inr (ends.comma) }) in
    rw (
      ← fronted (codes " | ") (pair_text pair) others rest,
      either_here (codes " | ") (λ left. option_and_then (λ pair. items never (codes ", ") read_pair 7 ((pair.0) ∷ []) (pair.1)) (read_pair left)) (given []) (pair_text pair ++ (others ++ rest)),
      pair_reads.again pair (others ++ rest) first follows,
    ) more

pub condition_reads : Reads read_condition condition_text IsCondition EndsQuestion
condition_reads = record { takes = condition_takes; again = condition_again }

-- no word goes on before a condition
before_condition : (pairs : List PairText) (rest : List ℕ) → EndsWord rest → EndsWord (condition_text pairs ++ rest)
before_condition [] rest ends = ends
before_condition (pair ∷ pairs) rest ends = refl

pub question_reads : Reads read_question question_text IsQuestionText EndsQuestion
unfolding read_question
question_reads = made_reads {split = λ (question : QuestionText). (question.target, question.condition.items)}
    (both_reads pair_reads condition_reads (λ pairs rest fits ends. before_condition pairs rest (ends.word))) (record {
      spelled = λ question fits. refl;
      fits = λ question fits. record { target = fits.0; condition = fits.1 };
      parts_fit = λ question fits. (fits.target, fits.condition);
      whole = λ question fits. refl;
    })

-- two numbers
abbrev pub AreBelow : ℕ → ℕ × ℕ → Type 0
AreBelow limit range = (range.0 < limit) × (range.1 < limit)

abbrev pub both_ends : ℕ × ℕ → List ℕ
both_ends range = range_text (range.0) (range.1)

pub range_reads : (limit : ℕ) → limit ≤ 2 ^ 64 → Reads (read_range limit) both_ends (AreBelow limit) EndsWord
unfolding read_range
range_reads limit fits = both_reads (number_reads limit fits) (behind_reads (codes "..") (number_reads limit fits)) (λ high rest below ends. refl)

-- prices
price_parts : (whole part : ℕ) → part < units → ((whole * units + part) / units ≡ whole) × ((whole * units + part) % units ≡ part)
price_parts whole part below = (omega (arith, below), omega (arith, below))

abbrev IsBelowTwo : ℕ → Type 0
IsBelowTwo price = price < 2 * units

price_made : IsMade (both_text decimal (behind_text (codes ".") (places 10))) (BothFit (λ whole. whole < 2) (λ part. part < units))
    (λ parts. parts.0 * units + parts.1) (λ price. (price / units, price % units)) price_text IsBelowTwo
price_made = record {
  spelled = λ parts fits. let own = price_parts (parts.0) (parts.1) (fits.1) in rw (own.0, own.1) refl;
  fits = λ parts fits. omega (arith, fits.0, fits.1);
  parts_fit = λ price below. (omega (arith, below), omega arith);
  whole = λ price below. omega arith;
}

pub price_reads : Reads read_price price_text IsPrice EndsWord
unfolding read_price
price_reads = reads_same (passed_reads (λ price. nat_le price units)
    (made_reads (both_reads (number_reads 2 (lit≤ tt)) (behind_reads (codes ".") (written_reads (places 10) units places_writing)) (λ part rest below ends. refl)) price_made))
    (λ price fits. leb-true price units (fits.1)) (λ price fits. (omega (arith, fits), le-leb price units fits))

-- limits
in_order : (low high : ℕ) → nat_le 1 low && nat_le low high ≡ true → low < 1000000 → high < 1000000 → IsWithinLimits low high
in_order low high passes below below' =
    let parts = both_true (nat_le 1 low) (nat_le low high) passes in
    record { positive = leb-true 1 low (parts.0); ordered = leb-true low high (parts.1); below = omega (arith, below') }

passes_in_order : (low high : ℕ) → IsWithinLimits low high → nat_le 1 low && nat_le low high ≡ true
passes_in_order low high within = rw (le-leb 1 low (within.positive), le-leb low high (within.ordered)) refl

abbrev SomeLimits : ℕ × ℕ → Type 0
SomeLimits limits = IsWithinLimits (limits.0) (limits.1)

two_limits_reads : Reads read_two_limits both_ends SomeLimits EndsWord
unfolding read_two_limits
two_limits_reads = reads_same (passed_reads (λ limits. nat_le 1 (limits.0) && nat_le (limits.0) (limits.1)) (range_reads 1000000 (lit≤ tt)))
    (λ limits fits. in_order (limits.0) (limits.1) (fits.1) (fits.0.0) (fits.0.1))
    (λ limits fits. ((omega (arith, fits.ordered, fits.below), omega (arith, fits.below)), passes_in_order (limits.0) (limits.1) fits))

-- no number is written with a letter first
digits_first : (b : ℕ) (text digits rest : List ℕ) → 57 < b → IsNumeral 10 digits → after (b ∷ text) (digits ++ rest) ≡ None
unfolding after
digits_first b text [] rest letter numeral = absurd (omega (arith, numeral.0))
digits_first b text (d ∷ digits) rest letter numeral =
    let inside = digit_from_value d (numeral.1.0) in
    let other : (b == d) ≡ false = grind (arith, nat_tests) in
    rw other refl

pub number_no_word : (b : ℕ) (text : List ℕ) (n : ℕ) (rest : List ℕ) → 57 < b → n < 2 ^ 64 → after (b ∷ text) (decimal n ++ rest) ≡ None
number_no_word b text n rest letter fits = digits_first b text (decimal n) rest letter ((decimal_is_IsNumeral n fits).0)

limits_takes : (bytes : List ℕ) (limits : Option (ℕ × ℕ)) (rest : List ℕ) → read_limits bytes ≡ Some (limits, rest) →
    Took limits_text AreLimits bytes limits rest
unfolding read_limits
limits_takes bytes limits rest e = either_cases (codes "none") (given None) (made (λ limits. Some limits) read_two_limits) bytes (Some (limits, rest)) _ e
    (λ left begins e1. took_same limits_text AreLimits bytes (None, left) (limits, rest) (same_Some (None, left) (limits, rest) e1)
    (record { begins = begins; fits = tt }))
    (λ e1. option_and_then_some _ _ (limits, rest) e1 (λ x was e2.
    let took = two_limits_reads.takes bytes (x.0) (x.1) was in
    took_same limits_text AreLimits bytes (Some (x.0), x.1) (limits, rest) (same_Some (Some (x.0), x.1) (limits, rest) e2)
    (record { begins = took.begins; fits = took.fits })))

limits_again : (limits : Option (ℕ × ℕ)) (rest : List ℕ) → AreLimits limits → EndsWord rest →
    read_limits (limits_text limits ++ rest) ≡ Some (limits, rest)
unfolding read_limits
limits_again None rest fits ends = either_here (codes "none") (given None) (made (λ limits. Some limits) read_two_limits) rest
limits_again (Some limits) rest fits ends =
    let low : limits.0 < 2 ^ 64 = omega (arith, fits.ordered, fits.below) in
    let missing : after (codes "none") (both_ends limits ++ rest) ≡ None =
    rw (append_assoc (decimal (limits.0)) (codes ".." ++ decimal (limits.1)) rest) (number_no_word 110 (codes "one") (limits.0) (codes ".." ++ decimal (limits.1) ++ rest) (lit< tt) low) in
    either_else (codes "none") (given None) (made (λ limits. Some limits) read_two_limits) (both_ends limits ++ rest) missing
    ∙ rw (two_limits_reads.again limits rest fits ends) refl

pub limits_reads : Reads read_limits limits_text AreLimits EndsWord
limits_reads = record { takes = limits_takes; again = limits_again }

-- intervals
abbrev is_interval : ℕ → ℕ → Bool
is_interval low high = nat_le low high && (nat_le 1 low || nat_le high 0)

interval_by : (low high : ℕ) (some none : Bool) → nat_le 1 low ≡ some → nat_le high 0 ≡ none → some || none ≡ true → low ≤ high → high < 1000000 →
    IsInterval (low, high)
interval_by low high true none e f passes ordered below = inr (record { positive = leb-true 1 low e; ordered = ordered; below = omega (arith, below) })
interval_by low high false true e f passes ordered below =
    let least : low ≡ 0 = omega (arith, ordered, leb-true high 0 f) in
    let greatest : high ≡ 0 = omega (arith, leb-true high 0 f) in
    inl (rw (least, greatest) refl)
interval_by low high false false e f passes ordered below = cc

interval_from : (low high : ℕ) → is_interval low high ≡ true → high < 1000000 → IsInterval (low, high)
interval_from low high passes below =
    let parts = both_true (nat_le low high) (nat_le 1 low || nat_le high 0) passes in
    interval_by low high (nat_le 1 low) (nat_le high 0) refl refl (parts.1) (leb-true low high (parts.0)) below

passes_interval : (interval : ℕ × ℕ) → IsInterval interval → AreBelow 1000000 interval × (is_interval (interval.0) (interval.1) ≡ true)
passes_interval interval (inl none) = rw none ((omega arith, omega arith), refl)
passes_interval interval (inr within) = (
  (omega (arith, within.ordered, within.below), omega (arith, within.below)),
  rw (le-leb (interval.0) (interval.1) (within.ordered), le-leb 1 (interval.0) (within.positive)) refl,
)

pub interval_reads : Reads read_interval both_ends IsInterval EndsWord
unfolding read_interval
interval_reads = reads_same (passed_reads (λ interval. nat_le (interval.0) (interval.1) && (nat_le 1 (interval.0) || nat_le (interval.1) 0)) (range_reads 1000000 (lit≤ tt)))
    (λ interval fits. interval_from (interval.0) (interval.1) (fits.1) (fits.0.1))
    passes_interval

-- the ends of an interval are below a million
pub interval_ends : (interval : ℕ × ℕ) → IsInterval interval → AreBelow 1000000 interval
interval_ends interval fits = (passes_interval interval fits).0

-- ---- several things

-- where a list of things ends: no word goes on, and what follows is a revision or no other thing
pub record EndsSeveral (rest : List ℕ) : Type 0 where
  pub word : EndsWord rest
  pub ends : EndsItems before_revision (codes " ") rest

abbrev AreSome : {X : Type 0} → (X → Type 0) → List X → Type 0
AreSome Fits xs = (1 ≤ length xs) × (length xs ≤ 16) × All Fits xs

several_took : {X : Type 0} (t : X → List ℕ) (F : X → Type 0) (bytes middle : List ℕ) (x : X) (xs : List X) (rest : List ℕ) →
    Took t F bytes x middle → Added (codes " ") t F 15 (x ∷ []) middle xs rest → Took (spaced t) (AreSome F) bytes xs rest
several_took {X} t F bytes middle x xs rest took added =
    took_same (spaced t) (AreSome F) bytes (x ∷ added.more, rest) (xs, rest) (ap (λ (all : List X). (all, rest)) (sym (added.joined))) (record {
      begins = took.begins ∙ ap (λ (left : List ℕ). t x ++ left) (added.begins) ∙ sym (append_assoc (t x) (items_text (codes " ") t (added.more)) rest);
      fits = (omega arith, omega (arith, added.few), All-cons F x (added.more) (took.fits) (added.fits));
    })

-- no word goes on before further things
spaced_on : {X : Type 0} (t : X → List ℕ) (xs : List X) (rest : List ℕ) → EndsWord rest → EndsWord (items_text (codes " ") t xs ++ rest)
spaced_on t [] rest ends = ends
spaced_on t (x ∷ xs) rest ends = refl

some_again : {X : Type 0} {read : Read X} {t : X → List ℕ} {F : X → Type 0} → Reads read t F EndsWord →
    ((x : X) (rest : List ℕ) → F x → before_revision (codes " " ++ (t x ++ rest)) ≡ false) →
    (xs : List X) (rest : List ℕ) → AreSome F xs → EndsSeveral rest →
    option_and_then (λ first. more_spaced read ((first.0) ∷ []) (first.1)) (read (spaced t xs ++ rest)) ≡ Some (xs, rest)
unfolding more_spaced
some_again a goes [] rest fits ends = absurd (omega (arith, fits.0))
some_again {X} {read} {t} {F} a goes (x ∷ xs) rest fits ends =
    let others = items_text (codes " ") t xs in
    let first : F x = All-head F x xs (fits.2) in
    let more = items_again a before_revision (codes " ") (λ rest. refl) goes 15 (x ∷ []) xs rest (omega (arith, fits.1)) (All-tail F x xs (fits.2)) (ends.word) (ends.ends) in
    rw (append_assoc (t x) others rest, a.again x (others ++ rest) first (spaced_on t xs rest (ends.word))) more

some_reads : {X : Type 0} {read : Read X} {t : X → List ℕ} {F : X → Type 0} → Reads read t F EndsWord →
    ((x : X) (rest : List ℕ) → F x → before_revision (codes " " ++ (t x ++ rest)) ≡ false) →
    Reads (λ bytes. option_and_then (λ first. more_spaced read ((first.0) ∷ []) (first.1)) (read bytes)) (spaced t) (AreSome F) EndsSeveral
unfolding more_spaced
some_reads {X} {read} {t} {F} a goes = record {
  takes = λ bytes xs rest e. option_and_then_some _ (read bytes) (xs, rest) e (λ x was e1.
      several_took t F bytes (x.1) (x.0) xs rest (a.takes bytes (x.0) (x.1) was)
      (items_takes a before_revision (codes " ") 15 ((x.0) ∷ []) (x.1) xs rest e1));
  again = some_again a goes;
}

pub several_reads : {X : Type 0} {read : Read X} {t : X → List ℕ} {F : X → Type 0} → Reads read t F EndsWord →
    ((x : X) (rest : List ℕ) → F x → before_revision (codes " " ++ (t x ++ rest)) ≡ false) →
    Reads (read_several read) (spaced t) (AreSeveral F) EndsSeveral
unfolding read_several
several_reads a goes = reads_same (passed_reads (λ xs. nat_le 2 (length xs)) (some_reads a goes))
    (λ xs fits. record { two = leb-true 2 (length xs) (fits.1); few = fits.0.1; each = fits.0.2 })
    (λ xs fits. ((omega (arith, fits.two), fits.few, fits.each), le-leb 2 (length xs) (fits.two)))

-- a number is no revision
pub number_goes_on : (n : ℕ) (rest : List ℕ) → n < 2 ^ 64 → before_revision (codes " " ++ (decimal n ++ rest)) ≡ false
unfolding after
number_goes_on n rest fits = rw (number_no_word 97 (codes "t ") n rest (lit< tt) fits) refl

pub short_reads : Reads read_short decimal IsShort EndsWord
unfolding read_short
short_reads = number_reads (10 ^ 9) (lit≤ tt)

pub record IsUnit (n : ℕ) : Type 0 where
  pub positive : 1 ≤ n
  pub below : n < 2 ^ 63

pub units_reads : Reads read_units decimal IsUnit EndsWord
unfolding read_units
units_reads = reads_same (passed_reads (λ n. nat_le 1 n) (number_reads (2 ^ 63) (lit≤ tt))) (λ n fits. record { positive = leb-true 1 n (fits.1); below = fits.0 })
    (λ n fits. (fits.below, le-leb 1 n (fits.positive)))

pub shorts_reads : Reads (read_several read_short) (spaced decimal) (AreSeveral IsShort) EndsSeveral
shorts_reads = several_reads short_reads (λ n rest fits. number_goes_on n rest (omega (arith, fits)))

pub all_units_reads : Reads (read_several read_units) (spaced decimal) (AreSeveral IsUnit) EndsSeveral
all_units_reads = several_reads units_reads (λ n rest fits. number_goes_on n rest (omega (arith, fits.below)))

interval_goes_on : (interval : ℕ × ℕ) (rest : List ℕ) → IsInterval interval → before_revision (codes " " ++ (interval_text interval ++ rest)) ≡ false
interval_goes_on interval rest fits =
    rw (append_assoc (decimal (interval.0)) (codes ".." ++ decimal (interval.1)) rest) (number_goes_on (interval.0) (codes ".." ++ decimal (interval.1) ++ rest) (omega (arith, (interval_ends interval fits).0)))

given_reads : Reads (read_several read_interval) (spaced interval_text) (AreSeveral IsInterval) EndsSeveral
given_reads = several_reads interval_reads interval_goes_on

intervals_takes : (bytes : List ℕ) (intervals : Option (List (ℕ × ℕ))) (rest : List ℕ) → read_intervals bytes ≡ Some (intervals, rest) →
    Took intervals_text AreIntervals bytes intervals rest
unfolding read_intervals
intervals_takes bytes intervals rest e = either_cases (codes "none") (given None) (made (λ intervals. Some intervals) (read_several read_interval)) bytes (Some (intervals, rest)) _ e
    (λ left begins e1. took_same intervals_text AreIntervals bytes (None, left) (intervals, rest) (same_Some (None, left) (intervals, rest) e1)
    (record { begins = begins; fits = tt }))
    (λ e1. option_and_then_some _ _ (intervals, rest) e1 (λ x was e2.
    let took = given_reads.takes bytes (x.0) (x.1) was in
    took_same intervals_text AreIntervals bytes (Some (x.0), x.1) (intervals, rest) (same_Some (Some (x.0), x.1) (intervals, rest) e2)
    (record { begins = took.begins; fits = took.fits })))

intervals_again : (intervals : Option (List (ℕ × ℕ))) (rest : List ℕ) → AreIntervals intervals → EndsSeveral rest →
    read_intervals (intervals_text intervals ++ rest) ≡ Some (intervals, rest)
unfolding read_intervals
intervals_again None rest fits ends = either_here (codes "none") (given None) (made (λ intervals. Some intervals) (read_several read_interval)) rest
intervals_again (Some []) rest fits ends = absurd (omega (arith, fits.two))
intervals_again (Some (first ∷ others)) rest fits ends =
    let ends_below = interval_ends first (All-head IsInterval first others (fits.each)) in
    let low : first.0 < 2 ^ 64 = omega (arith, ends_below.0) in
    let behind = codes ".." ++ decimal (first.1) in
    let more = items_text (codes " ") interval_text others in
    let missing : after (codes "none") (spaced interval_text (first ∷ others) ++ rest) ≡ None =
    rw (append_assoc (interval_text first) more rest, append_assoc (decimal (first.0)) behind (more ++ rest)) (number_no_word 110 (codes "one") (first.0) (behind ++ (more ++ rest)) (lit< tt) low) in
    either_else (codes "none") (given None) (made (λ intervals. Some intervals) (read_several read_interval)) (spaced interval_text (first ∷ others) ++ rest) missing
    ∙ rw (given_reads.again (first ∷ others) rest fits ends) refl

pub intervals_reads : Reads read_intervals intervals_text AreIntervals EndsSeveral
intervals_reads = record { takes = intervals_takes; again = intervals_again }
