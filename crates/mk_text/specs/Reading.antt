-- Reading from the front of some bytes: what is found there, and the bytes that are left.
use Rattle.std.specs.Prelude.{◌≡◌, ℕ, zero, suc, ◌+◌, ◌*◌, ◌^◌, List, [], ◌∷◌, ◌++◌, Bool, false, ◌&&◌, ◌||◌, Option, Some, None, option_and_then, if◌then◌else◌, nat_lt, nat_le, length, is_some, codes, decimal}
use Rattle.std.specs.Str.{bytes_eq}
use Rattle.std.specs.Str.Parse.{digits_value}
use Rattle.mk_names.specs.Name.{is_name}
use Rattle.mk_net.specs.declared.words.PairText.{PairText}
use Rattle.mk_net.specs.declared.words.QuestionText.{QuestionText}
use Rattle.mk_text.specs.Numbers.{places, units}
use Rattle.mk_text.specs.Words.{word, behind_word, after}

abbrev pub Read : Type 0 → Type 0
Read X = List ℕ → Option (X × List ℕ)

-- a reader found this, and left these bytes
abbrev pub Finds : {X : Type 0} → Option X → List ℕ → Option (X × List ℕ) → Type 0
Finds None left found = found ≡ None
Finds (Some x) left found = found ≡ Some (x, left)

-- one thing and then another
abbrev pub both : {X Y : Type 0} → Read X → Read Y → Read (X × Y)
both first second bytes =
    option_and_then (λ x. option_and_then (λ y. Some ((x.0, y.0), y.1)) (second (x.1))) (first bytes)

-- a thing behind a text
abbrev pub behind : {X : Type 0} → List ℕ → Read X → Read X
behind text read bytes = option_and_then read (after text bytes)

-- a thing made of what is read
abbrev pub made : {X Y : Type 0} → (X → Y) → Read X → Read Y
made make read bytes = option_and_then (λ x. Some (make (x.0), x.1)) (read bytes)

-- a thing that passes a test
abbrev pub passed : {X : Type 0} → (X → Bool) → Read X → Read X
passed test read bytes = option_and_then (λ x. if test (x.0) then Some x else None) (read bytes)

-- a thing behind a text, or another thing where the text does not stand there
abbrev pub at_text : {X : Type 0} → List ℕ → Read X → Read X → List ℕ → Option (List ℕ) → Option (X × List ℕ)
at_text text read other bytes None = other bytes
at_text text read other bytes (Some left) = read left

abbrev pub either : {X : Type 0} → List ℕ → Read X → Read X → Read X
either text read other bytes = at_text text read other bytes (after text bytes)

-- nothing is read
abbrev pub given : {X : Type 0} → X → Read X
given x bytes = Some (x, bytes)

-- a thing behind a text, or none where the text does not stand
abbrev pub perhaps : {X : Type 0} → List ℕ → Read X → Read (Option X)
perhaps text read = either text (made (λ x. Some x) read) (given None)

abbrev pub nothing : {X : Type 0} → Read X
nothing bytes = None

-- the thing behind the first of these texts that stands there, or else another
abbrev pub choose : {X : Type 0} → List (List ℕ × Read X) → Read X → Read X
choose [] other bytes = other bytes
choose (form ∷ forms) other bytes = either (form.0) (form.1) (choose forms other) bytes

-- a test that stops no list
abbrev pub never : List ℕ → Bool
never bytes = false

-- at most so many items more, each behind a separator, up to where a list stops
unfoldable pub items : {X : Type 0} → (List ℕ → Bool) → List ℕ → Read X → ℕ → List X → Read (List X)
items stops separator read zero found bytes = Some (found, bytes)
items stops separator read (suc count) found bytes =
    if stops bytes then Some (found, bytes)
    else either separator (λ left. option_and_then (λ x. items stops separator read count (found ++ (x.0) ∷ []) (x.1)) (read left)) (given found) bytes

unfoldable pub read_name : Read (List ℕ)
read_name bytes = if is_name (word bytes) then Some (word bytes, behind_word bytes) else None

-- the number below a limit that is written like this
unfoldable pub number_written : (ℕ → List ℕ) → ℕ → List ℕ → Option ℕ
number_written write limit text =
    if nat_lt (digits_value 10 text) limit && bytes_eq (write (digits_value 10 text)) text then Some (digits_value 10 text) else None

abbrev pub read_written : (ℕ → List ℕ) → ℕ → Read ℕ
read_written write limit bytes = option_and_then (λ n. Some (n, behind_word bytes)) (number_written write limit (word bytes))

unfoldable pub read_number : ℕ → Read ℕ
read_number limit = read_written decimal limit

unfoldable pub read_pair : Read PairText
read_pair = made (λ pair. record { variable = pair.0; value = pair.1 }) (both read_name (behind (codes "=") read_name))

unfoldable pub more_pairs : List PairText → Read (List PairText)
more_pairs = items never (codes ", ") read_pair 7

unfoldable pub read_condition : Read (List PairText)
read_condition = either (codes " | ") (λ left. option_and_then (λ pair. more_pairs ((pair.0) ∷ []) (pair.1)) (read_pair left)) (given [])

unfoldable pub read_question : Read QuestionText
read_question = made (λ question. record { target = question.0; condition = record { items = question.1 } }) (both read_pair read_condition)

unfoldable pub read_price : Read ℕ
read_price = passed (λ price. nat_le price units)
    (made (λ parts. parts.0 * units + parts.1) (both (read_number 2) (behind (codes ".") (read_written (places 10) units))))

-- two numbers below a limit with two points between them
unfoldable pub read_range : ℕ → Read (ℕ × ℕ)
read_range limit = both (read_number limit) (behind (codes "..") (read_number limit))

-- two numbers from 1 to 999,999, in order
unfoldable pub read_two_limits : Read (ℕ × ℕ)
read_two_limits = passed (λ limits. nat_le 1 (limits.0) && nat_le (limits.0) (limits.1)) (read_range 1000000)

unfoldable pub read_limits : Read (Option (ℕ × ℕ))
read_limits = either (codes "none") (given None)
    (made (λ limits. Some limits) read_two_limits)

-- two such numbers, or 0 and 0
unfoldable pub read_interval : Read (ℕ × ℕ)
read_interval = passed (λ interval. nat_le (interval.0) (interval.1) && (nat_le 1 (interval.0) || nat_le (interval.1) 0)) (read_range 1000000)

-- a number of at most nine digits
unfoldable pub read_short : Read ℕ
read_short = read_number (10 ^ 9)

-- units of a ratio
unfoldable pub read_units : Read ℕ
read_units = passed (λ n. nat_le 1 n) (read_number (2 ^ 63))

-- a revision stands next
abbrev pub before_revision : List ℕ → Bool
before_revision bytes = is_some (after (codes " at ") bytes)

-- at most so many things more, each behind a space, up to a revision
unfoldable pub more_spaced : {X : Type 0} → Read X → List X → Read (List X)
more_spaced read found = items before_revision (codes " ") read 15 found

-- 2 to 16 things with a space between them
unfoldable pub read_several : {X : Type 0} → Read X → Read (List X)
read_several read = passed (λ xs. nat_le 2 (length xs)) (λ bytes. option_and_then (λ first. more_spaced read ((first.0) ∷ []) (first.1)) (read bytes))

unfoldable pub read_intervals : Read (Option (List (ℕ × ℕ)))
read_intervals = either (codes "none") (given None) (made (λ intervals. Some intervals) (read_several read_interval))

-- two prices with two points between them
unfoldable pub read_two_prices : Read (ℕ × ℕ)
read_two_prices = both read_price (behind (codes "..") read_price)

-- two numbers of a reply, or none
unfoldable pub read_ends : Read (Option (ℕ × ℕ))
read_ends = either (codes "none") (given None) (made (λ ends. Some ends) (read_range (2 ^ 63)))
