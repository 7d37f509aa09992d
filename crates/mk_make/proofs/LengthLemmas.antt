-- How long the lines of the commands are at most.
use Rattle.std.proofs.Common.{◌≡◌, refl, ℕ, zero, suc, ◌+◌, ◌-◌, ◌*◌, ◌%◌, ◌<◌, ◌≤◌, ◌==◌, List, length, codes, decimal, Bool, true, false, if◌then◌else◌, arith, length-append, lit<}
use Rattle.std.specs.List.{flat_map, range_with_len}
use Rattle.std.proofs.Math.Nat.{mod-lt}
use Rattle.std.proofs.lemmas.Fmt.{length-decimal-le}
use Rattle.mk_text.specs.Joined.{◌&◌}
use Rattle.mk_make.specs.Lines.{numbers_to}
use Rattle.mk_make.specs.Sample.{users, pair_of, value_at, edits_of, user_of, variable_of, price_of, join_line, deposit_line, question_of, edit_line, resolve_line, settle_line, sample_commands}
use Rattle.mk_make.specs.Bounds.{command_lines}

one_digit : (k : ℕ) → k ≤ 8 → length (decimal k) ≤ 1
one_digit k most = length-decimal-le 1 k (lit< tt) (omega arith) (omega arith)

three_digits : (i : ℕ) → i ≤ 256 → length (decimal i) ≤ 3
three_digits i most = length-decimal-le 3 i (lit< tt) (omega arith) (omega arith)

six_digits : (x : ℕ) → x ≤ 800000 → length (decimal x) ≤ 6
six_digits x most = length-decimal-le 6 x (lit< tt) (omega arith) (omega arith)

yes_or_no : (odd : Bool) → length (if odd then codes "yes" else codes "no") ≤ 3
yes_or_no true = omega arith
yes_or_no false = omega arith

value_length : (j : ℕ) → length (value_at j) ≤ 3
unfolding value_at
value_length j = yes_or_no (j % 2 == 1)

pair_length : (i : ℕ) (value : List ℕ) → i ≤ 256 → length value ≤ 3 → length (pair_of i value) ≤ 8
pair_length i value most short = simp length-append (omega (arith, three_digits i most, short))

asked_length : (first : Bool) (i j : ℕ) → i ≤ 256 →
    length (if first then pair_of i (codes "yes") else pair_of i (codes "yes") & codes " | " & pair_of (i - 1) (value_at j)) ≤ 19
asked_length true i j most = omega (arith, pair_length i (codes "yes") most (omega arith))
asked_length false i j most =
    let of_it = pair_length i (codes "yes") most (omega arith) in
    let before = pair_length (i - 1) (value_at j) (omega arith) (value_length j) in
    omega (arith, length-append (pair_of i (codes "yes")) (codes " | " & pair_of (i - 1) (value_at j)), of_it, before)

question_length : (i j : ℕ) → i ≤ 256 → length (question_of i j) ≤ 19
unfolding question_of
question_length i j most = asked_length (i == 1) i j most

join_length : (k : ℕ) → k ≤ 8 → length (join_line k) ≤ 38
unfolding join_line
join_length k most = simp length-append (omega (arith, one_digit k most))

deposit_length : (k : ℕ) → k ≤ 8 → length (deposit_line k) ≤ 38
unfolding deposit_line
deposit_length k most = simp length-append (omega (arith, one_digit k most))

edit_length : (n j : ℕ) → 1 ≤ n → n ≤ 256 → length (edit_line n j) ≤ 38
unfolding edit_line
edit_length n j some most =
    let variable : variable_of n j ≤ 256 = omega (arith, mod-lt (7 * j) some) in
    let user = one_digit (user_of j) (omega arith) in
    let price = six_digits (price_of j) (omega arith) in
    let question = question_length (variable_of n j) j variable in
    simp length-append (omega (arith, user, price, question))

resolve_length : (i : ℕ) → i ≤ 256 → length (resolve_line i) ≤ 38
unfolding resolve_line
resolve_length i most = simp length-append (omega (arith, three_digits i most, value_length i))

lines_length : (f : ℕ → List ℕ) (first count : ℕ) → ((i : ℕ) → i < first + count → length (f i) ≤ 38) → length (flat_map f (range_with_len first count)) ≤ 38 * count
lines_length f first zero each = omega arith
lines_length f first (suc count) each =
    let here = each first (omega arith) in
    let more = lines_length f (first + 1) count (λ i below. each i (omega (arith, below))) in
    omega (arith, length-append (f first) (flat_map f (range_with_len (first + 1) count)), here, more)

together : (a b c d e : List ℕ) → length (a & b & c & d & e) ≡ length a + (length b + (length c + (length d + length e)))
together a b c d e = simp length-append refl

total : (a b c d e all n : ℕ) → all ≡ a + (b + (c + (d + e))) → a ≤ 38 * users → b ≤ 38 * users → c ≤ 38 * edits_of n → d ≤ 38 * n → e ≤ 38
    → all ≤ 38 * command_lines n
total a b c d e all n is joined deposited edited resolved settled = omega (arith, is, joined, deposited, edited, resolved, settled)

pub commands_length : (n : ℕ) → 2 ≤ n → n ≤ 256 → length (sample_commands n) ≤ 38 * command_lines n
unfolding sample_commands
commands_length n least most =
    let joined = lines_length join_line 1 users (λ k below. join_length k (omega (arith, below))) in
    let deposited = lines_length deposit_line 1 users (λ k below. deposit_length k (omega (arith, below))) in
    let edited = lines_length (edit_line n) 1 (edits_of n) (λ j below. edit_length n j (omega arith) most) in
    let resolved = lines_length resolve_line 1 n (λ i below. resolve_length i (omega (arith, below))) in
    let settled : length settle_line ≤ 38 = omega arith in
    let all =
    together (flat_map join_line (numbers_to users)) (flat_map deposit_line (numbers_to users)) (flat_map (edit_line n) (numbers_to (edits_of n)))
    (flat_map resolve_line (numbers_to n)) settle_line
    in
    total (length (flat_map join_line (numbers_to users))) (length (flat_map deposit_line (numbers_to users))) (length (flat_map (edit_line n) (numbers_to (edits_of n))))
    (length (flat_map resolve_line (numbers_to n))) (length settle_line) (length (sample_commands n)) n all joined deposited edited resolved settled
