use Rattle.std.proofs.Common.{◌≡◌, ℕ, ◌+◌, ◌-◌, ◌*◌, ◌%◌, ◌^◌, ◌<◌, ◌≤◌, arith}
use Rattle.std.specs.Int.Count.{count_leading_zeros}
use Rattle.mk_cell.specs.Cell.{IsForm, StandsAt}
use Rattle.mk_cell.proofs.Digits.{moved_up, moved_value}
use Rattle.mk_cell.proofs.Standing.{absent_stands, exact_stands}
use Rattle.mk_cell.proofs.cell.Cell.of_whole.Goals as goal

whole_stands : (n shift : ℕ) → 0 < n → n < 2 ^ 64 → shift ≤ 2 ^ 20 → StandsAt shift (n * 2 ^ count_leading_zeros 64 n % 2 ^ 64) (1342177280 - shift - count_leading_zeros 64 n) n 0
whole_stands n shift p h l =
    let m = moved_up n p h in
    let b : n * 2 ^ count_leading_zeros 64 n % 2 ^ 64 < 2 ^ 64 = omega arith in
    let f : 2 ^ 63 ≤ n * 2 ^ count_leading_zeros 64 n % 2 ^ 64 = rw m.0 m.1 in
    let g : IsForm (n * 2 ^ count_leading_zeros 64 n % 2 ^ 64) (1342177280 - shift - count_leading_zeros 64 n) =
    record { absent = λ z. absurd (omega arith); full = λ z. f; fits = b } in
    let e : 1342177280 - shift - count_leading_zeros 64 n + shift + count_leading_zeros 64 n ≡ 1342177280 = omega arith in
    exact_stands shift _ _ n g (rw m.0 (moved_value n (count_leading_zeros 64 n) (1342177280 - shift - count_leading_zeros 64 n) shift e)) h

pub returns-then-n-eq0 : goal.returns-then-n-eq0
returns-then-n-eq0 c = absent_stands c.args.shift c.args.n 0 c.if-n-eq0.true

pub returns : goal.returns
returns c = whole_stands c.args.n c.args.shift (omega arith) (omega arith) c.requires
