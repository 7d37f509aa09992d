use Rattle.std.proofs.Common.{◌≡◌, ℕ, suc, ◌+◌, ◌/◌, ◌%◌, ◌<◌, ◌≤◌, ◌^◌, List, [], ◌∷◌, ◌++◌, codes, decimal, refl, ap, ◌∙◌, arith, lit<, lit≤}
use Rattle.std.proofs.lemmas.Fmt.{decimal_digit, decimal_step}
use Rattle.mk_text.specs.Numbers.{places}
use Rattle.mk_make.specs.Sample.{edit_line, question_of, value_at}
use Rattle.mk_make.proofs.examples.five_edits.Goals as goal

-- a digit more
more : (n count : ℕ) → 10 ≤ n → n < 2 ^ 64 → decimal (n / 10) ≡ places count (n / 10)
    → decimal n ≡ places (suc count) n
unfolding places
more n count least most e =
    decimal_step n least most ∙ ap (λ (t : List ℕ). t ++ (48 + n % 10) ∷ []) e

last_digit : (n : ℕ) → n < 10 → decimal n ≡ places 1 n
unfolding places
last_digit n small = decimal_digit n small ∙ ap (λ (d : ℕ). (48 + d) ∷ []) (omega (arith, small))

-- a price has six digits
price : (n : ℕ) → 100000 ≤ n → n < 1000000 → decimal n ≡ places 6 n
price n least most =
    more n 5 (omega arith) (omega arith) (more (n / 10) 4 (omega arith) (omega arith)
    (more (n / 10 / 10) 3 (omega arith) (omega arith) (more (n / 10 / 10 / 10) 2 (omega arith) (omega arith)
    (more (n / 10 / 10 / 10 / 10) 1 (omega arith) (omega arith)
    (last_digit (n / 10 / 10 / 10 / 10 / 10) (omega arith))))))

one : decimal 1 ≡ codes "1"
one = decimal_digit 1 (lit< tt)

two : decimal 2 ≡ codes "2"
two = decimal_digit 2 (lit< tt)

pub returns : goal.returns
unfolding edit_line question_of value_at places
returns c = record {
  five = refl;
  first = rw (one, two, price 237123 (lit≤ tt) (lit< tt));
  second = rw (one, two, price 274246 (lit≤ tt) (lit< tt));
  third = rw (decimal_digit 3 (lit< tt), one, two, price 311369 (lit≤ tt) (lit< tt));
  fourth = rw (decimal_digit 4 (lit< tt), one, price 348492 (lit≤ tt) (lit< tt));
  fifth = rw (decimal_digit 5 (lit< tt), one, two, price 385615 (lit≤ tt) (lit< tt));
}
