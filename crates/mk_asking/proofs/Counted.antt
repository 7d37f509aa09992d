-- Numbers that pass a test are counted one after another.
use Rattle.std.specs.Prelude.{◌≡◌, ℕ, ◌+◌, [], Bool, true, false}
use Rattle.std.specs.List.{count_by, range_with_len}
use Rattle.std.proofs.Common.{zero, suc, cond, ap, subst, arith}
use Rattle.std.proofs.lemmas.List.Sums.{sum_by-cons}

module _ (p : ℕ → Bool) where
  counted_ranges : (n a : ℕ) →
      count_by p (range_with_len a (suc n)) ≡ count_by p (range_with_len a n) + cond (p (a + n)) 1 0
  counted_ranges zero a =
      let one = sum_by-cons (λ (v : ℕ). cond (p v) 1 0) a [] in
      let here : a + 0 ≡ a = omega arith in
      rw here (omega (arith, one))
  counted_ranges (suc n) a =
      let one = sum_by-cons (λ (v : ℕ). cond (p v) 1 0) a (range_with_len (a + 1) (suc n)) in
      let few = sum_by-cons (λ (v : ℕ). cond (p v) 1 0) a (range_with_len (a + 1) n) in
      let later = counted_ranges n (a + 1) in
      let here : a + suc n ≡ a + 1 + n = omega arith in
      rw here (omega (arith, one, few, later))

  -- one number more that passes, or does not
  pub one_counted : (n count : ℕ) → count ≡ count_by p (range_with_len 0 n) → p n ≡ true →
      count + 1 ≡ count_by p (range_with_len 0 (n + 1))
  one_counted n count e is =
      let on : suc n ≡ n + 1 = omega arith in
      let here : 0 + n ≡ n = omega arith in
      let more = rw here at (counted_ranges n 0) in
      let one = ap {B = ℕ} (λ (b : Bool). cond b 1 0) is in
      subst (λ (k : ℕ). count + 1 ≡ count_by p (range_with_len 0 k)) on
      (omega (arith, more, one, e))

  pub none_counted : (n count : ℕ) → count ≡ count_by p (range_with_len 0 n) → p n ≡ false →
      count ≡ count_by p (range_with_len 0 (n + 1))
  none_counted n count e is =
      let on : suc n ≡ n + 1 = omega arith in
      let here : 0 + n ≡ n = omega arith in
      let more = rw here at (counted_ranges n 0) in
      let one = ap {B = ℕ} (λ (b : Bool). cond b 1 0) is in
      subst (λ (k : ℕ). count ≡ count_by p (range_with_len 0 k)) on (omega (arith, more, one, e))
