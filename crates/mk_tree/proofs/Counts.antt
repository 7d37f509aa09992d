-- How many numbers of a range pass a test.
use Rattle.std.specs.Prelude.{◌≡◌, ℕ, zero, suc, ◌+◌, ◌<◌, ◌≤◌, Bool, true, false, cond, ◌⊎◌, count_by}
use Rattle.std.specs.List.{range_with_len}
use Rattle.std.proofs.Common.{refl, sym, ap, ◌∙◌, arith, inl, inr}
use Rattle.std.proofs.lemmas.List.Sums.{sum_by-cons}
use Rattle.std.proofs.lemmas.Bool.{cases_eq, cases_Bool}

-- how many of the n numbers from a on pass
abbrev pub passing : (ℕ → Bool) → ℕ → ℕ → ℕ
passing p a n = count_by p (range_with_len a n)

apart : (p : ℕ → Bool) (a n : ℕ) → passing p a (suc n) ≡ cond (p a) 1 0 + passing p (a + 1) n
apart p a n = sum_by-cons (λ (x : ℕ). cond (p x) 1 0) a (range_with_len (a + 1) n)

one_at : (p : ℕ → Bool) (a n : ℕ) → p a ≡ true → passing p a (suc n) ≡ 1 + passing p (a + 1) n
one_at p a n e = apart p a n ∙ rw e refl

none_at : (p : ℕ → Bool) (a n : ℕ) → p a ≡ false → passing p a (suc n) ≡ passing p (a + 1) n
none_at p a n e = apart p a n ∙ rw e (omega arith)

-- a number that passes is counted
pub counted : (p : ℕ → Bool) (a n k : ℕ) → a ≤ k → k < a + n → p k ≡ true → 1 ≤ passing p a n
counted p a zero k low high e = absurd (omega (arith, low, high))
counted p a (suc n) k low high e = at (cases_eq k a) (λ later. counted p (a + 1) n k later (omega (arith, high)) e)
  where
    at : ((k ≡ a) ⊎ (k ≡ a → ⊥)) → (a + 1 ≤ k → 1 ≤ passing p (a + 1) n) → 1 ≤ passing p a (suc n)
    at (inl here) ih = omega (arith, one_at p a n (ap p (sym here) ∙ e))
    at (inr other) ih = omega (arith, apart p a n, ih (omega (arith, low, other)))

-- where none passes, none is counted
pub none_counted : (p : ℕ → Bool) (a n : ℕ) → ((k : ℕ) → a ≤ k → k < a + n → p k ≡ true → ⊥) → passing p a n ≡ 0
none_counted p a zero none = refl
none_counted p a (suc n) none = at (cases_Bool (p a)) (none_counted p (a + 1) n (λ k low high e. none k (omega (arith, low)) (omega (arith, high)) e))
  where
    at : ((p a ≡ true) ⊎ (p a ≡ false)) → passing p (a + 1) n ≡ 0 → passing p a (suc n) ≡ 0
    at (inl e) ih = absurd (none a (omega arith) (omega arith) e)
    at (inr e) ih = none_at p a n e ∙ ih

-- where at most one is counted, two that pass are the same
pub same_counted : (p : ℕ → Bool) (a n : ℕ) → passing p a n ≤ 1
    → (j k : ℕ) → a ≤ j → j < a + n → a ≤ k → k < a + n → p j ≡ true → p k ≡ true → j ≡ k
same_counted p a zero few j k low high low' high' e e' = absurd (omega (arith, low, high))
same_counted p a (suc n) few j k low high low' high' e e' =
    at (cases_eq j a) (cases_eq k a) (λ less p' q'. same_counted p (a + 1) n less j k p' (omega (arith, high)) q' (omega (arith, high')) e e')
  where
    first : p a ≡ true → (i : ℕ) → a + 1 ≤ i → i < a + suc n → p i ≡ true → ⊥
    first h i later within e =
        let more = counted p (a + 1) n i later (omega (arith, within)) e in
        omega (arith, few, more, one_at p a n h)

    at : ((j ≡ a) ⊎ (j ≡ a → ⊥)) → ((k ≡ a) ⊎ (k ≡ a → ⊥)) → (passing p (a + 1) n ≤ 1 → a + 1 ≤ j → a + 1 ≤ k → j ≡ k) → j ≡ k
    at (inl here) (inl there) ih = here ∙ sym there
    at (inl here) (inr other) ih = absurd (first (ap p (sym here) ∙ e) k (omega (arith, low', other)) high' e')
    at (inr other) (inl there) ih = absurd (first (ap p (sym there) ∙ e') j (omega (arith, low, other)) high e)
    at (inr other) (inr another) ih = ih (omega (arith, few, apart p a n)) (omega (arith, low, other)) (omega (arith, low', another))

-- where all that pass are the same, at most one is counted
pub one_counted : (p : ℕ → Bool) (a n : ℕ)
    → ((j k : ℕ) → a ≤ j → j < a + n → a ≤ k → k < a + n → p j ≡ true → p k ≡ true → j ≡ k) → passing p a n ≤ 1
one_counted p a zero same = omega arith
one_counted p a (suc n) same =
    at (cases_Bool (p a)) (one_counted p (a + 1) n (λ j k l h l' h' e e'. same j k (omega (arith, l)) (omega (arith, h)) (omega (arith, l')) (omega (arith, h')) e e'))
  where
    alone : p a ≡ true → passing p (a + 1) n ≡ 0
    alone e = none_counted p (a + 1) n (λ k low high e'.
        let together : a ≡ k = same a k (omega arith) (omega arith) (omega (arith, low)) (omega (arith, high)) e e' in
        omega (arith, low, together))

    at : ((p a ≡ true) ⊎ (p a ≡ false)) → passing p (a + 1) n ≤ 1 → passing p a (suc n) ≤ 1
    at (inl e) ih = omega (arith, one_at p a n e, alone e)
    at (inr e) ih = omega (arith, none_at p a n e, ih)

-- one number more
pub one_more : (p : ℕ → Bool) (a n k : ℕ) → a + n ≡ k → passing p a (n + 1) ≡ passing p a n + cond (p k) 1 0
one_more p a zero k e = let same : a ≡ k = omega (arith, e) in rw same refl
one_more p a (suc n) k e =
    let ih = one_more p (a + 1) n k (omega (arith, e)) in
    let longer : suc n + 1 ≡ suc (n + 1) = omega arith in
    rw longer (omega (arith, apart p a (n + 1), apart p a n, ih))
