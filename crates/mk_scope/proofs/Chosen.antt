-- The numbers below a bound that pass a test: each is among them once.
use Rattle.std.proofs.Common.{◌≡◌, ℕ, zero, suc, ◌+◌, ◌<◌, ◌≤◌, Bool, true, false, cond, ◌⊎◌, inl, inr, List, [], ◌∷◌, filter, length, slice_index, All, refl, sym, ap, subst, ◌∙◌, arith}
use Rattle.std.specs.List.{range_with_len}
use Rattle.std.proofs.lemmas.Bool.{cases_eq, cases_Bool, both_ways}
use Rattle.std.proofs.lemmas.List.Elements.{All-nil, All-cons, All-weaker}
use Rattle.mk_states.specs.States.{numbers_below}
use Rattle.mk_sums.specs.Cells.{keep}
use Rattle.mk_scope.specs.Scopes.{Rising}
use Rattle.mk_scope.specs.Runs.{IsAmong}
use Rattle.mk_scope.proofs.Members.{keep_rising, keep_few, rising_at}

keep_is_filter : (p : ℕ → Bool) (xs : List ℕ) → keep p xs ≡ filter p xs
keep_is_filter p [] = refl
keep_is_filter p (x ∷ xs) = ap (λ ys. cond (p x) (x ∷ ys) ys) (keep_is_filter p xs)

among_range : (p : ℕ → Bool) (a n c : ℕ) → a ≤ c → c < a + n → p c ≡ true → IsAmong (filter p (range_with_len a n)) (length (filter p (range_with_len a n))) c
among_range p a zero c h l e = absurd (omega arith)
among_range p a (suc n) c h l e = at (cases_eq c a) (cases_Bool (p a)) (λ i. among_range p (a + 1) n c (omega (arith, i)) (omega arith) e)
  where
    rest : List ℕ
    rest = filter p (range_with_len (a + 1) n)

    at : ((c ≡ a) ⊎ (c ≡ a → ⊥)) → ((p a ≡ true) ⊎ (p a ≡ false)) → ((c ≡ a → ⊥) → IsAmong rest (length rest) c) → IsAmong (cond (p a) (a ∷ rest) rest) (length (cond (p a) (a ∷ rest) rest)) c
    at (inl i) (inl q) ih = subst (λ b. IsAmong (cond b (a ∷ rest) rest) (length (cond b (a ∷ rest) rest)) c) (sym q) (0, omega arith, sym i)
    at (inl i) (inr q) ih = absurd (both_ways (p a) q (ap p (sym i) ∙ e))
    at (inr i) (inl q) ih =
        let k = ih i in
        let l : k.0 + 1 < length (a ∷ rest) = omega (arith, k.1) in
        let s : k.0 + 1 ≡ suc k.0 = omega arith in
        subst (λ b. IsAmong (cond b (a ∷ rest) rest) (length (cond b (a ∷ rest) rest)) c) (sym q) (k.0 + 1, l, ap (slice_index (a ∷ rest)) s ∙ k.2)
    at (inr i) (inr q) ih =
        subst (λ b. IsAmong (cond b (a ∷ rest) rest) (length (cond b (a ∷ rest) rest)) c) (sym q) (ih i)

pub among_chosen : (p : ℕ → Bool) (n c : ℕ) → c < n → p c ≡ true → IsAmong (filter p (numbers_below n)) (length (filter p (numbers_below n))) c
among_chosen p n c l e = among_range p 0 n c (omega arith) (omega arith) e

passes_range : (p : ℕ → Bool) (a n : ℕ) → All (λ c. (p c ≡ true) × (c < a + n)) (filter p (range_with_len a n))
passes_range p a zero = All-nil (λ c. (p c ≡ true) × (c < a + 0))
passes_range p a (suc n) =
    at (cases_Bool (p a)) (All-weaker (λ c. (p c ≡ true) × (c < a + 1 + n)) (λ c. (p c ≡ true) × (c < a + suc n)) (λ c h. (h.0, omega (arith, h.1))) (filter p (range_with_len (a + 1) n)) (passes_range p (a + 1) n))
  where
    rest : List ℕ
    rest = filter p (range_with_len (a + 1) n)

    at : ((p a ≡ true) ⊎ (p a ≡ false)) → All (λ c. (p c ≡ true) × (c < a + suc n)) rest → All (λ c. (p c ≡ true) × (c < a + suc n)) (cond (p a) (a ∷ rest) rest)
    at (inl q) h = subst (λ b. All (λ c. (p c ≡ true) × (c < a + suc n)) (cond b (a ∷ rest) rest)) (sym q) (All-cons (λ c. (p c ≡ true) × (c < a + suc n)) a rest (q, omega arith) h)
    at (inr q) h = subst (λ b. All (λ c. (p c ≡ true) × (c < a + suc n)) (cond b (a ∷ rest) rest)) (sym q) h

-- each of them passes and is below the bound
pub chosen_pass : (p : ℕ → Bool) (n : ℕ) → All (λ c. (p c ≡ true) × (c < n)) (filter p (numbers_below n))
chosen_pass p n = All-weaker (λ c. (p c ≡ true) × (c < 0 + n)) (λ c. (p c ≡ true) × (c < n)) (λ c h. (h.0, omega (arith, h.1))) (filter p (numbers_below n)) (passes_range p 0 n)

pub chosen_below : (p : ℕ → Bool) (n k : ℕ) → k < length (filter p (numbers_below n)) → slice_index (filter p (numbers_below n)) k < n
chosen_below p n k l = (chosen_pass p n k 0 l).1

-- what does not pass is not among them
pub none_among : (p : ℕ → Bool) (n c : ℕ) → p c ≡ false → IsAmong (filter p (numbers_below n)) (length (filter p (numbers_below n))) c → ⊥
none_among p n c e k = both_ways (p c) e (subst (λ y. p y ≡ true) k.2 (chosen_pass p n k.0 0 k.1).0)

-- each is below the next
pub chosen_rising : (p : ℕ → Bool) (n : ℕ) → Rising (filter p (numbers_below n))
chosen_rising p n = subst (λ (ys : List ℕ). Rising ys) (keep_is_filter p (numbers_below n)) (keep_rising p 0 n)

-- no number comes twice
pub chosen_apart : (p : ℕ → Bool) (n k i : ℕ) → k < i → i < length (filter p (numbers_below n)) → slice_index (filter p (numbers_below n)) k ≡ slice_index (filter p (numbers_below n)) i → ⊥
chosen_apart p n k i l m e =
    let b = rising_at (filter p (numbers_below n)) (chosen_rising p n) k i l m in
    omega (arith, b, e)

pub chosen_few : (p : ℕ → Bool) (n : ℕ) → length (filter p (numbers_below n)) ≤ n
chosen_few p n = subst (λ (ys : List ℕ). length ys ≤ n) (keep_is_filter p (numbers_below n)) (keep_few p 0 n)
