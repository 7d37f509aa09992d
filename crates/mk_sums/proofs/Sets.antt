-- What is placed in a set of cliques, and what the set's cliques hold.
use Rattle.std.proofs.Common.{◌≡◌, ℕ, suc, zero, ◌*◌, ◌<◌, ◌≤◌, Bool, true, false, cond, ◌&&◌, ◌||◌, ◌⊎◌, inl, inr, eqb, refl, sym, ap, ◌∙◌, arith, mul-one, one-mul, mul_assoc, mul_comm, eq-eqb, ne_eqb}
use Rattle.std.proofs.lemmas.Bool.{cases_eq, both_ways, or_left, or_right, and_from}
use Rattle.mk_sums.specs.Sums.{Within}
use Rattle.mk_sums.specs.Trees.{times_of, held}

module _ (clique : ℕ → ℕ → Bool) where
  pub held_agree : (s t : ℕ → Bool) (m x : ℕ) → ((j : ℕ) → 1 ≤ j → j ≤ m → s j ≡ t j) → held s m clique x ≡ held t m clique x
  held_agree s t zero x h = refl
  held_agree s t (suc k) x h =
      let e = h (suc k) (omega arith) (omega arith) in
      ap (λ b. b || (s (suc k) && clique (suc k) x)) (held_agree s t k x (λ j p q. h j p (omega arith)))
      ∙ ap (λ b. held t k clique x || (b && clique (suc k) x)) e

  pub held_none : (s : ℕ → Bool) (m x : ℕ) → ((j : ℕ) → s j ≡ false) → held s m clique x ≡ false
  held_none s zero x h = refl
  held_none s (suc k) x h = rw (held_none s k x h, h (suc k))

  pub held_union : (s t : ℕ → Bool) (m x : ℕ) → held (λ j. s j || t j) m clique x ≡ (held s m clique x || held t m clique x)
  held_union s t zero x = refl
  held_union s t (suc k) x =
      ap (λ b. b || ((s (suc k) || t (suc k)) && clique (suc k) x)) (held_union s t k x)
      ∙ sorted (held s k clique x) (held t k clique x) (s (suc k)) (t (suc k)) (clique (suc k) x)
    where
      sorted : (a b c d e : Bool) → ((a || b) || ((c || d) && e)) ≡ ((a || (c && e)) || (b || (d && e)))
      sorted true b c d e = refl
      sorted false true true d true = refl
      sorted false true true d false = refl
      sorted false true false d e = refl
      sorted false false true d true = refl
      sorted false false true true false = refl
      sorted false false true false false = refl
      sorted false false false d e = refl

  pub held_one : (a m x : ℕ) → 1 ≤ a → a ≤ m → held (λ j. eqb j a) m clique x ≡ clique a x
  held_one a zero x p q = absurd (omega arith)
  held_one a (suc k) x p q = at (cases_eq a (suc k)) (held_one a k x p)
    where
      none : (n : ℕ) → n < a → held (λ j. eqb j a) n clique x ≡ false
      none zero h = refl
      none (suc n) h = rw (none n (omega arith), ne_eqb (suc n) a (λ e. omega arith))

      or_false : (b : Bool) → (b || false) ≡ b
      or_false true = refl
      or_false false = refl

      at : ((a ≡ suc k) ⊎ (a ≡ suc k → ⊥)) → (a ≤ k → held (λ j. eqb j a) k clique x ≡ clique a x) → (held (λ j. eqb j a) k clique x || (eqb (suc k) a && clique (suc k) x)) ≡ clique a x
      at (inl e) ih = rw (none k (omega arith), eq-eqb (suc k) a (sym e)) (ap (λ i. clique i x) (sym e))
      at (inr d) ih = ap (λ b. held (λ j. eqb j a) k clique x || (b && clique (suc k) x)) (ne_eqb (suc k) a (λ e. d (sym e))) ∙ or_false _ ∙ ih (omega arith)

module _ (placed : ℕ → (ℕ → ℕ) → ℕ) where
  pub times_agree : (s t : ℕ → Bool) (m : ℕ) (a : ℕ → ℕ) → ((j : ℕ) → 1 ≤ j → j ≤ m → s j ≡ t j) → times_of s m placed a ≡ times_of t m placed a
  times_agree s t zero a h = refl
  times_agree s t (suc k) a h =
      let e = h (suc k) (omega arith) (omega arith) in
      ap (λ n. n * cond (s (suc k)) (placed (suc k) a) 1) (times_agree s t k a (λ j p q. h j p (omega arith)))
      ∙ ap (λ b. times_of t k placed a * cond b (placed (suc k) a) 1) e

  pub times_none : (s : ℕ → Bool) (m : ℕ) (a : ℕ → ℕ) → ((j : ℕ) → s j ≡ false) → times_of s m placed a ≡ 1
  times_none s zero a h = refl
  times_none s (suc k) a h = rw (times_none s k a h, h (suc k))

  pub times_union : (s t : ℕ → Bool) (m : ℕ) (a : ℕ → ℕ) → ((j : ℕ) → s j ≡ true → t j ≡ false) → times_of (λ j. s j || t j) m placed a ≡ times_of s m placed a * times_of t m placed a
  times_union s t zero a h = refl
  times_union s t (suc k) a h =
      ap (λ n. n * cond (s (suc k) || t (suc k)) (placed (suc k) a) 1) (times_union s t k a h)
      ∙ sorted (times_of s k placed a) (times_of t k placed a) (placed (suc k) a) (s (suc k)) (t (suc k)) (h (suc k))
    where
      swapped : (p q r : ℕ) → (p * q) * r ≡ (p * r) * q
      swapped p q r = mul_assoc p q r ∙ ap (λ n. p * n) (mul_comm q r) ∙ sym (mul_assoc p r q)

      sorted : (p q v : ℕ) (b c : Bool) → (b ≡ true → c ≡ false) → (p * q) * cond (b || c) v 1 ≡ (p * cond b v 1) * (q * cond c v 1)
      sorted p q v true true h = absurd (both_ways true (h refl) refl)
      sorted p q v true false h = rw (mul-one q) (swapped p q v)
      sorted p q v false true h = rw (mul-one p) (mul_assoc p q v)
      sorted p q v false false h = rw (mul-one p, mul-one q, mul-one (p * q)) refl

  pub times_one : (a m : ℕ) (s : ℕ → ℕ) → 1 ≤ a → a ≤ m → times_of (λ j. eqb j a) m placed s ≡ placed a s
  times_one a zero s p q = absurd (omega arith)
  times_one a (suc k) s p q = at (cases_eq a (suc k)) (times_one a k s p)
    where
      none : (n : ℕ) → n < a → times_of (λ j. eqb j a) n placed s ≡ 1
      none zero h = refl
      none (suc n) h = rw (none n (omega arith), ne_eqb (suc n) a (λ e. omega arith))

      at : ((a ≡ suc k) ⊎ (a ≡ suc k → ⊥)) → (a ≤ k → times_of (λ j. eqb j a) k placed s ≡ placed a s) → times_of (λ j. eqb j a) k placed s * cond (eqb (suc k) a) (placed (suc k) s) 1 ≡ placed a s
      at (inl e) ih = rw (none k (omega arith), eq-eqb (suc k) a (sym e)) (one-mul _ ∙ ap (λ i. placed i s) (sym e))
      at (inr d) ih = ap (λ b. times_of (λ j. eqb j a) k placed s * cond b (placed (suc k) s) 1) (ne_eqb (suc k) a (λ e. d (sym e))) ∙ mul-one _ ∙ ih (omega arith)

  pub times_within : (clique : ℕ → ℕ → Bool) (set : ℕ → Bool) (m : ℕ) → ((k : ℕ) → 1 ≤ k → k ≤ m → Within (clique k) (placed k)) → Within (held set m clique) (times_of set m placed)
  times_within clique set zero h a b e = refl
  times_within clique set (suc k) h a b e =
      ap (λ n. n * cond (set (suc k)) (placed (suc k) a) 1) (times_within clique set k (λ j p q. h j p (omega arith)) a b (λ x p. e x (or_left _ _ p)))
      ∙ ap (λ n. times_of set k placed b * n) (at (set (suc k)) refl)
    where
      at : (c : Bool) → set (suc k) ≡ c → cond c (placed (suc k) a) 1 ≡ cond c (placed (suc k) b) 1
      at true p = h (suc k) (omega arith) (omega arith) a b (λ x q. e x (or_right _ _ (and_from (set (suc k)) (clique (suc k) x) p q)))
      at false p = refl
