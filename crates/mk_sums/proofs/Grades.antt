-- The bound on grades adds up over the neighbours: the law of messages for powers of 2 over no variables.
use Rattle.std.proofs.Common.{◌≡◌, ℕ, suc, zero, ◌+◌, ◌*◌, ◌^◌, ◌<◌, ◌≤◌, Bool, true, false, cond, not, ◌⊎◌, inl, inr, eqb, [], refl, sym, ap, ◌∙◌, arith, add_assoc, add_comm, zero-add, mul-add, one-mul}
use Rattle.std.proofs.Math.Path.{fun_ext}
use Rattle.std.proofs.Math.Pow.{pow-lt}
use Rattle.std.proofs.lemmas.Nat.{pow-add}
use Rattle.std.proofs.lemmas.Bool.{cases_eq, cases_order, both_ways, and_parts}
use Rattle.mk_states.specs.Lawful.{Lawful}
use Rattle.mk_sums.specs.Trees.{times_of, Links, linked, behind, linked_to, linked_but, sum_of, message_grade}
use Rattle.mk_sums.proofs.Hops.{AreLinked, are_linked, ends, hop_near, behind_from}
use Rattle.mk_sums.proofs.Groups.{message_law, read_law}

pub sums_lawful : Lawful ◌+◌
sums_lawful = record { commutes = add_comm; associates = add_assoc; neutral = zero-add; distributes = mul-add; present = λ a b h. omega arith; bounded = λ a b. omega arith }

power_of : (set : ℕ → Bool) (m : ℕ) (w : ℕ → ℕ) (s : ℕ → ℕ) → times_of set m (λ j t. 2 ^ w j) s ≡ 2 ^ sum_of set m w
power_of set zero w s = refl
power_of set (suc k) w s = ap (λ n. n * cond (set (suc k)) (2 ^ w (suc k)) 1) (power_of set k w s) ∙ ap (λ n. 2 ^ sum_of set k w * n) (at (set (suc k))) ∙ sym (pow-add 2 (sum_of set k w) (cond (set (suc k)) (w (suc k)) 0))
  where
    at : (b : Bool) → cond b (2 ^ w (suc k)) 1 ≡ 2 ^ cond b (w (suc k)) 0
    at true = refl
    at false = refl

same_power : (a b : ℕ) → 2 ^ a ≡ 2 ^ b → a ≡ b
same_power a b e = at (cases_order a b)
  where
    at : ((a ≡ b) ⊎ ((a < b) ⊎ (b < a))) → a ≡ b
    at (inl f) = f
    at (inr (inl h)) = let p : 2 ^ a < 2 ^ b = pow-lt h in absurd (omega arith)
    at (inr (inr h)) = let p : 2 ^ b < 2 ^ a = pow-lt h in absurd (omega arith)

sum_same : (set : ℕ → Bool) (m : ℕ) (v w : ℕ → ℕ) → ((j : ℕ) → set j ≡ true → v j ≡ w j) → sum_of set m v ≡ sum_of set m w
sum_same set zero v w h = refl
sum_same set (suc k) v w h = ap (λ n. n + cond (set (suc k)) (v (suc k)) 0) (sum_same set k v w h) ∙ ap (λ n. sum_of set k w + n) (at (set (suc k)) refl)
  where
    at : (b : Bool) → set (suc k) ≡ b → cond b (v (suc k)) 0 ≡ cond b (w (suc k)) 0
    at true e = h (suc k) e
    at false e = refl

sum_has : (set : ℕ → Bool) (m : ℕ) (w : ℕ → ℕ) (j : ℕ) → 1 ≤ j → j ≤ m → set j ≡ true → w j ≤ sum_of set m w
sum_has set zero w j p q h = absurd (omega arith)
sum_has set (suc k) w j p q h = at (cases_eq j (suc k)) (λ l. sum_has set k w j p l h)
  where
    at : ((j ≡ suc k) ⊎ (j ≡ suc k → ⊥)) → (j ≤ k → w j ≤ sum_of set k w) → w j ≤ sum_of set k w + cond (set (suc k)) (w (suc k)) 0
    at (inl e) ih =
        let f : cond (set (suc k)) (w (suc k)) 0 ≡ w j = ap (λ b. cond b (w (suc k)) 0) (ap set (sym e) ∙ h) ∙ ap w (sym e) in
        omega (arith, f)
    at (inr d) ih = let l : w j ≤ sum_of set k w = ih (omega arith) in omega (arith, l)

module _ (link : ℕ → ℕ) (m : ℕ) (links : Links link m) where
  pub sides_add : (w : ℕ → ℕ) (a b : ℕ) → linked link m a b ≡ true → sum_of (behind link m a b) m w ≡ w a + sum_of (linked_but link m a b) m (λ i. sum_of (behind link m i a) m w)
  sides_add w a b h =
      same_power _ _
      (sym (power_of (behind link m a b) m w (λ x. 0))
      ∙ message_law ◌+◌ (λ x. 0) [] (λ k x. false) (λ j t. 2 ^ w j) link m sums_lawful (record { links = links; running = λ x i j p q r s e f. absurd (both_ways false refl e); fits = λ k p q s t e. refl }) a b h (λ x. 0)
      ∙ ap (λ (g : ℕ → (ℕ → ℕ) → ℕ). 2 ^ w a * times_of (linked_but link m a b) m g (λ x. 0)) (fun_ext (λ i. fun_ext (λ t. power_of (behind link m i a) m w t)))
      ∙ ap (λ n. 2 ^ w a * n) (power_of (linked_but link m a b) m (λ i. sum_of (behind link m i a) m w) (λ x. 0))
      ∙ sym (pow-add 2 (w a) (sum_of (linked_but link m a b) m (λ i. sum_of (behind link m i a) m w))))

  one_side : (placed_number cell_number : ℕ → ℕ) (i a : ℕ) → AreLinked link m i a
      → sum_of (behind link m i a) m (λ j. placed_number j + cell_number j + 2) ≡ message_grade placed_number cell_number link m i a + 2
  one_side placed_number cell_number i a l =
      let n = ends link m i a links l in
      let k : placed_number i + cell_number i + 2 ≤ sum_of (behind link m i a) m (λ j. placed_number j + cell_number j + 2) =
      sum_has (behind link m i a) m (λ j. placed_number j + cell_number j + 2) i n.0 n.1 (behind_from link m i a i n.4 (hop_near link m i a links l)) in
      omega (arith, k)

  pub grades_add : (placed_number cell_number : ℕ → ℕ) → (a b : ℕ) → linked link m a b ≡ true
      → message_grade placed_number cell_number link m a b
      ≡ placed_number a + cell_number a + sum_of (linked_but link m a b) m (λ i. message_grade placed_number cell_number link m i a + 2)
  grades_add placed_number cell_number a b h =
      let e = sides_add (λ j. placed_number j + cell_number j + 2) a b h in
      let f = sum_same (linked_but link m a b) m (λ i. sum_of (behind link m i a) m (λ j. placed_number j + cell_number j + 2)) (λ i. message_grade placed_number cell_number link m i a + 2)
      (λ i p. one_side placed_number cell_number i a (are_linked link m i a (and_parts (linked link m i a) (not (eqb i b)) p).0)) in
      omega (arith, e, f)

  pub all_add : (w : ℕ → ℕ) (a : ℕ) → 1 ≤ a → a ≤ m → sum_of (λ j. true) m w ≡ w a + sum_of (linked_to link m a) m (λ i. sum_of (behind link m i a) m w)
  all_add w a first last =
      same_power _ _
      (sym (power_of (λ j. true) m w (λ x. 0))
      ∙ sym (one-mul (times_of (λ j. true) m (λ j t. 2 ^ w j) (λ x. 0)))
      ∙ read_law ◌+◌ (λ x. 0) [] (λ k x. false) (λ j t. 2 ^ w j) link m sums_lawful (record { links = links; running = λ x i j p q r s e f. absurd (both_ways false refl e); fits = λ k p q s t e. refl }) a
      (λ x e. absurd (both_ways false refl e)) first last (λ t. 1) (λ s t e. refl) (λ x. 0)
      ∙ one-mul (2 ^ w a * times_of (linked_to link m a) m (λ i. times_of (behind link m i a) m (λ j t. 2 ^ w j)) (λ x. 0))
      ∙ ap (λ (g : ℕ → (ℕ → ℕ) → ℕ). 2 ^ w a * times_of (linked_to link m a) m g (λ x. 0)) (fun_ext (λ i. fun_ext (λ t. power_of (behind link m i a) m w t)))
      ∙ ap (λ n. 2 ^ w a * n) (power_of (linked_to link m a) m (λ i. sum_of (behind link m i a) m w) (λ x. 0))
      ∙ sym (pow-add 2 (w a) (sum_of (linked_to link m a) m (λ i. sum_of (behind link m i a) m w))))

  pub read_grades_add : (placed_number cell_number : ℕ → ℕ) → (a : ℕ) → 1 ≤ a → a ≤ m
      → placed_number a + cell_number a + sum_of (linked_to link m a) m (λ i. message_grade placed_number cell_number link m i a + 2) + 2
      ≡ sum_of (λ j. true) m (λ j. placed_number j + cell_number j + 2)
  read_grades_add placed_number cell_number a first last =
      let e = all_add (λ j. placed_number j + cell_number j + 2) a first last in
      let f = sum_same (linked_to link m a) m (λ i. sum_of (behind link m i a) m (λ j. placed_number j + cell_number j + 2)) (λ i. message_grade placed_number cell_number link m i a + 2)
      (λ i p. one_side placed_number cell_number i a (are_linked link m i a p)) in
      omega (arith, e, f)
