-- The way from one clique to another, and the messages that a change at its beginning does not leave right.
use Rattle.std.proofs.Common.{◌≡◌, ℕ, suc, zero, ◌+◌, ◌<◌, ◌≤◌, Bool, true, false, cond, not, ◌&&◌, ◌||◌, ◌⊎◌, inl, inr, eqb, List, [], ◌∷◌, length, refl, sym, ap, subst, ◌∙◌, arith, eq-eqb, ne_eqb}
use Rattle.std.proofs.lemmas.Bool.{cases_eq, cases_Bool, both_ways, false_from_ne_true}
use Rattle.mk_sums.specs.Sums.{listed}
use Rattle.mk_sums.specs.Trees.{Links, hop, behind, sum_of, way_within, passes}
use Rattle.mk_sums.specs.Cells.{Apart}
use Rattle.mk_sums.proofs.Hops.{AreLinked, AreEnds, linked_back, ends, hop_linked, hop_near, behind_parts, behind_from, behind_itself, side}
use Rattle.mk_sums.proofs.Sides.{leaves}

abbrev one_if : Bool → ℕ
one_if b = cond b 1 0

one_if_grows : (b c : Bool) → (b ≡ true → c ≡ true) → one_if b ≤ one_if c
one_if_grows true true e = omega arith
one_if_grows true false e = absurd (both_ways false refl (e refl))
one_if_grows false true e = omega arith
one_if_grows false false e = omega arith

-- how many of the cliques 1 to m are in a set
abbrev count : (ℕ → Bool) → ℕ → ℕ
count s m = sum_of s m (λ j. 1)

count_at_most : (s t : ℕ → Bool) (m : ℕ) → ((j : ℕ) → 1 ≤ j → j ≤ m → s j ≡ true → t j ≡ true) → count s m ≤ count t m
count_at_most s t zero h = omega arith
count_at_most s t (suc k) h =
    let p = count_at_most s t k (λ j p q. h j p (omega arith)) in
    let q = one_if_grows (s (suc k)) (t (suc k)) (h (suc k) (omega arith) (omega arith)) in
    omega (arith, p, q)

count_less : (s t : ℕ → Bool) (m j : ℕ) → ((i : ℕ) → 1 ≤ i → i ≤ m → s i ≡ true → t i ≡ true) → 1 ≤ j → j ≤ m → t j ≡ true → s j ≡ false → count s m < count t m
count_less s t zero j h p q e f = absurd (omega arith)
count_less s t (suc k) j h p q e f = at (cases_eq j (suc k)) (λ l. count_less s t k j (λ i u v. h i u (omega arith)) p l e f) (count_at_most s t k (λ i u v. h i u (omega arith)))
  where
    at : ((j ≡ suc k) ⊎ (j ≡ suc k → ⊥)) → (j ≤ k → count s k < count t k) → count s k ≤ count t k → count s k + one_if (s (suc k)) < count t k + one_if (t (suc k))
    at (inl g) ih l =
        let u : one_if (s (suc k)) ≡ 0 = ap (λ b. one_if b) (ap s (sym g) ∙ f) in
        let v : one_if (t (suc k)) ≡ 1 = ap (λ b. one_if b) (ap t (sym g) ∙ e) in
        omega (arith, u, v)
    at (inr d) ih l =
        let u : count s k < count t k = ih (omega arith) in
        let v = one_if_grows (s (suc k)) (t (suc k)) (h (suc k) (omega arith) (omega arith)) in
        omega (arith, u, v)

count_all : (m : ℕ) → count (λ j. true) m ≡ m
count_all zero = refl
count_all (suc k) = let e = count_all k in omega (arith, e)

count_none : (s : ℕ → Bool) (m : ℕ) → ((j : ℕ) → 1 ≤ j → j ≤ m → s j ≡ false) → count s m ≡ 0
count_none s zero h = refl
count_none s (suc k) h =
    let e = count_none s k (λ j p q. h j p (omega arith)) in
    let f : one_if (s (suc k)) ≡ 0 = ap (λ b. one_if b) (h (suc k) (omega arith) (omega arith)) in
    omega (arith, e, f)

count_same : (s t : ℕ → Bool) (m : ℕ) → ((j : ℕ) → 1 ≤ j → j ≤ m → s j ≡ t j) → count s m ≡ count t m
count_same s t zero h = refl
count_same s t (suc k) h =
    ap (λ n. n + one_if (s (suc k))) (count_same s t k (λ j p q. h j p (omega arith))) ∙ ap (λ b. count t k + one_if b) (h (suc k) (omega arith) (omega arith))

count_one_more : (s t : ℕ → Bool) (m b : ℕ) → 1 ≤ b → b ≤ m → s b ≡ true → t b ≡ false → ((j : ℕ) → 1 ≤ j → j ≤ m → (j ≡ b → ⊥) → s j ≡ t j) → count s m ≡ suc (count t m)
count_one_more s t zero b p q e f h = absurd (omega arith)
count_one_more s t (suc k) b p q e f h = at (cases_eq b (suc k)) (λ l. count_one_more s t k b p l e f (λ j u v. h j u (omega arith)))
  where
    at : ((b ≡ suc k) ⊎ (b ≡ suc k → ⊥)) → (b ≤ k → count s k ≡ suc (count t k)) → count s k + one_if (s (suc k)) ≡ suc (count t k + one_if (t (suc k)))
    at (inl g) ih =
        let u : one_if (s (suc k)) ≡ 1 = ap (λ c. one_if c) (ap s (sym g) ∙ e) in
        let v : one_if (t (suc k)) ≡ 0 = ap (λ c. one_if c) (ap t (sym g) ∙ f) in
        let w : count s k ≡ count t k = count_same s t k (λ j x y. h j x (omega arith) (λ i. omega arith)) in
        omega (arith, u, v, w)
    at (inr d) ih =
        let u : count s k ≡ suc (count t k) = ih (omega arith) in
        let v : one_if (s (suc k)) ≡ one_if (t (suc k)) = ap (λ c. one_if c) (h (suc k) (omega arith) (omega arith) (λ i. d (sym i))) in
        omega (arith, u, v)

module _ (link : ℕ → ℕ) (m : ℕ) (links : Links link m) (c : ℕ) (first : 1 ≤ c) (last : c ≤ m) where
  next_linked : (b : ℕ) → 1 ≤ b → b ≤ m → (b ≡ c → ⊥) → AreLinked link m (hop link m b c) b
  next_linked b p q d = hop_linked link m b c links p q first last (λ e. d (sym e))

  not_back : (b : ℕ) → 1 ≤ b → b ≤ m → (b ≡ c → ⊥) → (hop link m b c ≡ c → ⊥) → hop link m (hop link m b c) c ≡ b → ⊥
  not_back b p q d f e =
      both_ways (behind link m b (hop link m b c) c)
      (side link m b (hop link m b c) c links (linked_back link m (hop link m b c) b (next_linked b p q d)) first last ∙ ap not (behind_from link m (hop link m b c) b c (λ g. d (sym g)) refl))
      (behind_from link m b (hop link m b c) c (λ g. f (sym g)) e)

  same_side : (k b : ℕ) → 1 ≤ k → k ≤ m → 1 ≤ b → b ≤ m → (k ≡ c → ⊥) → (b ≡ c → ⊥) → (k ≡ b → ⊥)
      → behind link m k (hop link m k c) b ≡ behind link m k (hop link m k c) (hop link m b c)
  same_side k b p q r s d f g = at (cases_Bool (behind link m k (hop link m k c) b)) (cases_Bool (behind link m k (hop link m k c) (hop link m b c)))
    where
      from_k : AreLinked link m k (hop link m k c)
      from_k = linked_back link m (hop link m k c) k (next_linked k p q d)

      to_b : AreLinked link m (hop link m b c) b
      to_b = next_linked b r s f

      at : ((behind link m k (hop link m k c) b ≡ true) ⊎ (behind link m k (hop link m k c) b ≡ false))
          → ((behind link m k (hop link m k c) (hop link m b c) ≡ true) ⊎ (behind link m k (hop link m k c) (hop link m b c) ≡ false))
          → behind link m k (hop link m k c) b ≡ behind link m k (hop link m k c) (hop link m b c)
      at (inl u) (inl v) = u ∙ sym v
      at (inr u) (inr v) = u ∙ sym v
      at (inl u) (inr v) =
          let n = leaves link m (λ i x. false) links k (hop link m k c) b (hop link m b c) from_k (linked_back link m (hop link m b c) b to_b) u v in
          absurd (g (sym n.0))
      at (inr u) (inl v) =
          let n = leaves link m (λ i x. false) links k (hop link m k c) (hop link m b c) b from_k to_b v u in
          absurd (not_back b r s f (λ e. d (sym n.0 ∙ e)) (ap (λ i. hop link m i c) n.0 ∙ sym n.1))

  itself : (b : ℕ) → 1 ≤ b → b ≤ m → (b ≡ c → ⊥) → passes link m b c b ≡ true
  itself b p q d =
      let l = linked_back link m (hop link m b c) b (next_linked b p q d) in
      let n = ends link m b (hop link m b c) links l in
      ap (λ t. not t && behind link m b (hop link m b c) b) (ne_eqb b c d) ∙ behind_from link m b (hop link m b c) b n.4 (hop_near link m b (hop link m b c) links l)

  not_after : (b : ℕ) → (b ≡ c → ⊥) → passes link m (hop link m b c) c b ≡ false
  not_after b d = ap (λ t. not t && behind link m b (hop link m b c) (hop link m b c)) (ne_eqb b c d) ∙ behind_itself link m b (hop link m b c) (hop link m b c) refl

  passes_next : (k b : ℕ) → 1 ≤ k → k ≤ m → 1 ≤ b → b ≤ m → (b ≡ c → ⊥) → (k ≡ b → ⊥) → passes link m b c k ≡ passes link m (hop link m b c) c k
  passes_next k b p q r s f g = at (cases_eq k c)
    where
      at : ((k ≡ c) ⊎ (k ≡ c → ⊥)) → passes link m b c k ≡ passes link m (hop link m b c) c k
      at (inl e) = ap (λ t. not t && behind link m k (hop link m k c) b) (eq-eqb k c e) ∙ sym (ap (λ t. not t && behind link m k (hop link m k c) (hop link m b c)) (eq-eqb k c e))
      at (inr d) = ap (λ t. not (eqb k c) && t) (same_side k b p q r s d f g)

  passes_none : (k b : ℕ) → 1 ≤ k → k ≤ m → b ≡ c → passes link m b c k ≡ false
  passes_none k b p q e = at (cases_eq k c)
    where
      at : ((k ≡ c) ⊎ (k ≡ c → ⊥)) → passes link m b c k ≡ false
      at (inl f) = ap (λ t. not t && behind link m k (hop link m k c) b) (eq-eqb k c f)
      at (inr d) =
          let l = linked_back link m (hop link m k c) k (next_linked k p q d) in
          ap (λ t. not t && behind link m k (hop link m k c) b) (ne_eqb k c d)
          ∙ ap (behind link m k (hop link m k c)) e
          ∙ side link m k (hop link m k c) c links l first last
          ∙ ap not (behind_from link m (hop link m k c) k c (λ g. d (sym g)) refl)

  -- the cliques on c's side of the link by which b's way begins
  ahead : ℕ → ℕ → Bool
  ahead b j = behind link m (hop link m b c) b j

  fewer_ahead : (b : ℕ) → 1 ≤ b → b ≤ m → (b ≡ c → ⊥) → (hop link m b c ≡ c → ⊥) → count (λ j. behind link m (hop link m (hop link m b c) c) (hop link m b c) j) m < count (λ j. behind link m (hop link m b c) b j) m
  fewer_ahead b p q d f =
      count_less (λ j. behind link m (hop link m (hop link m b c) c) (hop link m b c) j) (λ j. behind link m (hop link m b c) b j) m (hop link m b c) inside n.0 n.1
      (behind_from link m (hop link m b c) b (hop link m b c) n.4 (hop_near link m (hop link m b c) b links l))
      (behind_itself link m (hop link m (hop link m b c) c) (hop link m b c) (hop link m b c) refl)
    where
      l : AreLinked link m (hop link m b c) b
      l = next_linked b p q d

      n : AreEnds m (hop link m b c) b
      n = ends link m (hop link m b c) b links l

      inside : (j : ℕ) → 1 ≤ j → j ≤ m → behind link m (hop link m (hop link m b c) c) (hop link m b c) j ≡ true → behind link m (hop link m b c) b j ≡ true
      inside j r s h =
          let u = behind_parts link m (hop link m (hop link m b c) c) (hop link m b c) j h in
          side link m (hop link m b c) b j links l r s
          ∙ ap not (false_from_ne_true (behind link m b (hop link m b c) j) (λ v. not_back b p q d f (sym u.1 ∙ (behind_parts link m b (hop link m b c) j v).1)))

  record IsWay (b : ℕ) (w : List ℕ) : Type 0 where
    lists : (k : ℕ) → 1 ≤ k → k ≤ m → passes link m b c k ≡ listed w k
    apart : Apart w
    number : count (passes link m b c) m ≡ length w

  ended : (b : ℕ) → b ≡ c → IsWay b []
  ended b e = record { lists = λ k p q. passes_none k b p q e; apart = tt; number = count_none (passes link m b c) m (λ k p q. passes_none k b p q e) }

  more : (b : ℕ) (w : List ℕ) → 1 ≤ b → b ≤ m → (b ≡ c → ⊥) → IsWay (hop link m b c) w → IsWay b (b ∷ w)
  more b w p q d rest = record {
    lists = λ k r s. at k r s (cases_eq k b);
    apart = (sym (rest.lists b p q) ∙ not_after b d, rest.apart);
    number = count_one_more (passes link m b c) (passes link m (hop link m b c) c) m b p q (itself b p q d) (not_after b d) (λ k r s f. passes_next k b r s p q d f) ∙ ap suc rest.number;
  }
    where
      at : (k : ℕ) → 1 ≤ k → k ≤ m → ((k ≡ b) ⊎ (k ≡ b → ⊥)) → passes link m b c k ≡ (eqb k b || listed w k)
      at k r s (inl e) = ap (passes link m b c) e ∙ itself b p q d ∙ sym (ap (λ t. t || listed w k) (eq-eqb k b e))
      at k r s (inr f) = passes_next k b r s p q d f ∙ rest.lists k r s ∙ sym (ap (λ t. t || listed w k) (ne_eqb k b f))

  is_way : (n b : ℕ) → 1 ≤ b → b ≤ m → ((b ≡ c) ⊎ (count (λ j. behind link m (hop link m b c) b j) m < n)) → IsWay b (way_within link m n b c)
  is_way zero b p q (inl e) = ended b e
  is_way zero b p q (inr h) = absurd (omega arith)
  is_way (suc n) b p q h = at h (cases_eq b c) (λ r s k. is_way n (hop link m b c) r s k)
    where
      at : ((b ≡ c) ⊎ (count (λ j. behind link m (hop link m b c) b j) m < suc n)) → ((b ≡ c) ⊎ (b ≡ c → ⊥))
          → (1 ≤ hop link m b c → hop link m b c ≤ m → ((hop link m b c ≡ c) ⊎ (count (λ j. behind link m (hop link m (hop link m b c) c) (hop link m b c) j) m < n)) → IsWay (hop link m b c) (way_within link m n (hop link m b c) c))
          → IsWay b (cond (eqb b c) [] (b ∷ way_within link m n (hop link m b c) c))
      at _ (inl e) ih = subst (λ t. IsWay b (cond t [] (b ∷ way_within link m n (hop link m b c) c))) (sym (eq-eqb b c e)) (ended b e)
      at (inl e) (inr d) ih = absurd (d e)
      at (inr l) (inr d) ih =
          let u = ends link m (hop link m b c) b links (next_linked b p q d) in
          subst (λ t. IsWay b (cond t [] (b ∷ way_within link m n (hop link m b c) c))) (sym (ne_eqb b c d))
          (more b (way_within link m n (hop link m b c) c) p q d (ih u.0 u.1 (next (cases_eq (hop link m b c) c))))
        where
          next : ((hop link m b c ≡ c) ⊎ (hop link m b c ≡ c → ⊥)) → (hop link m b c ≡ c) ⊎ (count (λ j. behind link m (hop link m (hop link m b c) c) (hop link m b c) j) m < n)
          next (inl e) = inl e
          next (inr f) = let v = fewer_ahead b p q d f in inr (omega (arith, v, l))

  pub stale_on_way : (b : ℕ) → 1 ≤ b → b ≤ m
      → ((k : ℕ) → 1 ≤ k → k ≤ m → passes link m b c k ≡ listed (way_within link m m b c) k) × Apart (way_within link m m b c) × (count (passes link m b c) m ≡ length (way_within link m m b c))
  stale_on_way b p q =
      let l : count (λ j. behind link m (hop link m b c) b j) m < count (λ j. true) m = count_less (λ j. behind link m (hop link m b c) b j) (λ j. true) m b (λ i r s h. refl) p q refl (behind_itself link m (hop link m b c) b b refl) in
      let e = count_all m in
      let w = is_way m b p q (inr (omega (arith, l, e))) in
      (w.lists, w.apart, w.number)
