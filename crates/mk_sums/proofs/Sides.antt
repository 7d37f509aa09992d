-- Running intersection: what both sides of a link hold, its two ends hold; and it is the same as at most one top for each variable.
use Rattle.std.proofs.Common.{◌≡◌, ℕ, suc, zero, ◌<◌, ◌≤◌, Bool, true, false, not, ◌&&◌, ◌||◌, ◌⊎◌, inl, inr, refl, sym, ap, subst, ◌∙◌, arith}
use Rattle.std.proofs.lemmas.Bool.{cases_eq, cases_Bool, both_ways, and_parts, and_from, or_cases, or_left, or_right, cases_order}
use Rattle.mk_sums.specs.Trees.{Links, linked, hop, behind, held, Joined, here, step, Running, IsTop, OneTop}
use Rattle.mk_sums.proofs.Hops.{AreLinked, are_linked, linked_from, linked_back, ends, behind_parts, behind_from, side, hop_step, hop_near, hop_up}

-- a clique of the set, among 1 to m, that holds x
pub record Holder (set : ℕ → Bool) (m : ℕ) (clique : ℕ → ℕ → Bool) (x : ℕ) : Type 0 where
  pub at : ℕ
  pub first : 1 ≤ at
  pub last : at ≤ m
  pub inside : set at ≡ true
  pub holds : clique at x ≡ true

pub holder : (set : ℕ → Bool) (m : ℕ) (clique : ℕ → ℕ → Bool) (x : ℕ) → held set m clique x ≡ true → Holder set m clique x
holder set zero clique x h = absurd (cc)
holder set (suc k) clique x h = at (or_cases (held set k clique x) (set (suc k) && clique (suc k) x) h) (holder set k clique x)
  where
    at : ((held set k clique x ≡ true) ⊎ ((set (suc k) && clique (suc k) x) ≡ true)) → (held set k clique x ≡ true → Holder set k clique x) → Holder set (suc k) clique x
    at (inl p) ih = let h = ih p in record { at = h.at; first = h.first; last = omega (arith, h.last); inside = h.inside; holds = h.holds }
    at (inr p) ih = let q = and_parts (set (suc k)) (clique (suc k) x) p in record { at = suc k; first = omega arith; last = omega arith; inside = q.0; holds = q.1 }

pub held_by : (set : ℕ → Bool) (m : ℕ) (clique : ℕ → ℕ → Bool) (x j : ℕ) → 1 ≤ j → j ≤ m → set j ≡ true → clique j x ≡ true → held set m clique x ≡ true
held_by set zero clique x j p q h k = absurd (omega arith)
held_by set (suc n) clique x j p q h k = at (cases_eq j (suc n)) (λ l. held_by set n clique x j p l h k)
  where
    at : ((j ≡ suc n) ⊎ (j ≡ suc n → ⊥)) → (j ≤ n → held set n clique x ≡ true) → (held set n clique x || (set (suc n) && clique (suc n) x)) ≡ true
    at (inl e) ih = or_right _ _ (and_from (set (suc n)) (clique (suc n) x) (ap set (sym e) ∙ h) (ap (λ i. clique i x) (sym e) ∙ k))
    at (inr d) ih = or_left _ _ (ih (omega arith))

module _ (link : ℕ → ℕ) (m : ℕ) (clique : ℕ → ℕ → Bool) (links : Links link m) where
  -- the one link that leaves the side of c
  pub leaves : (c a i j : ℕ) → AreLinked link m c a → AreLinked link m i j → behind link m c a i ≡ true → behind link m c a j ≡ false → (i ≡ c) × (j ≡ a)
  leaves c a i j h k p q = at (cases_eq j a)
    where
      at : ((j ≡ a) ⊎ (j ≡ a → ⊥)) → (i ≡ c) × (j ≡ a)
      at (inl e) =
          let b = behind_parts link m c a i p in
          let n = hop_near link m i j links k in
          (sym n ∙ ap (λ t. hop link m t i) e ∙ b.1, e)
      at (inr d) =
          let b = behind_parts link m c a i p in
          let n = ends link m c a links h in
          let s = hop_step link m a i j links k n.2 n.3 (λ e. b.0 (sym e)) (λ e. d (sym e)) in
          absurd (both_ways (behind link m c a j) q (behind_from link m c a j d (sym s ∙ b.1)))

  -- a way through cliques that hold x, from c's side of its link with a to a's side
  pub crossing : {x i j : ℕ} → (c a : ℕ) → Joined link m clique x i j → AreLinked link m c a → behind link m c a i ≡ true → behind link m c a j ≡ false → (clique c x ≡ true) × (clique a x ≡ true)
  crossing c a here h p q = absurd (both_ways _ q p)
  crossing {x = x} {i = i} {j = k} c a (step {j = j} l u v rest) h p q = at (cases_Bool (behind link m c a j)) (λ e. crossing c a rest h e q)
    where
      at : ((behind link m c a j ≡ true) ⊎ (behind link m c a j ≡ false)) → (behind link m c a j ≡ true → (clique c x ≡ true) × (clique a x ≡ true)) → (clique c x ≡ true) × (clique a x ≡ true)
      at (inl e) ih = ih e
      at (inr e) ih =
          let n = leaves c a i j h (are_linked link m i j l) p e in
          (ap (λ t. clique t x) (sym n.0) ∙ u, ap (λ t. clique t x) (sym n.1) ∙ v)

  -- what is held on a side and outside of it is held at both ends
  pub held_across : Running link m clique → (c a x j : ℕ) → AreLinked link m c a → held (behind link m c a) m clique x ≡ true
      → 1 ≤ j → j ≤ m → behind link m c a j ≡ false → clique j x ≡ true → (clique c x ≡ true) × (clique a x ≡ true)
  held_across running c a x j h p f l q k =
      let o = holder (behind link m c a) m clique x p in
      crossing c a (running x o.at j o.first o.last f l o.holds k) h o.inside q

  pub separates : Running link m clique → (a b : ℕ) → linked link m a b ≡ true → (x : ℕ) → held (behind link m a b) m clique x ≡ true → held (behind link m b a) m clique x ≡ true
      → (clique a x ≡ true) × (clique b x ≡ true)
  separates running a b h x p q =
      let o = holder (behind link m b a) m clique x q in
      let l = are_linked link m a b h in
      held_across running a b x o.at l p o.first o.last (side link m a b o.at links l o.first o.last ∙ ap not o.inside) o.holds

  joined_on : {x i j k : ℕ} → Joined link m clique x i j → Joined link m clique x j k → Joined link m clique x i k
  joined_on here b = b
  joined_on (step l u v rest) b = step l u v (joined_on rest b)

  joined_back : {x i j : ℕ} → Joined link m clique x i j → Joined link m clique x j i
  joined_back here = here
  joined_back {x = x} {i = i} {j = k} (step {j = j} l u v rest) = joined_on (joined_back rest) (step (linked_from link m j i (linked_back link m i j (are_linked link m i j l))) v u here)

  -- the top of a clique's part
  record Top (x i : ℕ) : Type 0 where
    top : ℕ
    is_top : IsTop link m clique x top
    way : Joined link m clique x i top

  climb : (n x i : ℕ) → i ≤ n → 1 ≤ i → i ≤ m → clique i x ≡ true → Top x i
  climb zero x i p q r h = absurd (omega arith)
  climb (suc n) x i p q r h = at (cases_eq i 1) (cases_Bool (clique (link i) x)) (climb n x (link i))
    where
      at : ((i ≡ 1) ⊎ (i ≡ 1 → ⊥)) → ((clique (link i) x ≡ true) ⊎ (clique (link i) x ≡ false)) → (link i ≤ n → 1 ≤ link i → link i ≤ m → clique (link i) x ≡ true → Top x (link i)) → Top x i
      at (inl e) _ ih = record { top = i; is_top = record { first = q; last = r; holds = h; above = λ g. absurd (omega arith) }; way = here }
      at (inr d) (inr e) ih = record { top = i; is_top = record { first = q; last = r; holds = h; above = λ g. e }; way = here }
      at (inr d) (inl e) ih =
          let w : 1 < i = omega arith in
          let l = links i w r in
          let t = ih (omega (arith, l.1)) l.0 (omega (arith, l.1)) e in
          record { top = t.top; is_top = t.is_top; way = step (linked_from link m i (link i) (inl (record { later = w; within = r; link_is = refl }))) h e t.way }

  pub running_from_tops : OneTop link m clique → Running link m clique
  running_from_tops one x i j p q r s h k =
      let t = climb i x i (omega arith) p q h in
      let u = climb j x j (omega arith) r s k in
      joined_on t.way (subst (λ e. Joined link m clique x e j) (sym (one x t.top u.top t.is_top u.is_top)) (joined_back u.way))

  no_later_top : Running link m clique → (x j k : ℕ) → IsTop link m clique x j → IsTop link m clique x k → j < k → ⊥
  no_later_top running x j k t u h =
      let p : 1 < k = omega (arith, t.first) in
      let l : AreLinked link m k (link k) = inl (record { later = p; within = u.last; link_is = refl }) in
      let n = ends link m k (link k) links l in
      let inside : behind link m k (link k) k ≡ true = behind_from link m k (link k) k n.4 (hop_near link m k (link k) links l) in
      let d : j ≡ k → ⊥ = λ e. omega arith in
      let other : behind link m (link k) k j ≡ true = behind_from link m (link k) k j d (hop_up link m k j h u.last) in
      let c = crossing k (link k) (running x k j u.first u.last t.first t.last u.holds t.holds) l inside (side link m k (link k) j links l t.first t.last ∙ ap not other) in
      both_ways (clique (link k) x) (u.above p) c.1

  pub tops_from_running : Running link m clique → OneTop link m clique
  tops_from_running running x j k t u = at (cases_order j k)
    where
      at : ((j ≡ k) ⊎ ((j < k) ⊎ (k < j))) → j ≡ k
      at (inl e) = e
      at (inr (inl p)) = absurd (no_later_top running x j k t u p)
      at (inr (inr p)) = absurd (no_later_top running x k j u t p)
