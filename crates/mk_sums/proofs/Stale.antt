-- What a change of one clique leaves right, and which messages lead towards a clique.
use Rattle.std.proofs.Common.{◌≡◌, ◌≢◌, ℕ, suc, zero, ◌*◌, ◌≤◌, Bool, true, false, cond, not, ◌&&◌, eqb, List, refl, sym, ap, ◌∙◌, arith, eq-eqb}
use Rattle.std.proofs.Math.Path.{fun_ext}
use Rattle.std.proofs.lemmas.Bool.{both_ways, and_parts, false_from_ne_true}
use Rattle.mk_sums.specs.Sums.{over}
use Rattle.mk_sums.specs.Trees.{times_of, held, Links, linked, hop, behind, right_message, linked_but, towards}
use Rattle.mk_sums.proofs.Hops.{AreLinked, are_linked, linked_from, linked_back, hop_linked, behind_parts, behind_from, side}

times_same : (set : ℕ → Bool) (m : ℕ) (before after : ℕ → (ℕ → ℕ) → ℕ) (s : ℕ → ℕ) → ((j : ℕ) → 1 ≤ j → j ≤ m → set j ≡ true → before j s ≡ after j s) → times_of set m before s ≡ times_of set m after s
times_same set zero before after s h = refl
times_same set (suc k) before after s h =
    ap (λ n. n * cond (set (suc k)) (before (suc k) s) 1) (times_same set k before after s (λ j p q. h j p (omega arith)))
    ∙ ap (λ n. times_of set k after s * n) (at (set (suc k)) refl)
  where
    at : (b : Bool) → set (suc k) ≡ b → cond b (before (suc k) s) 1 ≡ cond b (after (suc k) s) 1
    at true e = h (suc k) (omega arith) (omega arith) e
    at false e = refl

pub change_leaves : (plus : ℕ → ℕ → ℕ) (size : ℕ → ℕ) (vars : List ℕ) (clique : ℕ → ℕ → Bool) (before after : ℕ → (ℕ → ℕ) → ℕ) (link : ℕ → ℕ) (m changed : ℕ)
    → ((j : ℕ) → 1 ≤ j → j ≤ m → j ≢ changed → (s : ℕ → ℕ) → before j s ≡ after j s)
    → (c a : ℕ) → behind link m c a changed ≡ false → (s : ℕ → ℕ)
    → right_message plus size vars clique before link m c a s ≡ right_message plus size vars clique after link m c a s
change_leaves plus size vars clique before after link m changed same c a h s =
    ap (λ (g : (ℕ → ℕ) → ℕ). over plus size (λ x. held (behind link m c a) m clique x && not (clique c x && clique a x)) vars g s)
    (fun_ext (λ t. times_same (behind link m c a) m before after t (λ j p q e. same j p q (λ f. both_ways (behind link m c a j) (ap (behind link m c a) f ∙ h) e) t)))

module _ (link : ℕ → ℕ) (m : ℕ) (links : Links link m) where
  pub leads_towards : (c k : ℕ) → 1 ≤ c → c ≤ m → 1 ≤ k → k ≤ m → k ≢ c
      → (linked link m k (towards link m c k) ≡ true)
      × (behind link m k (towards link m c k) c ≡ false)
      × ((b : ℕ) → linked link m k b ≡ true → behind link m k b c ≡ false → b ≡ towards link m c k)
  leads_towards c k p q r s d =
      let l : AreLinked link m (hop link m k c) k = hop_linked link m k c links r s p q (λ e. d (sym e)) in
      let back : AreLinked link m k (hop link m k c) = linked_back link m (hop link m k c) k l in (
        linked_from link m k (hop link m k c) back,
        side link m k (hop link m k c) c links back p q ∙ ap not (behind_from link m (hop link m k c) k c (λ e. d (sym e)) refl),
        λ b h f. only b h f,
      )
    where
      only : (b : ℕ) → linked link m k b ≡ true → behind link m k b c ≡ false → b ≡ hop link m k c
      only b h f =
          let l = are_linked link m k b h in
          let e : behind link m b k c ≡ true = side link m b k c links (linked_back link m k b l) p q ∙ ap not f in
          sym ((behind_parts link m b k c e).1)

  pub collects_in_order : (c k i : ℕ) → 1 ≤ c → c ≤ m → 1 ≤ k → k ≤ m → k ≢ c → linked_but link m k (towards link m c k) i ≡ true → (i ≢ c) × (towards link m c i ≡ k)
  collects_in_order c k i p q r s d h =
      let parts = and_parts (linked link m i k) (not (eqb i (towards link m c k))) h in
      let l : AreLinked link m i k = are_linked link m i k parts.0 in
      let f : behind link m i k c ≡ false = false_from_ne_true (behind link m i k c) (λ e. other parts.1 ((behind_parts link m i k c e).1)) in
      let e : behind link m k i c ≡ true = side link m k i c links (linked_back link m i k l) p q ∙ ap not f in
      let b = behind_parts link m k i c e in
      (λ g. b.0 (sym g), b.1)
    where
      other : not (eqb i (hop link m k c)) ≡ true → hop link m k c ≡ i → ⊥
      other n e = both_ways (not (eqb i (hop link m k c))) (ap not (eq-eqb i (hop link m k c) (sym e))) n
