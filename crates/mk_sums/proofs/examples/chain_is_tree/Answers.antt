use Rattle.std.proofs.Common.{◌≡◌, ℕ, suc, zero, ◌+◌, ◌-◌, ◌*◌, ◌<◌, ◌≤◌, true, ◌⊎◌, inl, inr, eqb, refl, sym, ap, ◌∙◌, arith}
use Rattle.std.proofs.lemmas.Bool.{cases_eq, or_cases, or_parts, eqb-true, eqb-false}
use Rattle.mk_sums.specs.Sums.{Within}
use Rattle.mk_sums.specs.Trees.{Links, IsTop}
use Rattle.mk_sums.specs.Examples.{chain_link, chain_clique, chain_placed}
use Rattle.mk_sums.proofs.Sides.{running_from_tops}
use Rattle.mk_sums.proofs.examples.chain_is_tree.Goals as goal

links : Links chain_link 3
links k p q = (omega arith, omega arith)

-- the top of x is the first clique, or clique x
where_top : (x k : ℕ) → IsTop chain_link 3 chain_clique x k → ((k ≡ 1) × (x ≤ 1)) ⊎ ((1 < k) × (k ≡ x))
where_top x k t = at (cases_eq k 1) (or_cases (eqb (x + 1) k) (eqb x k) t.holds)
  where
    at : ((k ≡ 1) ⊎ (k ≡ 1 → ⊥)) → ((eqb (x + 1) k ≡ true) ⊎ (eqb x k ≡ true)) → ((k ≡ 1) × (x ≤ 1)) ⊎ ((1 < k) × (k ≡ x))
    at (inl e) (inl p) = inl (e, omega (arith, eqb-true (x + 1) k p))
    at (inl e) (inr p) = inl (e, omega (arith, eqb-true x k p))
    at (inr d) (inr p) = let q : 1 < k = omega (arith, t.first) in inr (q, sym (eqb-true x k p))
    at (inr d) (inl p) =
        let q : 1 < k = omega (arith, t.first) in
        let r = or_parts (eqb (x + 1) (k - 1)) (eqb x (k - 1)) (t.above q) in
        absurd (eqb-false x (k - 1) r.1 (omega (arith, eqb-true (x + 1) k p)))

one : (x j k : ℕ) → IsTop chain_link 3 chain_clique x j → IsTop chain_link 3 chain_clique x k → j ≡ k
one x j k t u = at (where_top x j t) (where_top x k u)
  where
    at : (((j ≡ 1) × (x ≤ 1)) ⊎ ((1 < j) × (j ≡ x))) → (((k ≡ 1) × (x ≤ 1)) ⊎ ((1 < k) × (k ≡ x))) → j ≡ k
    at (inl p) (inl q) = p.0 ∙ sym q.0
    at (inl p) (inr q) = absurd (omega (arith, p.1, q.0, q.1))
    at (inr p) (inl q) = absurd (omega (arith, q.1, p.0, p.1))
    at (inr p) (inr q) = p.1 ∙ sym q.1

fits : (k : ℕ) → 1 ≤ k → k ≤ 3 → Within (chain_clique k) (chain_placed k)
fits zero p q a b e = absurd (omega arith)
fits (suc zero) p q a b e = ap (λ v. 1 + v + 2 * a 1) (e 0 refl) ∙ ap (λ v. 1 + b 0 + 2 * v) (e 1 refl)
fits (suc (suc zero)) p q a b e = ap (λ v. 1 + 3 * v * a 2) (e 1 refl) ∙ ap (λ v. 1 + 3 * b 1 * v) (e 2 refl)
fits (suc (suc (suc zero))) p q a b e = ap (λ v. 2 + v + 4 * a 3) (e 2 refl) ∙ ap (λ v. 2 + b 2 + 4 * v) (e 3 refl)
fits (suc (suc (suc (suc k)))) p q a b e = absurd (omega arith)

pub returns : goal.returns
returns c = record { links = links; running = running_from_tops chain_link 3 chain_clique links one; fits = fits }
