-- How many messages a belief makes.
use Rattle.std.proofs.Common.{◌≡◌, ℕ, suc, zero, ◌≤◌, Bool, true, false, cond, not, ◌&&◌, ◌||◌, eqb, length, refl, ap, ◌∙◌, arith}
use Rattle.std.proofs.lemmas.Bool.{not-true, both_ways, eq-eqb}
use Rattle.mk_sums.specs.Trees.{sum_of}
use Rattle.mk_sums.proofs.Stale as stale
use Rattle.mk_sums.proofs.Ways as ways
use Rattle.mk_tree.specs.Given.{link_of}
use Rattle.mk_plan.specs.Shapes.{ShapeOf, next_on_way, is_behind}
use Rattle.mk_tree_engine.specs.Engines.{is_stale}
use Rattle.mk_tree_engine.specs.Laws.{OnePerSeparator, StaleBetween}
use Rattle.mk_tree_engine.proofs.Sums.{sum_same, ones_but, zero_each}

at_most_one : (b : Bool) → cond b 1 0 ≤ 1
at_most_one true = omega arith
at_most_one false = omega arith

pub one_per_separator : OnePerSeparator
one_per_separator e c linked at_c =
    ones_but (length e.flow.shape.tree.cliques) c (λ k. cond (is_stale e k (next_on_way e.flow.shape.tree k c)) 1 0)
    (λ k. at_most_one (is_stale e k (next_on_way e.flow.shape.tree k c))) at_c.first at_c.last

sum_where : (s t : ℕ → Bool) (m : ℕ) → sum_of s m (λ k. cond (t k) 1 0) ≡ sum_of (λ k. s k && t k) m (λ k. 1)
sum_where s t zero = refl
sum_where s t (suc n) = let ih = sum_where s t n in let e = at (s (suc n)) (t (suc n)) in omega (arith, ih, e)
  where
    at : (a b : Bool) → ◌≡◌ {A = ℕ} (cond a (cond b 1 0) 0) (cond (a && b) 1 0)
    at true b = refl
    at false b = refl

none_zero : (b : Bool) → ◌≡◌ {A = ℕ} (cond b 1 0) 0 → b ≡ false
none_zero true h = absurd (omega arith)
none_zero false h = refl

pub stale_between : StaleBetween
stale_between old new b c linked at_b at_c same zero_before away =
    let tree = old.flow.shape.tree in let m = length tree.cliques in
    ap (λ (s : ShapeOf). sum_of (λ k. not (eqb k c)) (length s.tree.cliques) (λ k. cond (is_stale new k (next_on_way s.tree k c)) 1 0)) same
    ∙ sum_same (λ k. not (eqb k c)) m (λ k. cond (is_stale new k (next_on_way tree k c)) 1 0) (λ k. cond (is_behind tree k (next_on_way tree k c) b) 1 0)
    (λ k p q d. ap {B = ℕ} (λ t. cond t 1 0) (each k p q d))
    ∙ sum_where (λ k. not (eqb k c)) (λ k. is_behind tree k (next_on_way tree k c) b) m
    ∙ (ways.stale_on_way (link_of tree) m linked.earlier c at_c.first at_c.last b at_b.first at_b.last).2
  where
    each : (k : ℕ) → 1 ≤ k → k ≤ length old.flow.shape.tree.cliques → not (eqb k c) ≡ true
        → is_stale new k (next_on_way old.flow.shape.tree k c) ≡ is_behind old.flow.shape.tree k (next_on_way old.flow.shape.tree k c) b
    each k p q d =
        let tree = old.flow.shape.tree in let m = length tree.cliques in let n = next_on_way tree k c in
        let apart : k ≡ c → ⊥ = λ e. both_ways (eqb k c) (not-true (eqb k c) d) (eq-eqb k c e) in
        let l = (stale.leads_towards (link_of tree) m linked.earlier c k at_c.first at_c.last p q apart).0 in
        let was = none_zero (is_stale old k n) (zero_each (λ j. not (eqb j c)) m (λ j. cond (is_stale old j (next_on_way tree j c)) 1 0) zero_before k p q d) in
        away k n l ∙ ap (λ t. t || is_behind tree k n b) was
