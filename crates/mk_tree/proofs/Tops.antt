-- A variable has at most one top exactly where its cliques are connected.
use Rattle.std.specs.Prelude.{◌≡◌, ℕ, ◌<◌, ◌≤◌, length, Bool, true, false, not, ◌&&◌, ◌||◌, ◌==◌, ◌⊎◌, count_by}
use Rattle.std.specs.List.{range_with_len}
use Rattle.std.proofs.Common.{refl, arith, inl, inr}
use Rattle.std.proofs.lemmas.Bool.{cases_eq, both_ways, and_parts, and_from, and_right, or_cases, or_left, or_right, eq-eqb, eqb-true, leb-true, le-leb, not-true, not_from_false, false_from_ne_true}
use Rattle.mk_sums.specs.Trees.{linked, Joined, here, step, Running, IsTop, OneTop}
use Rattle.mk_sums.proofs.Sides.{tops_from_running, running_from_tops}
use Rattle.mk_tree.specs.Given.{GivenTree, AreLinked, IsConnected, holds, link_of}
use Rattle.mk_tree.specs.inner.Tops.{is_top, has_one_top}
use Rattle.mk_tree.proofs.Counts.{same_counted, one_counted}

-- the cliques as they hold one variable alone
abbrev pub alone : GivenTree → ℕ → ℕ → ℕ → Bool
alone t x k y = (y == x) && holds t k x

pub alone_holds : (t : GivenTree) (x k : ℕ) → holds t k x ≡ true → alone t x k x ≡ true
alone_holds t x k e = and_from (x == x) (holds t k x) (eq-eqb x x refl) e

pub holds_alone : (t : GivenTree) (x k y : ℕ) → alone t x k y ≡ true → holds t k x ≡ true
holds_alone t x k y e = (and_parts (y == x) (holds t k x) e).1

-- a way through cliques that hold a variable, said of other cliques
along : {link : ℕ → ℕ} {m : ℕ} {clique other : ℕ → ℕ → Bool} {x y i j : ℕ}
    → ((k : ℕ) → clique k x ≡ true → other k y ≡ true) → Joined link m clique x i j → Joined link m other y i j
along so here = here
along so (step {i = i} {j = j} near e e' rest) = step near (so i e) (so j e') (along so rest)

connected_of_running : (t : GivenTree) (x : ℕ) → Running (link_of t) (length t.cliques) (alone t x) → IsConnected t x
connected_of_running t x running i j p q r s e e' =
    along (λ k. holds_alone t x k x) (running x i j p q r s (alone_holds t x i e) (alone_holds t x j e'))

running_of_connected : (t : GivenTree) (x : ℕ) → IsConnected t x → Running (link_of t) (length t.cliques) (alone t x)
running_of_connected t x connected y i j p q r s e e' =
    let same : y ≡ x = eqb-true y x ((and_parts (y == x) (holds t i x) e).0) in
    along (λ k h. and_from (y == x) (holds t k x) (eq-eqb y x same) h) (connected i j p q r s (holds_alone t x i y e) (holds_alone t x j y e'))

-- tops as tests
top_of_test : (t : GivenTree) (x k : ℕ) → 1 ≤ k → k ≤ length t.cliques → is_top t x k ≡ true → IsTop (link_of t) (length t.cliques) (alone t x) x k
top_of_test t x k p q e =
    let parts = and_parts (holds t k x) ((k == 1) || not (holds t (link_of t k) x)) e in
    record {
      first = p;
      last = q;
      holds = alone_holds t x k parts.0;
      above = λ later. at later (or_cases (k == 1) (not (holds t (link_of t k) x)) parts.1);
    }
  where
    at : 1 < k → (((k == 1) ≡ true) ⊎ (not (holds t (link_of t k) x) ≡ true)) → alone t x (link_of t k) x ≡ false
    at later (inl root) = absurd (let same : k ≡ 1 = eqb-true k 1 root in omega (arith, later, same))
    at later (inr lacks) = and_right (x == x) (holds t (link_of t k) x) (not-true (holds t (link_of t k) x) lacks)

test_of_top : (t : GivenTree) (x y k : ℕ) → IsTop (link_of t) (length t.cliques) (alone t x) y k → is_top t x k ≡ true
test_of_top t x y k top = and_from (holds t k x) ((k == 1) || not (holds t (link_of t k) x)) (holds_alone t x k y top.holds) (at (cases_eq k 1))
  where
    at : ((k ≡ 1) ⊎ (k ≡ 1 → ⊥)) → ((k == 1) || not (holds t (link_of t k) x)) ≡ true
    at (inl root) = or_left (k == 1) (not (holds t (link_of t k) x)) (eq-eqb k 1 root)
    at (inr other) = or_right (k == 1) (not (holds t (link_of t k) x)) (not_from_false (holds t (link_of t k) x) (false_from_ne_true (holds t (link_of t k) x) (λ e.
        both_ways (alone t x (link_of t k) y) (top.above (omega (arith, top.first, other)))
        (and_from (y == x) (holds t (link_of t k) x) ((and_parts (y == x) (holds t k x) top.holds).0) e))))

pub connected_of_one_top : (t : GivenTree) → AreLinked t → (x : ℕ) → has_one_top t x ≡ true → IsConnected t x
connected_of_one_top t linked x e =
    let few = leb-true (count_by (is_top t x) (range_with_len 1 (length t.cliques))) 1 e in
    let one : OneTop (link_of t) (length t.cliques) (alone t x) = (λ y j k top top'.
    same_counted (is_top t x) 1 (length t.cliques) few j k top.first (omega (arith, top.last)) top'.first (omega (arith, top'.last))
    (test_of_top t x y j top) (test_of_top t x y k top')) in
    connected_of_running t x (running_from_tops (link_of t) (length t.cliques) (alone t x) linked.earlier one)

pub one_top_of_connected : (t : GivenTree) → AreLinked t → (x : ℕ) → IsConnected t x → has_one_top t x ≡ true
one_top_of_connected t linked x connected =
    let one = tops_from_running (link_of t) (length t.cliques) (alone t x) linked.earlier (running_of_connected t x connected) in
    le-leb (count_by (is_top t x) (range_with_len 1 (length t.cliques))) 1 (one_counted (is_top t x) 1 (length t.cliques) (λ j k p q r s e e'.
    one x j k (top_of_test t x j p (omega (arith, q)) e) (top_of_test t x k r (omega (arith, s)) e')))
