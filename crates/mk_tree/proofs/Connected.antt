-- The cliques of a variable are connected exactly where each but the first is linked to one of
-- them.
use Rattle.std.specs.Prelude.{◌≡◌, ℕ, zero, suc, ◌+◌, ◌-◌, ◌<◌, ◌≤◌, length, Bool, true, false, not}
use Rattle.std.specs.Prelude.{◌&&◌, ◌||◌, ◌==◌, ◌⊎◌, count_by}
use Rattle.std.specs.List.{list_all, list_any, range_with_len}
use Rattle.std.proofs.Common.{refl, sym, ap, arith, inl, inr, ◌∙◌}
use Rattle.std.proofs.lemmas.Bool.{cases_eq, cases_lt, cases_Bool, both_ways, and_parts, and_from}
use Rattle.std.proofs.lemmas.Bool.{or_cases, or_left, or_right, eqb-true, leb-true, le-leb}
use Rattle.std.proofs.lemmas.Bool.{not-true, not_from_false, false_from_ne_true, eq-eqb}
use Rattle.mk_tree.specs.Given.{GivenTree, AreLinked, IsConnected, holds, link_of}
use Rattle.mk_tree.specs.Tests.{is_held_before, goes_on, are_connected}
use Rattle.mk_tree.specs.inner.Tops.{is_top, has_one_top}
use Rattle.mk_tree.proofs.Counts.{same_counted, one_counted}
use Rattle.mk_tree.proofs.Tops.{connected_of_one_top, one_top_of_connected}

-- tests of the n numbers from a on
pub all_from : (p : ℕ → Bool) (a n : ℕ) → ((k : ℕ) → a ≤ k → k < a + n → p k ≡ true)
    → list_all p (range_with_len a n) ≡ true
all_from p a zero each = refl
all_from p a (suc n) each =
    and_from (p a) (list_all p (range_with_len (a + 1) n)) (each a (omega arith) (omega arith))
    (all_from p (a + 1) n (λ k low high. each k (omega (arith, low)) (omega (arith, high))))

all_at : (p : ℕ → Bool) (a n k : ℕ) → list_all p (range_with_len a n) ≡ true → a ≤ k → k < a + n
    → p k ≡ true
all_at p a zero k e low high = absurd (omega (arith, low, high))
all_at p a (suc n) k e low high =
    let parts = and_parts (p a) (list_all p (range_with_len (a + 1) n)) e in
    at parts.0 (cases_eq k a) (λ later. all_at p (a + 1) n k parts.1 later (omega (arith, high)))
  where
    at : p a ≡ true → ((k ≡ a) ⊎ (k ≡ a → ⊥)) → (a + 1 ≤ k → p k ≡ true) → p k ≡ true
    at first (inl here) ih = rw here first
    at first (inr other) ih = ih (omega (arith, low, other))

any_from : (p : ℕ → Bool) (a n k : ℕ) → a ≤ k → k < a + n → p k ≡ true
    → list_any p (range_with_len a n) ≡ true
any_from p a zero k low high e = absurd (omega (arith, low, high))
any_from p a (suc n) k low high e = at (cases_eq k a) (λ later. any_from p (a + 1) n k later
    (omega (arith, high)) e)
  where
    at : ((k ≡ a) ⊎ (k ≡ a → ⊥)) → (a + 1 ≤ k → list_any p (range_with_len (a + 1) n) ≡ true)
        → list_any p (range_with_len a (suc n)) ≡ true
    at (inl here) ih = or_left (p a) (list_any p (range_with_len (a + 1) n)) (ap p (sym here) ∙ e)
    at (inr other) ih = or_right (p a) (list_any p (range_with_len (a + 1) n))
        (ih (omega (arith, low, other)))

-- a number of a range that passes
record Passes (p : ℕ → Bool) (a n : ℕ) : Type 0 where
  number : ℕ
  low : a ≤ number
  high : number < a + n
  passes : p number ≡ true

any_at : (p : ℕ → Bool) (a n : ℕ) → list_any p (range_with_len a n) ≡ true → Passes p a n
any_at p a zero e = absurd (cc)
any_at p a (suc n) e = at (or_cases (p a) (list_any p (range_with_len (a + 1) n)) e)
    (any_at p (a + 1) n)
  where
    at : ((p a ≡ true) ⊎ (list_any p (range_with_len (a + 1) n) ≡ true))
        → (list_any p (range_with_len (a + 1) n) ≡ true → Passes p (a + 1) n) → Passes p a (suc n)
    at (inl here) ih = record { number = a; low = omega arith; high = omega arith; passes = here }
    at (inr later) ih =
        let found = ih later in
        record {
          number = found.number;
          low = omega (arith, found.low);
          high = omega
              (arith, found.high);
          passes = found.passes;
        }

-- a clique behind another one of the variable is no top where it goes on
no_later_top : (t : GivenTree) (x j k : ℕ) → 1 ≤ j → j < k → holds t j x ≡ true
    → goes_on t x k ≡ true → is_top t x k ≡ true → ⊥
no_later_top t x j k first later held on top =
    let parts = and_parts (holds t k x) ((k == 1) || not (holds t (link_of t k) x)) top in
    let before : is_held_before t x k ≡ true = any_from (λ (i : ℕ). holds t i x) 1 (k - 1) j first
    (omega (arith, first, later)) held in
    at (and_from (holds t k x) (is_held_before t x k) parts.0 before)
    (or_cases (k == 1) (not (holds t (link_of t k) x)) parts.1)
    (or_cases (not (holds t k x && is_held_before t x k)) (holds t (link_of t k) x) on)
  where
    at : holds t k x && is_held_before t x k ≡ true → (((k == 1) ≡ true) ⊎
        (not (holds t (link_of t k) x) ≡ true))
        → ((not (holds t k x && is_held_before t x k) ≡ true) ⊎ (holds t (link_of t k) x ≡ true))
        → ⊥
    at both above (inl none) = both_ways (holds t k x && is_held_before t x k)
        (not-true (holds t k x && is_held_before t x k) none) both
    at both (inl root) (inr linked) = omega (arith, first, later, eqb-true k 1 root)
    at both (inr lacks) (inr linked) = both_ways (holds t (link_of t k) x)
        (not-true (holds t (link_of t k) x) lacks) linked

one_top_of_test : (t : GivenTree) (x : ℕ) → are_connected t x ≡ true → has_one_top t x ≡ true
one_top_of_test t x e = le-leb (count_by (is_top t x) (range_with_len 1 (length t.cliques))) 1
    (one_counted (is_top t x) 1 (length t.cliques) same)
  where
    held : (k : ℕ) → is_top t x k ≡ true → holds t k x ≡ true
    held k top = (and_parts (holds t k x) ((k == 1) || not (holds t (link_of t k) x)) top).0

    same : (j k : ℕ) → 1 ≤ j → j < 1 + length t.cliques → 1 ≤ k → k < 1 + length t.cliques
        → is_top t x j ≡ true → is_top t x k ≡ true → j ≡ k
    same j k low high low' high' top top' = at (cases_lt j k) (cases_lt k j)
      where
        at : ((j < k) ⊎ (k ≤ j)) → ((k < j) ⊎ (j ≤ k)) → j ≡ k
        at (inl less) other = absurd (no_later_top t x j k low less (held j top)
            (all_at (goes_on t x) 1 (length t.cliques) k e low' high') top')
        at (inr more) (inl less) = absurd (no_later_top t x k j low' less (held k top')
            (all_at (goes_on t x) 1 (length t.cliques) j e low high) top)
        at (inr more) (inr most) = omega (arith, more, most)

-- a top at a clique of the variable or before it
record HasTop (t : GivenTree) (x j : ℕ) : Type 0 where
  place : ℕ
  low : 1 ≤ place
  high : place ≤ j
  top : is_top t x place ≡ true

top_at : (t : GivenTree) → AreLinked t → (x n j : ℕ) → j ≤ n → 1 ≤ j → j ≤ length t.cliques
    → holds t j x ≡ true → HasTop t x j
top_at t linked x zero j few low high held = absurd (omega (arith, few, low))
top_at t linked x (suc n) j few low high held = at (cases_eq j 1)
    (cases_Bool (holds t (link_of t j) x)) (top_at t linked x n (link_of t j))
  where
    here : ((j == 1) || not (holds t (link_of t j) x)) ≡ true → HasTop t x j
    here e = record {
      place = j;
      low = low;
      high = omega arith;
      top = and_from (holds t j x)
          ((j == 1) || not (holds t (link_of t j) x)) held e;
    }

    at : ((j ≡ 1) ⊎ (j ≡ 1 → ⊥)) → ((holds t (link_of t j) x ≡ true) ⊎
        (holds t (link_of t j) x ≡ false))
        → (link_of t j ≤ n → 1 ≤ link_of t j → link_of t j ≤ length t.cliques
        → holds t (link_of t j) x ≡ true → HasTop t x (link_of t j)) → HasTop t x j
    at (inl root) other ih = here (or_left (j == 1) (not (holds t (link_of t j) x))
        (eq-eqb j 1 root))
    at (inr later) (inr lacks) ih = here (or_right (j == 1) (not (holds t (link_of t j) x))
        (not_from_false (holds t (link_of t j) x) lacks))
    at (inr later) (inl holds_too) ih =
        let link = linked.earlier j (omega (arith, low, later)) high in
        let found = ih (omega (arith, few, link.1)) link.0
        (omega (arith, high, link.1)) holds_too in
        record {
          place = found.place;
          low = found.low;
          high = omega
              (arith, found.high, link.1);
          top = found.top;
        }

-- a clique behind the first that goes on to none has a top of its own
no_way : (t : GivenTree) → AreLinked t → (x k : ℕ) → has_one_top t x ≡ true → 1 ≤ k
    → k ≤ length t.cliques
    → holds t k x && is_held_before t x k ≡ true → holds t (link_of t k) x ≡ false → ⊥
no_way t linked x k e low high later lacks =
    let few = leb-true (count_by (is_top t x) (range_with_len 1 (length t.cliques))) 1 e in
    let parts = and_parts (holds t k x) (is_held_before t x k) later in
    let before = any_at (λ (j : ℕ). holds t j x) 1 (k - 1) parts.1 in
    let first = top_at t linked x before.number before.number (omega arith) before.low
    (omega (arith, low, high, before.high)) before.passes in
    let own : is_top t x k ≡ true = and_from (holds t k x)
    ((k == 1) || not (holds t (link_of t k) x)) parts.0
    (or_right (k == 1) (not (holds t (link_of t k) x)) (not_from_false
    (holds t (link_of t k) x) lacks)) in
    let same = same_counted (is_top t x) 1 (length t.cliques) few first.place k first.low
    (omega (arith, first.high, before.high, low, high)) low
    (omega (arith, high)) first.top own in
    omega (arith, same, first.high, before.high, low)

test_of_one_top : (t : GivenTree) → AreLinked t → (x : ℕ) → has_one_top t x ≡ true
    → are_connected t x ≡ true
test_of_one_top t linked x e = all_from (goes_on t x) 1 (length t.cliques) (λ k low high.
    at k low (omega (arith, high)) (cases_Bool (holds t k x && is_held_before t x k))
    (cases_Bool (holds t (link_of t k) x)))
  where
    at : (k : ℕ) → 1 ≤ k → k ≤ length t.cliques
        → ((holds t k x && is_held_before t x k ≡ true) ⊎
        (holds t k x && is_held_before t x k ≡ false))
        → ((holds t (link_of t k) x ≡ true) ⊎ (holds t (link_of t k) x ≡ false))
        → goes_on t x k ≡ true
    at k low high (inr none) other = or_left (not (holds t k x && is_held_before t x k))
        (holds t (link_of t k) x) (not_from_false (holds t k x && is_held_before t x k) none)
    at k low high (inl later) (inl linked_to) = or_right
        (not (holds t k x && is_held_before t x k)) (holds t (link_of t k) x) linked_to
    at k low high (inl later) (inr lacks) = absurd (no_way t linked x k e low high later lacks)

-- the test passes exactly where there is at most one top
pub same_test : (t : GivenTree) → AreLinked t → (x : ℕ) → has_one_top t x ≡ are_connected t x
same_test t linked x = at (cases_Bool (has_one_top t x))
  where
    at : ((has_one_top t x ≡ true) ⊎ (has_one_top t x ≡ false))
        → has_one_top t x ≡ are_connected t x
    at (inl one) = one ∙ sym (test_of_one_top t linked x one)
    at (inr more) = more ∙ sym (false_from_ne_true (are_connected t x)
        (λ e. both_ways (has_one_top t x) more (one_top_of_test t x e)))

pub connected_of_test : (t : GivenTree) → AreLinked t → (x : ℕ) → are_connected t x ≡ true
    → IsConnected t x
connected_of_test t linked x e = connected_of_one_top t linked x (one_top_of_test t x e)

pub test_of_connected : (t : GivenTree) → AreLinked t → (x : ℕ) → IsConnected t x
    → are_connected t x ≡ true
test_of_connected t linked x connected = test_of_one_top t linked x
    (one_top_of_connected t linked x connected)

-- where no clique holds a variable, its cliques are connected
pub connected_where_none : (t : GivenTree) (x : ℕ) → ((k : ℕ) → 1 ≤ k → k < 1 + length t.cliques
    → holds t k x ≡ true → ⊥) → are_connected t x ≡ true
connected_where_none t x none = all_from (goes_on t x) 1 (length t.cliques) (λ k low high.
    or_left (not (holds t k x && is_held_before t x k)) (holds t (link_of t k) x)
    (not_from_false (holds t k x && is_held_before t x k)
    (false_from_ne_true (holds t k x && is_held_before t x k) (λ e.
    none k low high ((and_parts (holds t k x) (is_held_before t x k) e).0)))))
