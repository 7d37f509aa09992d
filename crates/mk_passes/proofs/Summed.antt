-- What stands, run by run, and the plus of runs.
use Rattle.std.proofs.Common.{◌≡◌, ℕ, zero, suc, ◌+◌, ◌-◌, ◌*◌, ◌<◌, ◌≤◌, List, length, take, drop, slice_index, All, refl, sym, ap, subst, ◌∙◌, arith}
use Rattle.std.specs.List.{range_with_len}
use Rattle.std.proofs.Math.Nat.{mul-le-mul}
use Rattle.std.proofs.lemmas.List.{get_or-take, get_or-drop, length-take, length-drop, take_all}
use Rattle.mk_states.specs.Lawful.{Lawful}
use Rattle.mk_states.specs.States.{plus_over}
use Rattle.mk_states.proofs.Sums.{plus_over-flat_map}
use Rattle.mk_cell.specs.Passes.{plus_below}
use Rattle.mk_cell.specs.inner.Laws.{stands_with_more}
use Rattle.mk_cell.specs.Cell.{AllStand, AreCells, IsCell, StandsAt}
use Rattle.mk_passes.specs.Parts.{HaveRoom, StandListed, block_of}
use Rattle.mk_scope.proofs.Runs.{by_runs, of_runs, runs_single}
use Rattle.mk_scope.specs.Runs.{runs_of}
use Rattle.mk_scope.proofs.Members.{range_more}
use Rattle.mk_passes.proofs.Blocked.{is_plus, plus_over_push, block_within}

-- ---- the plus of runs

module _ (plus : ℕ → ℕ → ℕ) (law : Lawful plus) where
  -- the plus of the plus of each run
  pub plus_of_runs : (f : ℕ → ℕ) (run : ℕ) (xs : List ℕ) → plus_over plus 0 (λ c. plus_over plus 0 f (range_with_len c run)) xs ≡ plus_over plus 0 f (runs_of run xs)
  plus_of_runs f run xs = sym (plus_over-flat_map plus 0 (is_plus plus law) f (λ c. range_with_len c run) xs)

  pub plus_side_by_side : (f : ℕ → ℕ) (first run : ℕ) → plus_below plus run (λ i. f (first + i)) ≡ plus_over plus 0 f (range_with_len first run)
  plus_side_by_side f first zero = refl
  plus_side_by_side f first (suc run) =
      ap (λ n. plus n (f (first + run))) (plus_side_by_side f first run) ∙ plus_over_push plus law f (range_with_len first run) (first + run) ∙ ap (plus_over plus 0 f) (sym (range_more first run))

pub plus_moved : (plus : ℕ → ℕ → ℕ) (f : ℕ → ℕ) (base o run : ℕ) → plus_over plus 0 f (range_with_len (base + o) run) ≡ plus_over plus 0 (λ c. f (base + c)) (range_with_len o run)
plus_moved plus f base o zero = refl
plus_moved plus f base o (suc run) =
    let e : base + o + 1 ≡ base + (o + 1) = omega arith in
    ap (plus (f (base + o))) (ap (λ k. plus_over plus 0 f (range_with_len k run)) e ∙ plus_moved plus f base (o + 1) run)

-- ---- what stands, run by run

pub listed_run : (k : ℕ) (d e : List ℕ) (f : ℕ → ℕ) (n base run : ℕ) (offsets : List ℕ) → StandListed k d e f n base (runs_of run offsets) → (b : ℕ) → b < length offsets
    → (i : ℕ) → i < run → StandsAt k (slice_index d (base + slice_index offsets b + i)) (slice_index e (base + slice_index offsets b + i)) (f (base + slice_index offsets b + i)) n
listed_run k d e f n base run offsets a b l i m =
    let s : base + (slice_index offsets b + i) ≡ base + slice_index offsets b + i = omega arith in
    subst (λ c. StandsAt k (slice_index d c) (slice_index e c) (f c) n) s
    (by_runs (λ c. StandsAt k (slice_index d (base + c)) (slice_index e (base + c)) (f (base + c)) n) run offsets a.listed b 0 l i m)

pub block_runs : (P : ℕ → Type 0) (run : ℕ) (xs : List ℕ) (b : ℕ) → All P (runs_of run xs) → All P (runs_of run (block_of xs b))
block_runs P run xs b h = of_runs P run (block_of xs b) (block_within (λ c. (i : ℕ) → i < run → P (c + i)) xs b (by_runs P run xs h))

pub block_runs_listed : (k : ℕ) (d e : List ℕ) (f : ℕ → ℕ) (n base run : ℕ) (xs : List ℕ) (b : ℕ) → StandListed k d e f n base (runs_of run xs) → StandListed k d e f n base (runs_of run (block_of xs b))
block_runs_listed k d e f n base run xs b a = record {
  listed = block_runs (λ c. StandsAt k (slice_index d (base + c)) (slice_index e (base + c)) (f (base + c)) n) run xs b a.listed;
}

slice_at : (xs : List ℕ) (first run i : ℕ) → i < run → slice_index (take (first + run - first) (drop first xs)) i ≡ slice_index xs (first + i)
slice_at xs first run i l = get_or-take (first + run - first) (drop first xs) i 0 (omega (arith, l)) ∙ get_or-drop first xs i 0

pub slice_long : (xs : List ℕ) (first run : ℕ) → first + run ≤ length xs → length (take (first + run - first) (drop first xs)) ≡ run
slice_long xs first run l = let a = length-take (first + run - first) (drop first xs) in let d = length-drop first xs in omega (arith, a, d, l)

pub slice_stand : (k : ℕ) (d e : List ℕ) (f : ℕ → ℕ) (n first run : ℕ) → first + run ≤ length d
    → ((i : ℕ) → i < run → StandsAt k (slice_index d (first + i)) (slice_index e (first + i)) (f (first + i)) n)
    → AllStand k (take (first + run - first) (drop first d)) (take (first + run - first) (drop first e)) (λ i. f (first + i)) n
slice_stand k d e f n first run l h = record {
  each = λ i m.
      let p : i < run = let s = slice_long d first run l in omega (arith, m, s) in
      subst (λ y. StandsAt k y (slice_index (take (first + run - first) (drop first e)) i) (f (first + i)) n) (sym (slice_at d first run i p))
      (subst (λ y. StandsAt k (slice_index d (first + i)) y (f (first + i)) n) (sym (slice_at e first run i p)) (h i p));
}

pub slice_cells : (d e : List ℕ) (first run : ℕ) → first + run ≤ length d → AreCells d e → AreCells (take (first + run - first) (drop first d)) (take (first + run - first) (drop first e))
slice_cells d e first run l a = record {
  same_length = let s = a.same_length in slice_long e first run (omega (arith, l, s)) ∙ sym (slice_long d first run l);
  each = λ i m.
      let p : i < run = let s = slice_long d first run l in omega (arith, m, s) in
      subst (λ y. IsCell y (slice_index (take (first + run - first) (drop first e)) i)) (sym (slice_at d first run i p))
      (subst (λ y. IsCell (slice_index d (first + i)) y) (sym (slice_at e first run i p)) (a.each (first + i) (omega (arith, l, p))));
}

-- ---- the steps

-- fewer runs have room where more have
pub less_room : (k more less : ℕ) (d e : List ℕ) → less ≤ more → HaveRoom k d e more → HaveRoom k d e less
less_room k more less d e l room = record {
  same_length = room.same_length;
  numbers = room.numbers;
  steps = room.steps;
  stand = room.stand;
  few_steps = let f = room.few_steps in omega (arith, f, l);
  small_shift = room.small_shift;
}

pub block_runs_few : (run a b : ℕ) → a ≤ b → a * run ≤ b * run
block_runs_few run a b l = let t : run ≤ run = omega arith in mul-le-mul l t

-- one step for each run and one for each cell are not too many
pub steps_of_runs : (run r : ℕ) → 2 ≤ run → r * run + r ≤ r * (2 * run - 1)
steps_of_runs run r l =
    let t : r ≤ r = omega arith in
    let u : run + 1 ≤ 2 * run - 1 = omega (arith, l) in
    let m : r * (run + 1) ≤ r * (2 * run - 1) = mul-le-mul t u in
    omega (arith, m)

pub steps_of_blocks : (run r blocks : ℕ) → 1 ≤ run → blocks < r → r * (2 * run - 1) + blocks ≤ 2 * (r * run) - 1
steps_of_blocks run r blocks l h =
    let e : 2 * run - 1 + 1 ≡ 2 * run = omega (arith, l) in
    let f : r * (2 * run - 1 + 1) ≡ r * (2 * run) = ap (λ n. r * n) e in
    omega (arith, f, h)

pub steps_of_list : (run r : ℕ) → 1 ≤ run → r * (2 * run - 1) ≤ 2 * (r * run) - 1
steps_of_list run zero l = omega arith
steps_of_list run (suc r) l = let s = steps_of_blocks run (suc r) 0 l (omega arith) in omega (arith, s)

pub more_runs_steps : (run a b : ℕ) → a ≤ b → a * (2 * run - 1) ≤ b * (2 * run - 1)
more_runs_steps run a b l = block_runs_few (2 * run - 1) a b l

-- ---- single cells

-- so many single cells
pub few_cells : (plus : ℕ → ℕ → ℕ) (run count base : ℕ) (xs d e : List ℕ) (q x : ℕ) → run ≡ 1 → length xs ≡ count → 1 ≤ count
    → ((k : ℕ) (f : ℕ → ℕ) (n : ℕ) → StandListed k d e f n base (take count xs) → StandsAt k q x (plus_over plus 0 (λ c. f (base + c)) (take count xs)) (n + length (take count xs)))
    → (k : ℕ) (f : ℕ → ℕ) (n : ℕ) → StandListed k d e f n base (runs_of run xs) → StandsAt k q x (plus_over plus 0 (λ c. f (base + c)) (runs_of run xs)) (n + (2 * length (runs_of run xs) - 1))
few_cells plus run count base xs d e q x one long some h k f n a =
    let all : take count xs ≡ xs = take_all count xs (omega (arith, long)) in
    let runs : runs_of run xs ≡ xs = ap (λ r. runs_of r xs) one ∙ runs_single xs in
    let made : StandsAt k q x (plus_over plus 0 (λ c. f (base + c)) xs) (n + length xs) =
    subst (λ (ys : List ℕ). StandListed k d e f n base ys → StandsAt k q x (plus_over plus 0 (λ c. f (base + c)) ys) (n + length ys)) all (h k f n)
    (subst (λ (ys : List ℕ). StandListed k d e f n base ys) runs a) in
    subst (λ (ys : List ℕ). StandsAt k q x (plus_over plus 0 (λ c. f (base + c)) ys) (n + (2 * length ys - 1))) (sym runs)
    (stands_with_more k q x (plus_over plus 0 (λ c. f (base + c)) xs) (n + length xs) (n + (2 * length xs - 1)) (omega (arith, long, some)) made)
