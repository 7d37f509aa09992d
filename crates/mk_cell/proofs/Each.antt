-- A table of cells of which some are multiplied so far.
use Rattle.std.proofs.Common.{◌≡◌, ◌≢◌, ℕ, ◌+◌, ◌*◌, ◌^◌, ◌<◌, ◌≤◌, List, length, slice_index, slice_set, arith, ◌∙◌, ⊎_elim, get_or-set_other, get_or-set_same}
use Rattle.std.proofs.Math.ListN.{length-set}
use Rattle.std.proofs.lemmas.Bool.{cases_lt}
use Rattle.mk_cell.specs.Cell.{IsRounded, AllStand}
use Rattle.mk_cell.proofs.Standing.{times_stands}

-- the product of the cells at a place
abbrev pub product_at : (digits exponents others places : List ℕ) → ℕ → ℕ
product_at digits exponents others places c = slice_index digits c * slice_index others c * 2 ^ (slice_index exponents c + slice_index places c)

pub record EachSoFar (i : ℕ) (before places_before others places after places_after : List ℕ) : Type 0 where
  pub digits_length : length after ≡ length before
  pub exponents_length : length places_after ≡ length places_before
  pub done : (c : ℕ) → c < i → IsRounded (slice_index after c) (slice_index places_after c) (product_at before places_before others places c)
  pub digits_left : (c : ℕ) → i ≤ c → slice_index after c ≡ slice_index before c
  pub exponents_left : (c : ℕ) → i ≤ c → slice_index places_after c ≡ slice_index places_before c

same_at : (xs : List ℕ) (i v : ℕ) → i < length xs → slice_index (slice_set xs i v) i ≡ v
same_at xs i v h = rw get_or-set_same (refl_of v)
  where
    refl_of : (a : ℕ) → a ≡ a
    refl_of a = omega arith

other_at : (xs : List ℕ) (i c v : ℕ) → c ≢ i → slice_index (slice_set xs i v) c ≡ slice_index xs c
other_at xs i c v h = rw get_or-set_other (refl_of _)
  where
    refl_of : (a : ℕ) → a ≡ a
    refl_of a = omega arith

pub each_next : (i : ℕ) (before pb others places after pa : List ℕ) (q x : ℕ) → EachSoFar i before pb others places after pa → i < length before → i < length pb → IsRounded q x (slice_index after i * slice_index others i * 2 ^ (slice_index pa i + slice_index places i)) → EachSoFar (i + 1) before pb others places (slice_set after i q) (slice_set pa i x)
each_next i before pb others places after pa q x e h l r =
    let a = e.digits_length in
    let b = e.exponents_length in
    let u : i < length after = omega arith in
    let v : i < length pa = omega arith in
    let m = e.digits_left i (omega arith) in
    let o = e.exponents_left i (omega arith) in
    record {
      digits_length = length-set after i q ∙ a;
      exponents_length = length-set pa i x ∙ b;
      done = λ c k.
          ⊎_elim
          (λ (w : c < i).
          let n : c ≢ i = omega arith in
          rw (other_at after i c q n, other_at pa i c x n) (e.done c w))
          (λ (w : i ≤ c).
          let s : c ≡ i = omega arith in
          rw (s, same_at after i q u, same_at pa i x v, ← m, ← o) r)
          (cases_lt c i);
      digits_left = λ c k. let n : c ≢ i = omega arith in other_at after i c q n ∙ e.digits_left c (omega arith);
      exponents_left = λ c k. let n : c ≢ i = omega arith in other_at pa i c x n ∙ e.exponents_left c (omega arith);
    }

pub each_stands : (i : ℕ) (before pb others places after pa : List ℕ) (j k : ℕ) (f g : ℕ → ℕ) (s t : ℕ) → EachSoFar i before pb others places after pa → length before ≤ i → length others ≡ length before → AllStand j before pb f s → AllStand k others places g t → AllStand (j + k) after pa (λ c. f c * g c) (s + t + 1)
each_stands i before pb others places after pa j k f g s t e h l a b =
    let n = e.digits_length in
    record {
      each = λ c m.
          let o : c < length before = omega arith in
          times_stands j k (slice_index before c) (slice_index pb c) (slice_index others c) (slice_index places c) (slice_index after c) (slice_index pa c) (f c) (g c) s t
          (a.each c o) (b.each c (omega arith)) (e.done c (omega arith));
    }
