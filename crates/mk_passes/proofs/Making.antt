-- Cells that are made, one after the other.
use Rattle.std.proofs.Common.{◌≡◌, ℕ, ◌+◌, ◌*◌, ◌<◌, ◌≤◌, ◌⊎◌, inl, inr, List, All, length, slice_index, slice_set, sym, ap, subst, ◌∙◌, arith, zero-add, get_or-set_other, get_or-set_same}
use Rattle.std.specs.List.{range_with_len}
use Rattle.std.proofs.Math.ListN.{length-set}
use Rattle.std.proofs.lemmas.Bool.{cases_eq}
use Rattle.std.proofs.lemmas.List.FromFn.{length-range_with_len, get_or-range_with_len}
use Rattle.mk_net.specs.Bounds.{max_clique_cells}
use Rattle.mk_passes.specs.Parts.{HaveRoom}
use Rattle.mk_passes.specs.inner.Made.{AreMade, CanAdd, CanPut}
use Rattle.mk_scope.specs.Runs.{IsAmong, runs_of}

module _ (S : ℕ → ℕ → ℕ → Type 0) where
  -- one more of the cells, which may have been written before
  pub made_more : (listed od oe nd ne : List ℕ) (i n q x : ℕ) → n ≡ slice_index listed i → n < length od → n < length oe
      → AreMade S listed i od oe nd ne → S n q x → AreMade S listed (i + 1) od oe (slice_set nd n q) (slice_set ne n x)
  made_more listed od oe nd ne i n q x is l m h made = record {
    as_many_digits = length-set nd n q ∙ h.as_many_digits;
    as_many_exponents = length-set ne n x ∙ h.as_many_exponents;
    made = λ b p. at b p (cases_eq b n);
    digits_left = λ b p. get_or-set_other nd n b q 0 (apart b p) ∙ h.digits_left b (λ r. p (r.0, omega (arith, r.1), r.2));
    exponents_left = λ b p. get_or-set_other ne n b x 0 (apart b p) ∙ h.exponents_left b (λ r. p (r.0, omega (arith, r.1), r.2));
  }
    where
      apart : (b : ℕ) → (IsAmong listed (i + 1) b → ⊥) → b ≡ n → ⊥
      apart b p j = p (i, omega arith, sym is ∙ sym j)

      there : n < length nd
      there = omega (arith, h.as_many_digits)

      there_too : n < length ne
      there_too = omega (arith, h.as_many_exponents)

      here : S n (slice_index (slice_set nd n q) n) (slice_index (slice_set ne n x) n)
      here =
          subst (λ y. S n y (slice_index (slice_set ne n x) n)) (sym (get_or-set_same nd n q 0 there))
          (subst (λ y. S n q y) (sym (get_or-set_same ne n x 0 there_too)) made)

      old : (b : ℕ) → IsAmong listed (i + 1) b → (b ≡ n → ⊥) → IsAmong listed i b
      old b p other = from (cases_eq p.0 i)
        where
          from : ((p.0 ≡ i) ⊎ (p.0 ≡ i → ⊥)) → IsAmong listed i b
          from (inl j) = absurd (other (sym p.2 ∙ ap (slice_index listed) j ∙ sym is))
          from (inr j) = (p.0, omega (arith, p.1, j), p.2)

      at : (b : ℕ) → IsAmong listed (i + 1) b → ((b ≡ n) ⊎ (b ≡ n → ⊥)) → S b (slice_index (slice_set nd n q) b) (slice_index (slice_set ne n x) b)
      at b p (inl j) = subst (λ k. S k (slice_index (slice_set nd n q) k) (slice_index (slice_set ne n x) k)) (sym j) here
      at b p (inr j) =
          subst (λ y. S b y (slice_index (slice_set ne n x) b)) (sym (get_or-set_other nd n b q 0 j))
          (subst (λ y. S b (slice_index nd b) y) (sym (get_or-set_other ne n b x 0 j)) (h.made b (old b p j)))

  -- all cells
  pub made_each : (count : ℕ) (od oe nd ne : List ℕ) → AreMade S (range_with_len 0 count) (length (range_with_len 0 count)) od oe nd ne
      → (c : ℕ) → c < count → S c (slice_index nd c) (slice_index ne c)
  made_each count od oe nd ne h c l =
      h.made c (c, subst (λ n. c < n) (sym (length-range_with_len 0 count)) l, get_or-range_with_len 0 count c 0 l ∙ zero-add c)

pub all_first : (P : ℕ → Type 0) (count : ℕ) → ((c : ℕ) → c < count → P c) → All P (range_with_len 0 count)
all_first P count h = λ i z l.
    let m : i < count = subst (λ n. i < n) (length-range_with_len 0 count) l in
    subst P (sym (get_or-range_with_len 0 count i z m ∙ zero-add i)) (h i m)

pub put_first : (can : ℕ → Type 0) (count : ℕ) (d e : List ℕ) → count ≤ length d → count ≤ length e → ((c : ℕ) → c < count → can c) → CanPut can (range_with_len 0 count) d e
put_first can count d e l m h = record {
  each = all_first can count h;
  digits_reach = all_first (λ c. c < length d) count (λ c p. omega (arith, l, p));
  exponents_reach = all_first (λ c. c < length e) count (λ c p. omega (arith, m, p));
}

pub can_add : (d e bases offsets : List ℕ) (run : ℕ) → 1 ≤ run → length (runs_of run offsets) ≤ max_clique_cells
    → ((b : ℕ) → b < length bases → All (λ c. slice_index bases b + c < length d) (runs_of run offsets)) → (k : ℕ) × HaveRoom k d e (2 * length (runs_of run offsets))
    → (b : ℕ) → b < length bases → CanAdd d e bases offsets run b
can_add d e bases offsets run some few within room b l = record { known = l; some = some; few = few; within = within b l; room = room }

pub within_written : (cells count base : ℕ) (listed : List ℕ) → cells ≤ count → All (λ c. base + c < cells) listed → All (λ c. base + c < count) listed
within_written cells count base listed l h = λ i z p. let w = h i z p in omega (arith, w, l)
