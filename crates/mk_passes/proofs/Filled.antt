-- Arrays of which nothing is written, or each cell.
use Rattle.std.proofs.Common.{◌≡◌, ℕ, suc, ◌+◌, ◌-◌, ◌<◌, ◌≤◌, ◌⊎◌, inl, inr, List, [], ◌∷◌, ◌++◌, length, replicate, slice_index, ap, subst, ◌∙◌, arith, append_assoc, length-append}
use Rattle.std.specs.Prelude.{Vec, vec_len, vec_capacity}
use Rattle.std.specs.Vec.{with_items}
use Rattle.std.proofs.lemmas.List.{with_items_is, append-nil, length-replicate, get_or-replicate, nil_from_length, length_push}
use Rattle.mk_scope.specs.Scopes.{ScopeOf, cells_in}
use Rattle.mk_scope.specs.Cells.{cell_in}
use Rattle.mk_passes.specs.Blank.{one_digits, one_exponent, filled}
use Rattle.mk_passes.specs.Parts.{AreBlankOrFull, AreHeld, HaveRoom, StandListed, IsChanged, IsTimesCell}

module _ {X : Type 0} (one : X) (n : ℕ) where
  -- as many as there are cells
  pub filled_length : (xs : List X) → length xs ≤ n → length (filled one n xs) ≡ n
  unfolding filled
  filled_length xs h = length-append xs (replicate (n - length xs) one) ∙ ap (λ k. length xs + k) (length-replicate (n - length xs) one) ∙ omega (arith, h)

  -- where all cells are written
  pub filled_full : (xs : List X) → n ≤ length xs → filled one n xs ≡ xs
  unfolding filled
  filled_full xs h = let z : n - length xs ≡ 0 = omega (arith, h) in ap (λ k. xs ++ replicate k one) z ∙ append-nil xs

  pub filled_empty : filled one n [] ≡ replicate n one
  unfolding filled
  filled_empty = let z : n - 0 ≡ n = omega arith in ap (λ k. replicate k one) z

  -- where none are
  pub filled_none : (xs : List X) → length xs ≡ 0 → filled one n xs ≡ replicate n one
  filled_none xs h = ap (filled one n) (nil_from_length xs h) ∙ filled_empty

  -- one cell more is written
  pub filled_push : (xs : List X) → length xs < n → filled one n (xs ++ one ∷ []) ≡ filled one n xs
  unfolding filled
  filled_push xs h =
      let l = length_push xs one in
      let s : suc (n - length (xs ++ one ∷ [])) ≡ n - length xs = omega (arith, h, l) in
      append_assoc xs (one ∷ []) (replicate (n - length (xs ++ one ∷ [])) one) ∙ ap (λ k. xs ++ replicate k one) s

-- which of both it is
pub at_most : (n : ℕ) (d e : List ℕ) → AreBlankOrFull n d e → (length d ≤ n) × (length e ≤ n)
at_most n d e h = at h.either
  where
    at : (((length d ≡ 0) × (length e ≡ 0)) ⊎ ((length d ≡ n) × (length e ≡ n))) → (length d ≤ n) × (length e ≤ n)
    at (inl b) = (omega (arith, b.0), omega (arith, b.1))
    at (inr b) = (omega (arith, b.0), omega (arith, b.1))

pub all_full : (n : ℕ) (d e : List ℕ) → AreBlankOrFull n d e → n ≤ length d → n ≤ length e
all_full n d e h l = at h.either
  where
    at : (((length d ≡ 0) × (length e ≡ 0)) ⊎ ((length d ≡ n) × (length e ≡ n))) → n ≤ length e
    at (inl b) = omega (arith, b.0, b.1, l)
    at (inr b) = omega (arith, b.1)

pub all_blank : (n : ℕ) (d e : List ℕ) → AreBlankOrFull n d e → length d < n → (length d ≡ 0) × (length e ≡ 0)
all_blank n d e h l = at h.either
  where
    at : (((length d ≡ 0) × (length e ≡ 0)) ⊎ ((length d ≡ n) × (length e ≡ n))) → (length d ≡ 0) × (length e ≡ 0)
    at (inl b) = b
    at (inr b) = absurd (omega (arith, b.0, l))

pub not_blank : (n : ℕ) (d e : List ℕ) → AreBlankOrFull n d e → (length d ≡ 0 → ⊥) → n ≤ length d
not_blank n d e h l = at h.either
  where
    at : (((length d ≡ 0) × (length e ≡ 0)) ⊎ ((length d ≡ n) × (length e ≡ n))) → n ≤ length d
    at (inl b) = absurd (l b.0)
    at (inr b) = omega (arith, b.0)

-- all of a blank array are ones
pub one_at : (one n c : ℕ) (xs : List ℕ) → length xs ≡ 0 → c < n → slice_index (filled one n xs) c ≡ one
one_at one n c xs h l = ap (λ ys. slice_index ys c) (filled_none one n xs h) ∙ get_or-replicate n c one 0 l

-- an array that a call wrote whole
pub held_items : {Y : Type 0} (one n : ℕ) (v : Vec ℕ Y) (xs : List ℕ) → length xs ≡ vec_len v → vec_len v ≡ n → filled one n (with_items v xs).items ≡ xs
held_items one n v xs h l = ap (filled one n) (with_items_is v xs h) ∙ filled_full one n xs (omega (arith, h, l))

pub held_after : {Y Z : Type 0} (n : ℕ) (a : Vec ℕ Y) (b : Vec ℕ Z) (d e : List ℕ) → length d ≡ vec_len a → length e ≡ vec_len b → vec_len a ≡ n → vec_len b ≡ n
    → n ≤ vec_capacity a → n ≤ vec_capacity b → AreHeld n (with_items a d).items (with_items b e).items (vec_capacity a) (vec_capacity b)
held_after n a b d e h l i j r s = record {
  whole = record { either = inr (ap length (with_items_is a d h) ∙ h ∙ i, ap length (with_items_is b e l) ∙ l ∙ j) };
  digits_fit = r;
  exponents_fit = s;
}

-- what holds of two arrays that are full
module _ (n : ℕ) (d e : List ℕ) (h : AreBlankOrFull n d e) (l : n ≤ length d) where
  pub full_room : (k more : ℕ) → HaveRoom k (filled one_digits n d) (filled one_exponent n e) more → HaveRoom k d e more
  full_room k more r =
      subst (λ ys. HaveRoom k ys e more) (filled_full one_digits n d l) (subst (λ ys. HaveRoom k (filled one_digits n d) ys more) (filled_full one_exponent n e (all_full n d e h l)) r)

  pub full_listed : (k : ℕ) (f : ℕ → ℕ) (m base : ℕ) (offsets : List ℕ) → StandListed k (filled one_digits n d) (filled one_exponent n e) f m base offsets → StandListed k d e f m base offsets
  full_listed k f m base offsets r =
      subst (λ ys. StandListed k ys e f m base offsets) (filled_full one_digits n d l)
      (subst (λ ys. StandListed k (filled one_digits n d) ys f m base offsets) (filled_full one_exponent n e (all_full n d e h l)) r)

-- equal arrays
pub times_same : (part whole : ScopeOf) (md me od oe d e md' me' od' oe' d' e' : List ℕ) → md ≡ md' → me ≡ me' → od ≡ od' → oe ≡ oe' → d ≡ d' → e ≡ e'
    → IsChanged (λ c q x y z. IsTimesCell q x (slice_index md (cell_in part whole c)) (slice_index me (cell_in part whole c)) y z) (λ c. c < cells_in whole) od oe d e
    → IsChanged (λ c q x y z. IsTimesCell q x (slice_index md' (cell_in part whole c)) (slice_index me' (cell_in part whole c)) y z) (λ c. c < cells_in whole) od' oe' d' e'
times_same part whole md me od oe d e md' me' od' oe' d' e' i j k l m n h =
    subst (λ ys. IsChanged (R md' me') W od' oe' d' ys) n (subst (λ ys. IsChanged (R md' me') W od' oe' ys e) m (subst (λ ys. IsChanged (R md' me') W od' ys d e) l
    (subst (λ ys. IsChanged (R md' me') W ys oe d e) k (subst (λ ys. IsChanged (R md' ys) W od oe d e) j (subst (λ ys. IsChanged (R ys me) W od oe d e) i h)))))
  where
    R : List ℕ → List ℕ → ℕ → ℕ → ℕ → ℕ → ℕ → Type 0
    R ms xs c q x y z = IsTimesCell q x (slice_index ms (cell_in part whole c)) (slice_index xs (cell_in part whole c)) y z

    W : ℕ → Type 0
    W c = c < cells_in whole
