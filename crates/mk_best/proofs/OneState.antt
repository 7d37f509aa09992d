-- The one state that has given values.
use Rattle.std.proofs.Common.{◌≡◌, ℕ, zero, suc, ◌+◌, ◌<◌, ◌⊎◌, inl, inr, Bool, true, false}
use Rattle.std.proofs.Common.{cond, ◌&&◌, eqb, List, [], ◌∷◌, ◌++◌, filter, length, slice_index}
use Rattle.std.proofs.Common.{refl, sym, ap, ap₂, ◌∙◌, arith, eq-eqb, ne_eqb}
use Rattle.std.proofs.lemmas.Bool.{cases_eq}
use Rattle.std.proofs.lemmas.Bool.Decides.{nat_tests}
use Rattle.std.proofs.Math.Path.{fun_ext}
use Rattle.mk_states.specs.States.{states, numbers_below, plus_over, IsState}
use Rattle.mk_states.specs.InitialWeight.{value_at}
use Rattle.mk_states.specs.Events.{holds}
use Rattle.mk_states.specs.Lawful.{Lawful}
use Rattle.mk_states.proofs.Sums.{plus_over-filter, plus_over-states, plus_over_at}
use Rattle.mk_sums.proofs.States.{is_plus}
use Rattle.mk_engine.proofs.Cases.{plus_over-cond}
use Rattle.mk_best.specs.inner.Picks.{is_at, pairs_from}
use Rattle.mk_best.specs.inner.Values.{values_in}

pub pairs_more : (k : ℕ) (values : List ℕ) (v : ℕ)
    → pairs_from k (values ++ v ∷ []) ≡ pairs_from k values ++ is_at (k + length values) v ∷ []
pairs_more k [] v = let e : k ≡ k + 0 = omega arith in ap (λ i. is_at i v ∷ []) e
pairs_more k (x ∷ xs) v =
    let e : suc k + length xs ≡ k + suc (length xs) = omega arith in
    ap (λ ps. is_at k x ∷ ps)
    (pairs_more (suc k) xs v ∙ ap (λ i. pairs_from (suc k) xs ++ is_at i v ∷ []) e)

pub values_are : (k : ℕ) (values : List ℕ) → values_in (pairs_from k values) ≡ values
values_are k [] = refl
values_are k (x ∷ xs) = ap (λ ys. x ∷ ys) (values_are (suc k) xs)

swapped : (a b : ℕ) → eqb a b ≡ eqb b a
swapped a b = grind (arith, nat_tests)

-- one value more in front
pub shifted : (k : ℕ) (s : List ℕ) (v : ℕ) (t : List ℕ)
    → holds (pairs_from (suc k) s) (v ∷ t) ≡ holds (pairs_from k s) t
shifted k [] v t = refl
shifted k (x ∷ s) v t = ap (λ b. eqb (value_at t k) x && b) (shifted (suc k) s v t)

nested : (a b : Bool) (w : ℕ) → cond (a && b) w 0 ≡ cond a (cond b w 0) 0
nested true b w = refl
nested false b w = refl

turned : (a b : Bool) (w : ℕ) → cond (a && b) w 0 ≡ cond b (cond a w 0) 0
turned true true w = refl
turned true false w = refl
turned false true w = refl
turned false false w = refl

rest_of : (size x : ℕ) (sizes s : List ℕ) → IsState (size ∷ sizes) (x ∷ s) → IsState sizes s
rest_of size x sizes s st = record {
  one_each = let e = st.one_each in omega (arith, e);
  in_range = λ k l. st.in_range (suc k) (omega (arith, l));
}

module _ (plus : ℕ → ℕ → ℕ) (law : Lawful plus) where
  -- over the states with a state's values there is this state alone
  at_state : (sizes s : List ℕ) → IsState sizes s → (g : List ℕ → ℕ)
      → plus_over plus 0 (λ t. cond (holds (pairs_from 0 s) t) (g t) 0) (states sizes) ≡ g s
  at_state [] [] st g = law.commutes (g []) 0 ∙ law.neutral (g [])
  at_state [] (x ∷ s) st g = let e = st.one_each in absurd (omega (arith, e))
  at_state (size ∷ sizes) [] st g = let e = st.one_each in absurd (omega (arith, e))
  at_state (size ∷ sizes) (x ∷ s) st g =
      let first : x < size = st.in_range 0 (omega arith) in
      plus_over-states plus 0 (is_plus plus law)
      (λ t. cond (holds (pairs_from 0 (x ∷ s)) t) (g t) 0) size sizes
      ∙ ap (λ (h : ℕ → ℕ). plus_over plus 0 h (numbers_below size))
      (fun_ext (inner (at_state sizes s (rest_of size x sizes s st))))
      ∙ plus_over_at plus 0 (is_plus plus law) (λ v. g (v ∷ s)) size 0 x (omega arith)
      (omega (arith, first))
    where
      inner : ((h : List ℕ → ℕ)
          → plus_over plus 0 (λ t. cond (holds (pairs_from 0 s) t) (h t) 0) (states sizes) ≡ h s)
          → (v : ℕ)
          → plus_over plus 0 (λ t. cond (holds (pairs_from 0 (x ∷ s)) (v ∷ t)) (g (v ∷ t)) 0)
          (states sizes) ≡ cond (eqb x v) (g (v ∷ s)) 0
      inner rest v =
          ap (λ (h : List ℕ → ℕ). plus_over plus 0 h (states sizes)) (fun_ext (λ t.
          ap (λ b. cond b (g (v ∷ t)) 0) (ap₂ ◌&&◌ (swapped v x) (shifted 0 s v t))
          ∙ nested (eqb x v) (holds (pairs_from 0 s) t) (g (v ∷ t))))
          ∙ sym (plus_over-cond plus 0 (is_plus plus law) (eqb x v)
          (λ t. cond (holds (pairs_from 0 s) t) (g (v ∷ t)) 0) (states sizes))
          ∙ ap (λ n. cond (eqb x v) n 0) (rest (λ t. g (v ∷ t)))

  pub only_state : (sizes s : List ℕ) → IsState sizes s → (p : List ℕ → Bool) (f : List ℕ → ℕ)
      → plus_over plus 0 f (filter (λ t. p t && holds (pairs_from 0 s) t) (states sizes))
      ≡ cond (p s) (f s) 0
  only_state sizes s st p f =
      plus_over-filter plus 0 (is_plus plus law) f (λ t. p t && holds (pairs_from 0 s) t)
      (states sizes)
      ∙ ap (λ (h : List ℕ → ℕ). plus_over plus 0 h (states sizes))
      (fun_ext (λ t. turned (p t) (holds (pairs_from 0 s) t) (f t)))
      ∙ at_state sizes s st (λ t. cond (p t) (f t) 0)

-- ---- what has the values of a state

both : (a b : Bool) → a ≡ true → b ≡ true → (a && b) ≡ true
both true true e f = refl
both true false e f = f
both false b e f = e

-- a list that begins with these values has their pairs
pub has_values : (k : ℕ) (s t : List ℕ)
    → ((i : ℕ) → i < length s → value_at t (k + i) ≡ slice_index s i)
    → holds (pairs_from k s) t ≡ true
has_values k [] t h = refl
has_values k (x ∷ s) t h =
    let here : value_at t k ≡ x = let e : k ≡ k + 0 = omega arith in ap (value_at t) e ∙ h 0
    (omega arith) in
    both (eqb (value_at t k) x) (holds (pairs_from (suc k) s) t) (eq-eqb (value_at t k) x here)
    (has_values (suc k) s t (λ i l.
    let e : suc k + i ≡ k + suc i = omega arith in
    ap (value_at t) e ∙ h (suc i) (omega (arith, l))))

-- and one with their pairs begins with them
pub values_had : (k : ℕ) (s t : List ℕ) → holds (pairs_from k s) t ≡ true
    → (i : ℕ) → i < length s → value_at t (k + i) ≡ slice_index s i
values_had k [] t h i l = absurd (omega (arith, l))
values_had k (x ∷ s) t h zero l =
    let e : k + 0 ≡ k = omega arith in ap (value_at t) e ∙ at (cases_eq (value_at t k) x) h
  where
    at : ((value_at t k ≡ x) ⊎ (value_at t k ≡ x → ⊥))
        → (eqb (value_at t k) x && holds (pairs_from (suc k) s) t) ≡ true → value_at t k ≡ x
    at (inl e) h = e
    at (inr d) h = absurd (let n = ne_eqb (value_at t k) x d in let g = rw n at h in cc)
values_had k (x ∷ s) t h (suc i) l =
    let e : k + suc i ≡ suc k + i = omega arith in
    ap (value_at t) e
    ∙ values_had (suc k) s t (second (eqb (value_at t k) x) (holds (pairs_from (suc k) s) t) h) i
    (omega (arith, l))
  where
    second : (a b : Bool) → (a && b) ≡ true → b ≡ true
    second true b e = e
    second false b e = absurd (cc)
