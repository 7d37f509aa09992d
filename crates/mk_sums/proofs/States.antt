-- The list of all states, and nested sums.
use Rattle.std.proofs.Common.{◌≡◌, ℕ, suc, zero, ◌+◌, ◌<◌, ◌≤◌, true, List, [], ◌∷◌, length, slice_index, refl, sym, ap, ◌∙◌, arith, eq-eqb, ne_eqb}
use Rattle.std.proofs.Math.Path.{fun_ext}
use Rattle.std.specs.List.{range_with_len}
use Rattle.mk_states.specs.States.{states, numbers_below, plus_over}
use Rattle.mk_states.specs.InitialWeight.{value_at}
use Rattle.mk_states.proofs.Sums.{IsPlus, plus_over-states}
use Rattle.mk_states.specs.Lawful.{Lawful}
use Rattle.mk_sums.specs.Sums.{upd, plus_below, over}
use Rattle.mk_sums.specs.Joint.{variables}

pub is_plus : (plus : ℕ → ℕ → ℕ) → Lawful plus → IsPlus plus 0
is_plus plus law = record { assoc = law.associates; comm = law.commutes; neutral = law.neutral }

-- an assignment with the values of a list at i, i + 1, ..
abbrev write : (ℕ → ℕ) → ℕ → List ℕ → ℕ → ℕ
write a i [] = a
write a i (v ∷ s) = write (upd a i v) (i + 1) s

plus_below_range : (plus : ℕ → ℕ → ℕ) (law : Lawful plus) (f : ℕ → ℕ) (n i : ℕ) → plus_below plus n (λ v. f (i + v)) ≡ plus_over plus 0 f (range_with_len i n)
plus_below_range plus law f zero i = refl
plus_below_range plus law f (suc n) i = more n i ∙ ap (plus (f i)) (plus_below_range plus law f n (i + 1))
  where
    more : (n i : ℕ) → plus_below plus (suc n) (λ v. f (i + v)) ≡ plus (f i) (plus_below plus n (λ v. f ((i + 1) + v)))
    more zero i = let e : i + 0 ≡ i = omega arith in law.neutral (f (i + 0)) ∙ ap f e ∙ sym (law.neutral (f i)) ∙ law.commutes 0 (f i)
    more (suc n) i =
        let e : i + suc n ≡ (i + 1) + n = omega arith in
        ap (λ k. plus k (f (i + suc n))) (more n i) ∙ law.associates (f i) _ _ ∙ ap (λ k. plus (f i) (plus (plus_below plus n (λ v. f ((i + 1) + v))) (f k))) e

pub plus_below_numbers : (plus : ℕ → ℕ → ℕ) (law : Lawful plus) (f : ℕ → ℕ) (n : ℕ) → plus_below plus n f ≡ plus_over plus 0 f (numbers_below n)
plus_below_numbers plus law f n = ap (plus_below plus n) (fun_ext (λ v. let e : v ≡ 0 + v = omega arith in ap f e)) ∙ plus_below_range plus law f n 0

states_from : (plus : ℕ → ℕ → ℕ) (law : Lawful plus) (size : ℕ → ℕ) (f : (ℕ → ℕ) → ℕ) (sizes : List ℕ) (i : ℕ) (a : ℕ → ℕ)
    → ((j : ℕ) → j < length sizes → size (i + j) ≡ slice_index sizes j)
    → plus_over plus 0 (λ s. f (write a i s)) (states sizes) ≡ over plus size (λ x. true) (range_with_len i (length sizes)) f a
states_from plus law size f [] i a h = law.commutes (f a) 0 ∙ law.neutral (f a)
states_from plus law size f (n ∷ ns) i a h =
    let here : size i ≡ n = let e : i ≡ i + 0 = omega arith in ap size e ∙ h 0 (omega arith) in
    plus_over-states plus 0 (is_plus plus law) (λ s. f (write a i s)) n ns
    ∙ ap (λ (g : ℕ → ℕ). plus_over plus 0 g (numbers_below n)) (fun_ext (λ v. states_from plus law size f ns (i + 1) (upd a i v) (λ j p. let e : (i + 1) + j ≡ i + suc j = omega arith in ap size e ∙ h (suc j) (omega arith))))
    ∙ sym (plus_below_numbers plus law (λ v. over plus size (λ x. true) (range_with_len (i + 1) (length ns)) f (upd a i v)) n)
    ∙ ap (λ k. plus_below plus k (λ v. over plus size (λ x. true) (range_with_len (i + 1) (length ns)) f (upd a i v))) (sym here)

write_before : (s : List ℕ) (a : ℕ → ℕ) (i x : ℕ) → x < i → write a i s x ≡ a x
write_before [] a i x h = refl
write_before (v ∷ s) a i x h = write_before s (upd a i v) (i + 1) x (omega arith) ∙ at
  where
    at : upd a i v x ≡ a x
    at = let d : x ≡ i → ⊥ = λ e. omega arith in rw (ne_eqb x i d)

write_at : (s : List ℕ) (a : ℕ → ℕ) (i x : ℕ) → ((y : ℕ) → i ≤ y → a y ≡ 0) → write a i s (i + x) ≡ slice_index s x
write_at [] a i x h = h (i + x) (omega arith)
write_at (v ∷ s) a i zero h =
    let e : i + 0 ≡ i = omega arith in
    write_before s (upd a i v) (i + 1) (i + 0) (omega arith) ∙ (rw (eq-eqb (i + 0) i e))
write_at (v ∷ s) a i (suc x) h =
    let e : i + suc x ≡ (i + 1) + x = omega arith in
    ap (write (upd a i v) (i + 1) s) e ∙ write_at s (upd a i v) (i + 1) x (λ y p. let d : y ≡ i → ⊥ = λ g. omega arith in rw (ne_eqb y i d) (h y (omega arith)))

pub states_nest : (plus : ℕ → ℕ → ℕ) → Lawful plus → (sizes : List ℕ) (f : (ℕ → ℕ) → ℕ)
    → plus_over plus 0 (λ s. f (value_at s)) (states sizes) ≡ over plus (slice_index sizes) (λ x. true) (variables sizes) f (λ x. 0)
states_nest plus law sizes f =
    ap (λ (g : List ℕ → ℕ). plus_over plus 0 g (states sizes))
    (fun_ext (λ s. ap f (fun_ext (λ x. let e : x ≡ 0 + x = omega arith in sym (ap (write (λ y. 0) 0 s) e ∙ write_at s (λ y. 0) 0 x (λ y p. refl))))))
    ∙ states_from plus law (slice_index sizes) f sizes 0 (λ x. 0) (λ j p. let e : 0 + j ≡ j = omega arith in ap (slice_index sizes) e)
