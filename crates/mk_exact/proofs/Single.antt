-- A network of one variable without parents: its states are its values, and their weights its row.
use Rattle.std.proofs.Common.{◌≡◌, ℕ, suc, zero, ◌+◌, ◌<◌, ◌≤◌, Bool, true, false, cond, ◌⊎◌, inl, inr, eqb, List, [], ◌∷◌, map, length, get_or, sum, sum_by, filter, refl, sym, ap, ◌∙◌, arith, mul-one, eq-eqb, ne_eqb, add-zero, le_refl, le_of_eq}
use Rattle.std.proofs.Math.Path.{fun_ext}
use Rattle.std.specs.List.{range_with_len}
use Rattle.std.proofs.lemmas.List.Concat.{flat_map_single}
use Rattle.std.proofs.lemmas.List.Sums.{sum_by-cons, sum-map}
use Rattle.std.proofs.lemmas.List.FromFn.{fill_by_all}
use Rattle.std.proofs.lemmas.List.{get_or_past}
use Rattle.std.proofs.lemmas.List.Elements.{All-head}
use Rattle.std.proofs.lemmas.Bool.{cases_lt, cases_eq, le-leb}
use Rattle.mk_net.specs.Network.{Variable, sizes, IsNetwork, IsRow}
use Rattle.mk_states.specs.States.{states, numbers_below}
use Rattle.mk_states.specs.InitialWeight.{all_states, can_come, initial_weight, initial_total}
use Rattle.mk_states.specs.Events.{holds, with_target, always}
use Rattle.mk_exact.specs.Weight.{weight, total}
use Rattle.mk_exact.specs.Sound.{IsSound}
use Rattle.mk_exact.specs.Laws.{OpensWithRow}
use Rattle.mk_states.proofs.Sums.{sum_by-filter}

pub single_states : (v : Variable) → states (sizes (v ∷ [])) ≡ map (λ x. x ∷ []) (numbers_below (length v.values))
single_states v = flat_map_single (λ x. x ∷ []) (numbers_below (length v.values))

pub single_weight : (v : Variable) (row : List ℕ) → v.parents ≡ [] → v.rows ≡ row ∷ [] → (x : ℕ) → initial_weight (v ∷ []) (x ∷ []) ≡ get_or row x 0
single_weight v row e f x = rw (e, f) (mul-one (get_or row x 0))

map-map : {X Y Z : Type 0} (g : Y → Z) (f : X → Y) (xs : List X) → map g (map f xs) ≡ map (λ x. g (f x)) xs
map-map g f [] = refl
map-map g f (x ∷ xs) = ap (λ ys. g (f x) ∷ ys) (map-map g f xs)

pub single_weights : (v : Variable) (row : List ℕ) → v.parents ≡ [] → v.rows ≡ row ∷ [] → length row ≡ length v.values
    → map (initial_weight (v ∷ [])) (states (sizes (v ∷ []))) ≡ row
single_weights v row e f l =
    ap (map (initial_weight (v ∷ []))) (single_states v)
    ∙ map-map (initial_weight (v ∷ [])) (λ x. x ∷ []) (numbers_below (length v.values))
    ∙ ap (λ (h : ℕ → ℕ). map h (numbers_below (length v.values))) (fun_ext (single_weight v row e f))
    ∙ sym (fill_by_all (λ x. get_or row x 0) row (length v.values) 0 l (λ k h. refl))

-- what is nothing where the initial weight is sums to the same over the states that can come as over all lists of values
pub over_all : (network : List Variable) (f : List ℕ → ℕ) → ((s : List ℕ) → initial_weight network s ≡ 0 → f s ≡ 0) → sum_by f (all_states network) ≡ sum_by f (states (sizes network))
over_all network f nothing = sum_by-filter f (can_come network) (states (sizes network)) ∙ ap (λ (g : List ℕ → ℕ). sum_by g (states (sizes network))) (fun_ext (λ s. at s (initial_weight network s) refl))
  where
    at : (s : List ℕ) (n : ℕ) → initial_weight network s ≡ n → cond (can_come network s) (f s) 0 ≡ f s
    at s zero e = rw e (sym (nothing s e))
    at s (suc n) e = ap (λ (b : Bool). cond b (f s) 0) (le-leb 1 (initial_weight network s) (omega (arith, e)))

pub single_total : (v : Variable) (row : List ℕ) → v.parents ≡ [] → v.rows ≡ row ∷ [] → length row ≡ length v.values → initial_total (v ∷ []) ≡ sum row
single_total v row e f l = over_all (v ∷ []) (initial_weight (v ∷ [])) (λ s h. h) ∙ sym (sum-map (initial_weight (v ∷ [])) (states (sizes (v ∷ [])))) ∙ ap sum (single_weights v row e f l)

-- the one value of a range that is v, or none
sum_before : (f : ℕ → ℕ) (a n v : ℕ) → v < a → sum_by f (filter (λ x. eqb x v) (range_with_len a n)) ≡ 0
sum_before f a zero v h = refl
sum_before f a (suc n) v h = rw (ne_eqb a v (λ e. omega arith)) (sum_before f (a + 1) n v (omega arith))

sum_at : (f : ℕ → ℕ) (n a v : ℕ) → a ≤ v → v < a + n → sum_by f (filter (λ x. eqb x v) (range_with_len a n)) ≡ f v
sum_at f zero a v h k = absurd (omega arith)
sum_at f (suc n) a v h k = at (cases_eq a v) (λ d. sum_at f n (a + 1) v (omega arith) (omega arith))
  where
    at : ((a ≡ v) ⊎ (a ≡ v → ⊥)) → ((a ≡ v → ⊥) → sum_by f (filter (λ x. eqb x v) (range_with_len (a + 1) n)) ≡ f v)
        → sum_by f (filter (λ x. eqb x v) (range_with_len a (suc n))) ≡ f v
    at (inl e) rest = rw (eq-eqb a v e) (sum_by-cons f a (filter (λ x. eqb x v) (range_with_len (a + 1) n)) ∙ rw (sum_before f (a + 1) n v (omega arith)) (add-zero (f a) ∙ ap f e))
    at (inr d) rest = rw (ne_eqb a v d) (rest d)

sum_after : (f : ℕ → ℕ) (n a v : ℕ) → a + n ≤ v → sum_by f (filter (λ x. eqb x v) (range_with_len a n)) ≡ 0
sum_after f zero a v h = refl
sum_after f (suc n) a v h = rw (ne_eqb a v (λ e. omega arith)) (sum_after f n (a + 1) v (omega arith))

-- the empty history: weights are the initial ones, and no state is left out
pub empty_weight : (network : List Variable) (s : List ℕ) → weight network [] s ≡ initial_weight network s
empty_weight network s = mul-one (initial_weight network s)

pub filter_every : {X : Type 0} (xs : List X) → filter (λ (x : X). true) xs ≡ xs
filter_every [] = refl
filter_every (x ∷ xs) = ap (λ ys. x ∷ ys) (filter_every xs)

pub empty_total : (network : List Variable) (test : List ℕ → Bool) → total network [] test ≡ sum_by (initial_weight network) (filter test (all_states network))
empty_total network test = ap (λ (w : List ℕ → ℕ). sum_by w (filter test (all_states network))) (fun_ext (empty_weight network))

pub empty_total_always : (network : List Variable) → total network [] always ≡ initial_total network
empty_total_always network = empty_total network always ∙ ap (sum_by (initial_weight network)) (filter_every (all_states network))

pub empty_total_holds : (network : List Variable) → total network [] (holds []) ≡ initial_total network
empty_total_holds network = empty_total network (holds []) ∙ ap (sum_by (initial_weight network)) (filter_every (all_states network))

-- a filter and a sum behind a map
filter-map : {X Y : Type 0} (p : Y → Bool) (f : X → Y) (xs : List X) → filter p (map f xs) ≡ map f (filter (λ x. p (f x)) xs)
filter-map p f [] = refl
filter-map p f (x ∷ xs) = rw (filter-map p f xs) (kept (p (f x)))
  where
    kept : (b : Bool) → cond b (f x ∷ map f (filter (λ x. p (f x)) xs)) (map f (filter (λ x. p (f x)) xs)) ≡ map f (cond b (x ∷ filter (λ x. p (f x)) xs) (filter (λ x. p (f x)) xs))
    kept true = refl
    kept false = refl

sum_by-map : {X Y : Type 0} (g : Y → ℕ) (f : X → Y) (xs : List X) → sum_by g (map f xs) ≡ sum_by (λ x. g (f x)) xs
sum_by-map g f xs = sym (sum-map g (map f xs)) ∙ ap sum (map-map g f xs) ∙ sum-map (λ x. g (f x)) xs

pub single_target_total : (v : Variable) (row : List ℕ) → v.parents ≡ [] → v.rows ≡ row ∷ [] → length row ≡ length v.values
    → (value : ℕ) → total (v ∷ []) [] (with_target (record { target = record { variable = 0; value = value }; condition = [] })) ≡ get_or row value 0
single_target_total v row e f l value =
    empty_total (v ∷ []) test
    ∙ sum_by-filter (initial_weight (v ∷ [])) test (all_states (v ∷ []))
    ∙ over_all (v ∷ []) (λ s. cond (test s) (initial_weight (v ∷ []) s) 0) (λ s h. ap (λ (n : ℕ). cond (test s) n 0) h ∙ either (test s) 0)
    ∙ sym (sum_by-filter (initial_weight (v ∷ [])) test (states (sizes (v ∷ []))))
    ∙ ap (λ ss. sum_by (initial_weight (v ∷ [])) (filter test ss)) (single_states v)
    ∙ ap (sum_by (initial_weight (v ∷ []))) (filter-map test (λ x. x ∷ []) (numbers_below (length v.values)))
    ∙ sum_by-map (initial_weight (v ∷ [])) (λ x. x ∷ []) (filter (λ x. eqb x value) (numbers_below (length v.values)))
    ∙ ap (λ (h : ℕ → ℕ). sum_by h (filter (λ x. eqb x value) (numbers_below (length v.values)))) (fun_ext (single_weight v row e f))
    ∙ picked (cases_lt value (length v.values))
  where
    test : List ℕ → Bool
    test = with_target (record { target = record { variable = 0; value = value }; condition = [] })

    either : (b : Bool) (n : ℕ) → cond b n n ≡ n
    either true n = refl
    either false n = refl

    picked : ((value < length v.values) ⊎ (length v.values ≤ value)) → sum_by (λ x. get_or row x 0) (filter (λ x. eqb x value) (numbers_below (length v.values))) ≡ get_or row value 0
    picked (inl h) = sum_at (λ x. get_or row x 0) (length v.values) 0 value (omega arith) (omega arith)
    picked (inr h) = sum_after (λ x. get_or row x 0) (length v.values) 0 value (omega arith) ∙ sym (get_or_past row value 0 (omega arith))

pub empty_sound : (network : List Variable) → IsSound network []
empty_sound network = record {
  solvent = λ u k d h. le_refl 1;
  bounded = rw (empty_total_always network) (le_of_eq (sym (mul-one (initial_total network))));
}

single_row : (v : Variable) (row : List ℕ) → IsNetwork (v ∷ []) → v.rows ≡ row ∷ [] → IsRow (length v.values) row
single_row v row net f = All-head (IsRow (length v.values)) row [] (rw f at ((net.each 0 v (le_refl 1)).rows_fit))

pub single_opens_lem : (v : Variable) (row : List ℕ) → IsNetwork (v ∷ []) → v.parents ≡ [] → v.rows ≡ row ∷ [] → OpensWithRow v row
single_opens_lem v row net e f = record {
  weights = single_weights v row e f is_row.one_each;
  initial = single_total v row e f is_row.one_each ∙ is_row.whole;
  each = single_target_total v row e f is_row.one_each;
  all = empty_total_holds (v ∷ []) ∙ single_total v row e f is_row.one_each ∙ is_row.whole;
}
  where
    is_row : IsRow (length v.values) row
    is_row = single_row v row net f
