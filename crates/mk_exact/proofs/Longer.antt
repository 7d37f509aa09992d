-- The states of one variable more: each state with each value behind it.
use Rattle.std.proofs.Common.{◌≡◌, ℕ, ◌+◌, List, [], ◌∷◌, ◌++◌, map, flat_map, sum_by, sym, ap, ap₂, ◌∙◌, refl, append-nil}
use Rattle.std.proofs.Math.Path.{fun_ext}
use Rattle.std.proofs.lemmas.List.{map-append}
use Rattle.std.proofs.lemmas.List.Concat.{flat_map_single, flat_map-append}
use Rattle.mk_states.specs.States.{states, numbers_below, plus_over}
use Rattle.mk_states.proofs.Sums.{sums_are_plus, sum_by_is, plus_over-flat_map, plus_over-map}

-- a state with each value of the added variable
abbrev pub longer : ℕ → List ℕ → List (List ℕ)
longer size s = map (λ x. s ++ x ∷ []) (numbers_below size)

map-cons : (v : ℕ) (s : List ℕ) (xs : List ℕ) → map (λ t. v ∷ t) (map (λ x. s ++ x ∷ []) xs) ≡ map (λ x. v ∷ (s ++ x ∷ [])) xs
map-cons v s [] = refl
map-cons v s (x ∷ xs) = ap (λ ys. (v ∷ (s ++ x ∷ [])) ∷ ys) (map-cons v s xs)

cons-longer : (v size : ℕ) (ss : List (List ℕ)) → map (λ s. v ∷ s) (flat_map (longer size) ss) ≡ flat_map (longer size) (map (λ s. v ∷ s) ss)
cons-longer v size [] = refl
cons-longer v size (s ∷ ss) =
    map-append (λ t. v ∷ t) (longer size s) (flat_map (longer size) ss)
    ∙ ap₂ ◌++◌ (map-cons v s (numbers_below size)) (cons-longer v size ss)

flat-flat : {X Y Z : Type 0} (g : Y → List Z) (h : X → List Y) (xs : List X) → flat_map (λ x. flat_map g (h x)) xs ≡ flat_map g (flat_map h xs)
flat-flat g h [] = refl
flat-flat g h (x ∷ xs) = ap (λ ys. flat_map g (h x) ++ ys) (flat-flat g h xs) ∙ sym (flat_map-append g (h x) (flat_map h xs))

pub states_longer : (sizes : List ℕ) (size : ℕ) → states (sizes ++ size ∷ []) ≡ flat_map (longer size) (states sizes)
states_longer [] size = flat_map_single (λ x. x ∷ []) (numbers_below size) ∙ sym (append-nil (map (λ x. x ∷ []) (numbers_below size)))
states_longer (first ∷ sizes) size =
    ap (λ (f : ℕ → List (List ℕ)). flat_map f (numbers_below first)) (fun_ext (λ v. ap (map (λ s. v ∷ s)) (states_longer sizes size) ∙ cons-longer v size (states sizes)))
    ∙ flat-flat (longer size) (λ v. map (λ s. v ∷ s) (states sizes)) (numbers_below first)

-- a sum over them, one value after the other
pub sum_longer : (f : List ℕ → ℕ) (sizes : List ℕ) (size : ℕ) → sum_by f (states (sizes ++ size ∷ [])) ≡ sum_by (λ s. sum_by (λ x. f (s ++ x ∷ [])) (numbers_below size)) (states sizes)
sum_longer f sizes size =
    ap (sum_by f) (states_longer sizes size)
    ∙ sum_by_is f (flat_map (longer size) (states sizes))
    ∙ plus_over-flat_map ◌+◌ 0 sums_are_plus f (longer size) (states sizes)
    ∙ ap (λ (g : List ℕ → ℕ). plus_over ◌+◌ 0 g (states sizes)) (fun_ext (λ s. plus_over-map ◌+◌ 0 f (λ x. s ++ x ∷ []) (numbers_below size) ∙ sym (sum_by_is (λ x. f (s ++ x ∷ [])) (numbers_below size))))
    ∙ sym (sum_by_is (λ s. sum_by (λ x. f (s ++ x ∷ [])) (numbers_below size)) (states sizes))
