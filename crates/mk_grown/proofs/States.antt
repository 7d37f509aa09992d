-- The states with one variable more, and what is listed of them.
use Rattle.std.proofs.Common.{◌≡◌, ℕ, zero, suc, ◌*◌, ◌≤◌, Bool, true, false, cond, List, [], ◌∷◌}
use Rattle.std.proofs.Common.{◌&&◌, ◌++◌, flat_map, map, filter, length, nat_le, refl, sym, ap}
use Rattle.std.proofs.Common.{ap₂, ◌∙◌, arith, mul-zero}
use Rattle.std.proofs.Math.Path.{fun_ext}
use Rattle.std.proofs.Math.Nat.{one-le-mul}
use Rattle.std.specs.List.{AllByRecursion}
use Rattle.std.proofs.lemmas.Bool.{le-leb}
use Rattle.std.proofs.lemmas.List.Elements.{filter-append}
use Rattle.mk_net.specs.Network.{Variable, sizes, IsNetwork}
use Rattle.mk_net.proofs.Behind.{sizes_more}
use Rattle.mk_states.specs.States.{states, numbers_below, plus_over, IsState}
use Rattle.mk_states.specs.InitialWeight.{all_states, can_come, initial_weight}
use Rattle.mk_states.proofs.Sums.{IsPlus, plus_over-flat_map, plus_over-map, each_weaker}
use Rattle.mk_states.proofs.Listed.{states_are}
use Rattle.mk_exact.proofs.Longer.{longer, states_longer}
use Rattle.mk_grown.specs.Grown.{with_variable, with_each_value, share_of, values_behind}
use Rattle.mk_grown.proofs.Entries.{weight_more}

-- a test that answers alike for each item
filter_alike : {X : Type 0} (p : X → Bool) (b : Bool) (xs : List X)
    → AllByRecursion (λ x. p x ≡ b) xs
    → filter p xs ≡ cond b xs []
filter_alike p true [] h = refl
filter_alike p false [] h = refl
filter_alike p true (x ∷ xs) h = rw (h.0) (ap (λ ys. x ∷ ys) (filter_alike p true xs h.1))
filter_alike p false (x ∷ xs) h = rw (h.0) (filter_alike p false xs h.1)

-- what passes of lists that each pass in part, or not at all
pub filter_parted : {X Y : Type 0} (p : X → Bool) (q : Y → Bool) (f g : Y → List X) (ys : List Y)
    → AllByRecursion (λ y. filter p (f y) ≡ cond (q y) (g y) []) ys
    → filter p (flat_map f ys) ≡ flat_map g (filter q ys)
filter_parted p q f g [] h = refl
filter_parted {X} p q f g (y ∷ ys) h =
    filter-append p (f y) (flat_map f ys)
    ∙ ap₂ ◌++◌ h.0 (filter_parted p q f g ys h.1)
    ∙ at (q y)
  where
    at : (b : Bool) → cond b (g y) [] ++ flat_map g (filter q ys)
        ≡ flat_map g (cond b (y ∷ filter q ys) (filter q ys))
    at true = refl
    at false = refl

-- what passes of the longer states, where a test does not look at the added variable
pub filter_longer : (p q : List ℕ → Bool) (f : List ℕ → List (List ℕ)) (ss : List (List ℕ))
    → AllByRecursion (λ s. AllByRecursion (λ t. p t ≡ q s) (f s)) ss
    → filter p (flat_map f ss) ≡ flat_map f (filter q ss)
filter_longer p q f ss h = filter_parted p q f f ss
    (each_weaker (λ s. AllByRecursion (λ t. p t ≡ q s) (f s))
    (λ s. filter p (f s) ≡ cond (q s) (f s) []) (λ s k. filter_alike p (q s) (f s) k) ss h)

-- what passes of an image, where a test asks for a fact and for what another test says
filter_map_where : {X Y : Type 0} (p : X → Bool) (b : Bool) (q : Y → Bool) (f : Y → X)
    → ((y : Y) → p (f y) ≡ (b && q y)) → (ys : List Y)
    → filter p (map f ys) ≡ cond b (map f (filter q ys)) []
filter_map_where p true q f h [] = refl
filter_map_where p false q f h [] = refl
filter_map_where p true q f h (y ∷ ys) =
    rw (h y) (ap (λ rest. cond (q y) (f y ∷ rest) rest) (filter_map_where p true q f h ys)
    ∙ at (q y))
  where
    at : (c : Bool) → cond c (f y ∷ map f (filter q ys)) (map f (filter q ys))
        ≡ map f (cond c (y ∷ filter q ys) (filter q ys))
    at true = refl
    at false = refl
filter_map_where p false q f h (y ∷ ys) = rw (h y) (filter_map_where p false q f h ys)

-- a product is something where both of its factors are
both_positive : (weight share : ℕ)
    → nat_le 1 (weight * share) ≡ (nat_le 1 weight && nat_le 1 share)
both_positive zero share = ap (nat_le 1) (let none : 0 * share ≡ 0 = omega arith in none)
both_positive (suc w) zero =
    ap (nat_le 1) (mul-zero (suc w)) ∙ sym (rw (le-leb 1 (suc w) (omega arith)) refl)
both_positive (suc w) (suc n) =
    le-leb 1 (suc w * suc n) (one-le-mul (let some : 1 ≤ suc w = omega arith in some) (omega arith))
    ∙ sym (rw (le-leb 1 (suc w) (omega arith), le-leb 1 (suc n) (omega arith)) refl)

module _ (network : List Variable) (v : Variable) (net : IsNetwork (with_variable network v)) where
  comes : (s : List ℕ) → IsState (sizes network) s
      → filter (can_come (with_variable network v)) (longer (length v.values) s)
      ≡ cond (can_come network s) (with_each_value network v s) []
  comes s is_state = filter_map_where (can_come (with_variable network v)) (can_come network s)
      (λ x. nat_le 1 (share_of network v s x)) (λ x. s ++ x ∷ [])
      (λ x. ap (nat_le 1) (weight_more network v s x is_state net)
      ∙ both_positive (initial_weight network s) (share_of network v s x))
      (numbers_below (length v.values))

  pub all_more : all_states (with_variable network v)
      ≡ flat_map (with_each_value network v) (all_states network)
  all_more =
      ap (λ ns. filter (can_come (with_variable network v)) (states ns)) (sizes_more network v)
      ∙ ap (filter (can_come (with_variable network v)))
      (states_longer (sizes network) (length v.values))
      ∙ filter_parted (can_come (with_variable network v)) (can_come network)
      (longer (length v.values)) (with_each_value network v) (states (sizes network))
      (each_weaker (IsState (sizes network))
      (λ s. filter (can_come (with_variable network v)) (longer (length v.values) s)
      ≡ cond (can_come network s) (with_each_value network v s) [])
      comes (states (sizes network)) (states_are (sizes network)))

  -- a plus over them
  pub plus_over_more : {V : Type 0} (plus : V → V → V) (none : V) → IsPlus plus none
      → (f : List ℕ → V)
      → plus_over plus none f (all_states (with_variable network v))
      ≡ plus_over plus none (λ s. plus_over plus none (λ x. f (s ++ x ∷ []))
      (values_behind network v s)) (all_states network)
  plus_over_more {V} plus none law f =
      ap (plus_over plus none f) all_more
      ∙ plus_over-flat_map plus none law f (with_each_value network v) (all_states network)
      ∙ ap (λ (g : List ℕ → V). plus_over plus none g (all_states network))
      (fun_ext (λ s. plus_over-map plus none f (λ x. s ++ x ∷ [])
      (values_behind network v s)))
