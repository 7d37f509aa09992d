-- The list of all states, variable by variable.
use Rattle.std.proofs.Common.{◌≡◌, ℕ, ◌+◌, ◌-◌, ◌<◌, ◌≤◌, List, [], ◌∷◌, ◌++◌, map, length, drop, slice_index, flat_map, Vec, sym, ap, subst, ◌∙◌, arith, append-nil}
use Rattle.std.proofs.lemmas.List.{drop_more, drop_all}
use Rattle.std.proofs.lemmas.List.Concat.{flat_map-append}
use Rattle.std.specs.List.{AllByRecursion}
use Rattle.std.specs.declared.alloc.Global.{Global}
use Rattle.mk_net.specs.Network.{Variable, sizes}
use Rattle.mk_states.specs.States.{IsState, states, numbers_below}
use Rattle.mk_states.proofs.Listed.{states_are}
use Rattle.mk_walk.specs.Lists.{lists}
use Rattle.mk_walk.proofs.Weights.{numbers_more}

pub more_values : {X : Type 0} (f : ℕ → List X) (v : ℕ) → flat_map f (numbers_below v) ++ f v ≡ flat_map f (numbers_below (v + 1))
more_values f v = sym (ap (flat_map f) (numbers_more v) ∙ flat_map-append f (numbers_below v) (v ∷ []) ∙ ap (λ xs. flat_map f (numbers_below v) ++ xs) (append-nil (f v)))

pub no_states : (sizes : List ℕ) (n : ℕ) → length sizes ≡ n → [] ∷ [] ≡ states (drop (n - 0) sizes)
no_states sizes n e = ap states (sym (drop_all (n - 0) sizes (omega arith)))

pub more_states : (sizes : List ℕ) (n done : ℕ) (before after : List (List ℕ)) → length sizes ≡ n → done < n → before ≡ states (drop (n - done) sizes)
    → after ≡ flat_map (λ v. map (λ s. v ∷ s) before) (numbers_below (slice_index sizes (n - 1 - done))) → after ≡ states (drop (n - (done + 1)) sizes)
more_states sizes n done before after e h p q =
    q ∙ ap (λ (ls : List (List ℕ)). flat_map (λ v. map (λ s. v ∷ s) ls) (numbers_below (slice_index sizes (n - 1 - done)))) (p ∙ ap (λ k. states (drop k sizes)) next)
    ∙ sym (ap (λ k. states (drop k sizes)) here ∙ ap states (drop_more sizes (n - 1 - done) 0 within))
  where
    next : n - done ≡ (n - 1 - done) + 1
    next = omega arith

    here : n - (done + 1) ≡ n - 1 - done
    here = omega arith

    within : n - 1 - done < length sizes
    within = omega arith

pub whole : (sizes : List ℕ) (n done : ℕ) → n ≤ done → states (drop (n - done) sizes) ≡ states sizes
whole sizes n done h = let none : n - done ≡ 0 = omega arith in ap (λ k. states (drop k sizes)) none

-- the first of some lists, and the others
pub first_and_others : (sizes : List ℕ) (items others : List (Vec ℕ Global)) (first : Vec ℕ Global) → AllByRecursion (IsState sizes) (lists items)
    → items ≡ first ∷ others → IsState sizes first.items × AllByRecursion (IsState sizes) (lists others)
first_and_others sizes items others first all same = subst (λ (vs : List (Vec ℕ Global)). AllByRecursion (IsState sizes) (lists vs)) same all

pub each_is_state : (network : List Variable) (items : List (Vec ℕ Global)) → lists items ≡ states (sizes network) → AllByRecursion (IsState (sizes network)) (lists items)
each_is_state network items same = subst (λ (ls : List (List ℕ)). AllByRecursion (IsState (sizes network)) ls) (sym same) (states_are (sizes network))
