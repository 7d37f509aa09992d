-- The walk over all states, value by value.
use Rattle.std.proofs.Common.{◌≡◌, ℕ, ◌+◌, ◌-◌, ◌*◌, ◌^◌, ◌<◌, ◌≤◌, min, List, [], ◌∷◌, ◌++◌}
use Rattle.std.proofs.Common.{length, take, drop, slice_index, sum_by, sym, ap, ap₂, ◌∙◌, arith}
use Rattle.std.proofs.Common.{append_assoc, append-nil, zero-mul, true, ltb, ◌↔◌}
use Rattle.std.proofs.lemmas.Bool.{ltb-true, lt-ltb}
use Rattle.std.proofs.Math.Path.{fun_ext}
use Rattle.std.proofs.lemmas.List.{drop_more, drop_all}
use Rattle.std.proofs.lemmas.List.Sums.{sum_by_push}
use Rattle.mk_net.specs.Network.{Variable, sizes}
use Rattle.mk_states.specs.States.{states, numbers_below, plus_over, product_by}
use Rattle.mk_states.specs.InitialWeight.{all_states, initial_weight}
use Rattle.mk_states.specs.Ratios.{ratio_at}
use Rattle.mk_exact.specs.History as history
use Rattle.mk_exact.specs.Weight.{weight, IsSmall}
use Rattle.mk_states.proofs.Sums.{sum_by_is, plus_over-states, sums_are_plus}
use Rattle.mk_exact.proofs.Single.{over_all}
use Rattle.mk_walk.specs.Walked.{capped}
use Rattle.mk_walk.proofs.Weights.{capped_times, numbers_more}
use Rattle.mk_walk.proofs.Totals.{capped_plus}
use Rattle.mk_small.specs.Walks.{times, behind}
use Rattle.mk_small.proofs.Weights.{weight_times}

-- one change more
pub more_weight : (network : List Variable) (s : List ℕ) (H : List history.Entry) (i : ℕ)
    (e : history.Entry) (w t w' : ℕ)
    → take (i + 1) H ≡ take i H ++ e ∷ []
    → w ≡ capped (weight network (take i H) s) → t ≡ times e s → w' ≡ min (w * t) (2 ^ 128 - 1)
    → w' ≡ capped (weight network (take (i + 1) H) s)
more_weight network s H i e w t w' next p q r =
    r ∙ ap (λ (n : ℕ). min (n * t) (2 ^ 128 - 1)) p
    ∙ ap (λ (n : ℕ). min (capped (weight network (take i H) s) * n) (2 ^ 128 - 1)) q
    ∙ capped_times (weight network (take i H) s) (times e s)
    ∙ ap capped (sym (weight_times network (take i H) e s)
    ∙ sym (ap (λ (H : List history.Entry). weight network H s) next))

-- one value more
pub more_behind : (f : ℕ → ℕ) (v sum w sum' : ℕ) → sum ≡ capped (sum_by f (numbers_below v))
    → w ≡ capped (f v) → sum' ≡ min (sum + w) (2 ^ 128 - 1)
    → sum' ≡ capped (sum_by f (numbers_below (v + 1)))
more_behind f v sum w sum' p q r = r ∙ ap₂ (λ (a b : ℕ). min (a + b) (2 ^ 128 - 1)) p q
    ∙ capped_plus (sum_by f (numbers_below v)) (f v)
    ∙ ap capped (sym (ap (sum_by f) (numbers_more v) ∙ sum_by_push f (numbers_below v) v))

-- the states behind a front are those behind each value more
pub behind_split : (f : List ℕ → ℕ) (sizes front : List ℕ) (k : ℕ) → k < length sizes
    → sum_by (λ v. behind f (drop (k + 1) sizes) (front ++ v ∷ []))
    (numbers_below (slice_index sizes k)) ≡ behind f (drop k sizes) front
behind_split f sizes front k h = sym (ap (λ ns. sum_by (λ s. f (front ++ s)) (states ns))
    (drop_more sizes k 0 h)
    ∙ sum_by_is (λ s. f (front ++ s)) (states (slice_index sizes k ∷ drop (k + 1) sizes))
    ∙ plus_over-states ◌+◌ 0 sums_are_plus (λ s. f (front ++ s)) (slice_index sizes k)
    (drop (k + 1) sizes)
    ∙ ap (λ (g : ℕ → ℕ). plus_over ◌+◌ 0 g (numbers_below (slice_index sizes k))) (fun_ext each)
    ∙ sym (sum_by_is (λ v. behind f (drop (k + 1) sizes) (front ++ v ∷ []))
    (numbers_below (slice_index sizes k))))
  where
    each : (v : ℕ) → plus_over ◌+◌ 0 (λ s. f (front ++ v ∷ s)) (states (drop (k + 1) sizes))
        ≡ behind f (drop (k + 1) sizes) (front ++ v ∷ [])
    each v = sym (sum_by_is (λ s. f (front ++ v ∷ s)) (states (drop (k + 1) sizes)))
        ∙ ap (λ (g : List ℕ → ℕ). sum_by g (states (drop (k + 1) sizes)))
        (fun_ext (λ s. ap f (sym (append_assoc front (v ∷ []) s))))

-- so once each value was tried
pub all_behind : (f : List ℕ → ℕ) (sizes front : List ℕ) (k v sum : ℕ) → k < length sizes
    → v ≡ slice_index sizes k
    → sum ≡ capped (sum_by (λ x. behind f (drop (k + 1) sizes) (front ++ x ∷ [])) (numbers_below v))
    → sum ≡ capped (behind f (drop k sizes) front)
all_behind f sizes front k v sum h e p = p
    ∙ ap (λ n. capped (sum_by (λ x. behind f (drop (k + 1) sizes) (front ++ x ∷ []))
    (numbers_below n))) e
    ∙ ap capped (behind_split f sizes front k h)

-- behind a whole state there is that state alone
pub behind_none : (f : List ℕ → ℕ) (sizes front : List ℕ) (k : ℕ) → length sizes ≤ k
    → f front ≡ behind f (drop k sizes) front
behind_none f sizes front k h = sym (ap (λ ns. sum_by (λ s. f (front ++ s)) (states ns))
    (drop_all k sizes h) ∙ alone)
  where
    alone : sum_by (λ s. f (front ++ s)) ([] ∷ []) ≡ f front
    alone = let one : 0 + f (front ++ []) ≡ f (front ++ []) = omega arith in
        one ∙ ap f (append-nil front)

-- all states together
pub behind_nothing : (network : List Variable) (H : List history.Entry)
    → behind (weight network H) (sizes network) [] ≡ sum_by (weight network H) (all_states network)
behind_nothing network H = sym (over_all network (weight network H) (λ s e. nothing s e))
  where
    nothing : (s : List ℕ) → initial_weight network s ≡ 0 → weight network H s ≡ 0
    nothing s e =
        rw e (zero-mul (product_by (λ (t : history.UserTrade). ratio_at t.ratio s)
        (history.trades H)))

-- the sum is below a limit exactly where it is as far as it goes
pub small_test : (network : List Variable) (H : List history.Entry) (t : ℕ)
    → t ≡ capped (behind (weight network H) (sizes network) [])
    → (ltb t (2 ^ 63) ≡ true) ↔ IsSmall network H
small_test network H t is = (
  λ h. omega (arith, same, ltb-true t (2 ^ 63) h),
  λ small. lt-ltb t (2 ^ 63) (omega (arith, same)),
)
  where
    same : t ≡ min (sum_by (weight network H) (all_states network)) (2 ^ 128 - 1)
    same = is ∙ ap capped (behind_nothing network H)
