-- Weights and gains, factor by factor, in numbers that stop at the greatest u128.
use Rattle.std.proofs.Common.{◌≡◌, ℕ, zero, suc, ◌+◌, ◌-◌, ◌*◌, ◌^◌, ◌<◌, ◌≤◌, min, cond, eqb, List, [], ◌∷◌, ◌++◌, length, get_or, take, filter, refl, sym, ap, ◌∙◌, arith, mul-le-mul_left, mul_assoc, append-nil, map-id, eq-eqb, ne_eqb, ◌⊎◌, inl, inr}
use Rattle.std.proofs.lemmas.Bool.{cases_lt}
use Rattle.std.proofs.lemmas.List.{take_more}
use Rattle.std.proofs.lemmas.List.Elements.{filter_more}
use Rattle.std.proofs.lemmas.List.FromFn.{map-range_with_len_more}
use Rattle.mk_net.specs.Network.{Variable}
use Rattle.mk_states.specs.States.{product_by, numbers_below}
use Rattle.mk_states.specs.InitialWeight.{entry, initial_weight}
use Rattle.mk_states.specs.Ratios.{ratio_at}
use Rattle.mk_states.proofs.Sums.{product_by_push}
use Rattle.mk_walk.specs.declared.weight.WalkTrade.{WalkTrade}
use Rattle.mk_walk.specs.Walked.{ratio_of, capped, walked_weight, walked_gain}

pub capped_times : (a b : ℕ) → min (capped a * b) (2 ^ 128 - 1) ≡ capped (a * b)
capped_times a zero = let none : capped a * 0 ≡ a * 0 = omega arith in ap (λ (n : ℕ). min n (2 ^ 128 - 1)) none
capped_times a (suc b) = at (cases_lt (2 ^ 128 - 1) a)
  where
    at : ((2 ^ 128 - 1 < a) ⊎ (a ≤ 2 ^ 128 - 1)) → min (min a (2 ^ 128 - 1) * suc b) (2 ^ 128 - 1) ≡ min (a * suc b) (2 ^ 128 - 1)
    at (inl h) = let some : 1 ≤ suc b = omega arith in let more : a * 1 ≤ a * suc b = mul-le-mul_left a some in let most : min a (2 ^ 128 - 1) ≡ 2 ^ 128 - 1 = omega arith in rw most (omega arith)
    at (inr h) = let same : min a (2 ^ 128 - 1) ≡ a = omega arith in rw same refl

pub numbers_more : (k : ℕ) → numbers_below (k + 1) ≡ numbers_below k ++ k ∷ []
numbers_more k = sym (map-id (numbers_below (k + 1))) ∙ map-range_with_len_more (λ (x : ℕ). x) 0 k k (omega arith) ∙ ap (λ (ns : List ℕ). ns ++ k ∷ []) (map-id (numbers_below k))

-- one share more
pub more_initial : (network : List Variable) (s : List ℕ) → (k w e w' : ℕ)
    → w ≡ capped (product_by (λ j. entry network j s) (numbers_below k)) → e ≡ entry network k s → w' ≡ min (w * e) (2 ^ 128 - 1)
    → w' ≡ capped (product_by (λ j. entry network j s) (numbers_below (k + 1)))
more_initial network s k w e w' p q r =
    r ∙ ap (λ (n : ℕ). min (n * e) (2 ^ 128 - 1)) p
    ∙ ap (λ (n : ℕ). min (capped (product_by (λ j. entry network j s) (numbers_below k)) * n) (2 ^ 128 - 1)) q
    ∙ capped_times (product_by (λ j. entry network j s) (numbers_below k)) (entry network k s)
    ∙ ap capped (sym (ap (product_by (λ j. entry network j s)) (numbers_more k) ∙ product_by_push (λ j. entry network j s) (numbers_below k) k))

-- one trade more
pub more_weight : (network : List Variable) (s : List ℕ) (ts : List WalkTrade) (i : ℕ) (t : WalkTrade) (w e w' : ℕ) → i < length ts → t ≡ get_or ts i t
    → w ≡ capped (walked_weight network (take i ts) s) → e ≡ ratio_at (ratio_of t) s → w' ≡ min (w * e) (2 ^ 128 - 1)
    → w' ≡ capped (walked_weight network (take (i + 1) ts) s)
more_weight network s ts i t w e w' h is p q r =
    r ∙ ap (λ (n : ℕ). min (n * e) (2 ^ 128 - 1)) p
    ∙ ap (λ (n : ℕ). min (capped (walked_weight network (take i ts) s) * n) (2 ^ 128 - 1)) q
    ∙ capped_times (walked_weight network (take i ts) s) (ratio_at (ratio_of t) s)
    ∙ ap capped (mul_assoc (initial_weight network s) (product_by ratio (take i ts)) (ratio t) ∙ ap (λ (n : ℕ). initial_weight network s * n) (sym (ap (product_by ratio) (taken) ∙ product_by_push ratio (take i ts) t)))
  where
    ratio : WalkTrade → ℕ
    ratio x = ratio_at (ratio_of x) s

    taken : take (i + 1) ts ≡ take i ts ++ t ∷ []
    taken = take_more ts i t h ∙ ap (λ (x : WalkTrade). take i ts ++ x ∷ []) (sym is)

gained : (s : List ℕ) (u : ℕ) (ts : List WalkTrade) (i : ℕ) (t : WalkTrade) → i < length ts → t ≡ get_or ts i t
    → filter (λ (x : WalkTrade). eqb x.user u) (take (i + 1) ts) ≡ filter (λ (x : WalkTrade). eqb x.user u) (take i ts) ++ cond (eqb t.user u) (t ∷ []) []
gained s u ts i t h is = filter_more (λ (x : WalkTrade). eqb x.user u) ts i t h
    ∙ ap (λ (x : WalkTrade). filter (λ (y : WalkTrade). eqb y.user u) (take i ts) ++ cond (eqb x.user u) (x ∷ []) []) (sym is)

pub more_gain : (s : List ℕ) (u : ℕ) (ts : List WalkTrade) (i : ℕ) (t : WalkTrade) (w e w' : ℕ) → i < length ts → t ≡ get_or ts i t → t.user ≡ u
    → w ≡ capped (walked_gain (take i ts) u s) → e ≡ ratio_at (ratio_of t) s → w' ≡ min (w * e) (2 ^ 128 - 1)
    → w' ≡ capped (walked_gain (take (i + 1) ts) u s)
more_gain s u ts i t w e w' h is own p q r =
    r ∙ ap (λ (n : ℕ). min (n * e) (2 ^ 128 - 1)) p
    ∙ ap (λ (n : ℕ). min (capped (walked_gain (take i ts) u s) * n) (2 ^ 128 - 1)) q
    ∙ capped_times (walked_gain (take i ts) u s) (ratio_at (ratio_of t) s)
    ∙ ap capped (sym (ap (product_by ratio) (gained s u ts i t h is ∙ rw (eq-eqb t.user u own) refl) ∙ product_by_push ratio (filter (λ (x : WalkTrade). eqb x.user u) (take i ts)) t))
  where
    ratio : WalkTrade → ℕ
    ratio x = ratio_at (ratio_of x) s

pub same_gain : (s : List ℕ) (u : ℕ) (ts : List WalkTrade) (i : ℕ) (t : WalkTrade) (w : ℕ) → i < length ts → t ≡ get_or ts i t → (t.user ≡ u → ⊥)
    → w ≡ capped (walked_gain (take i ts) u s) → w ≡ capped (walked_gain (take (i + 1) ts) u s)
same_gain s u ts i t w h is other p = p ∙ ap (λ (xs : List WalkTrade). capped (product_by (λ (x : WalkTrade). ratio_at (ratio_of x) s) xs))
    (sym (gained s u ts i t h is ∙ rw (ne_eqb t.user u other) (append-nil (filter (λ (x : WalkTrade). eqb x.user u) (take i ts)))))
