-- What the units of a trade do to the factor of its user.
use Rattle.std.proofs.Common.{◌≡◌, ℕ, ◌*◌, ◌^◌, ◌≤◌, min, Bool, true, false, cond, not, ◌&&◌, List, [], ◌∷◌, ◌++◌, Option, Some, None, IfSome, All, refl, sym, ◌∙◌, arith, mul-le-mul_left, pow-suc, add-one, le_trans}
use Rattle.std.specs.List.{AllByRecursion}
use Rattle.std.proofs.lemmas.List.Elements.{All-from_recursion}
use Rattle.std.proofs.lemmas.Bool.{and_from, and_parts}
use Rattle.mk_net.specs.Network.{Variable, sizes}
use Rattle.mk_net.specs.Asked.{Asked, TradeRatio}
use Rattle.mk_states.specs.States.{IsState}
use Rattle.mk_states.specs.InitialWeight.{all_states, value_at}
use Rattle.mk_states.specs.Events.{holds, has, with_target, without_target, always}
use Rattle.mk_states.specs.Ratios.{unit, units_of, ratio_at}
use Rattle.mk_exact.specs.History.{Entry, Trade, deposited, withdrawn}
use Rattle.mk_exact.specs.Weight.{is_possible, possible_states}
use Rattle.mk_exact.specs.Factors.{gain, trade_count, factor, factor_with, least_by, lesser, least_gain, IsAtLeastOne}
use Rattle.mk_exact.specs.Prices.{IsSolvent}
use Rattle.mk_states.specs.OfNetwork.{IsPairOf}
use Rattle.mk_exact.specs.Sides.{ratio_in, traded, AreSolvent}
use Rattle.mk_states.proofs.Sums.{each_kept, kept_each, each_weaker, each_both}
use Rattle.mk_states.proofs.Listed.{all_are}
use Rattle.mk_exact.proofs.Pairs.{ratio_in_at}
use Rattle.mk_exact.proofs.After.{possible_kept, gain_traded, trade_count_traded, deposited_kept, withdrawn_kept}

-- what holds of the least, and of all that is more, holds of each
pub least_each : {X : Type 0} (f : X → ℕ) (P : ℕ → Type 0) → ((a b : ℕ) → a ≤ b → P a → P b) → (xs : List X) → IfSome (least_by f xs) P → AllByRecursion (λ x. P (f x)) xs
least_each f P up [] h = tt
least_each {X} f P up (x ∷ xs) h = (head (least_by f xs) h, least_each f P up xs (tail (least_by f xs) h))
  where
    head : (o : Option ℕ) → IfSome (lesser (Some (f x)) o) P → P (f x)
    head None h = h
    head (Some m) h = up (min (f x) m) (f x) (omega arith) h

    tail : (o : Option ℕ) → IfSome (lesser (Some (f x)) o) P → IfSome o P
    tail None h = tt
    tail (Some m) h = up (min (f x) m) m (omega arith) h

-- units that are solvent for a gain are so for a greater one
pub solvent_up : (F den ins a b : ℕ) → a ≤ b → unit * den ≤ F * (ins * a) → unit * den ≤ F * (ins * b)
solvent_up F den ins a b p q = le_trans q (mul-le-mul_left F (mul-le-mul_left ins p))

-- the factor of a user who has traded: out and units below the line, ins and the gain above it
more_solvent : (out units ins g F : ℕ) → unit * (out * units) ≤ F * (ins * g) → out * (units * unit) ≤ ins * (g * F)
more_solvent out units ins g F p = omega arith

where_holds : (h : Bool) (units den num : ℕ) → den ≤ num → (h ≡ true → unit * den ≤ cond h units unit * num) → unit * den ≤ cond h units unit * num
where_holds false units den num p q = mul-le-mul_left unit p
where_holds true units den num p q = q refl

by_side : (h t : Bool) (F_t F_n den num : ℕ) → h ≡ true → ((h && t) ≡ true → unit * den ≤ F_t * num) → ((h && not t) ≡ true → unit * den ≤ F_n * num)
    → unit * den ≤ cond h (cond t F_t F_n) unit * num
by_side false t F_t F_n den num e q r = absurd (cc)
by_side true true F_t F_n den num e q r = q refl
by_side true false F_t F_n den num e q r = r refl

-- units that are solvent in each possible state where the condition holds leave the factor at least one in each
module _ (network : List Variable) (H : List Entry) (u : ℕ) (r : TradeRatio) where
  at_ratio : (s : List ℕ) → unit * (2 ^ withdrawn H u * unit ^ trade_count H u) ≤ ratio_at r s * (2 ^ deposited H u * gain H u s)
      → IsAtLeastOne (factor (H ++ Trade u r ∷ []) u s)
  at_ratio s p = rw (
    gain_traded H u r u s refl,
    trade_count_traded H u r u refl,
    deposited_kept H (Trade u r) u refl,
    withdrawn_kept H (Trade u r) u refl,
    add-one (trade_count H u),
    pow-suc unit (trade_count H u),
  )
      (more_solvent _ _ _ _ _ p)

  kept_state : (s : List ℕ) → ((is_possible H s && true) ≡ true → IsAtLeastOne (factor H u s))
      → ((is_possible H s && holds r.condition s) ≡ true → IsSolvent (ratio_at r s) (factor H u s))
      → (is_possible (H ++ Trade u r ∷ []) s && true) ≡ true → IsAtLeastOne (factor (H ++ Trade u r ∷ []) u s)
  kept_state s before solvent passes = at_ratio s
      (where_holds (holds r.condition s) (units_of r (value_at s r.variable)) _ _ (before (and_from (is_possible H s) true possible refl))
      (λ e. solvent (and_from (is_possible H s) (holds r.condition s) possible e)))
    where
      possible : is_possible H s ≡ true
      possible = sym (possible_kept H (Trade u r) s refl) ∙ (and_parts (is_possible (H ++ Trade u r ∷ []) s) true passes).0

  pub trade_solvent : All (λ s. IsSolvent (ratio_at r s) (factor H u s)) (possible_states network H (holds r.condition))
      → All (λ s. IsAtLeastOne (factor H u s)) (possible_states network H always)
      → All (λ s. IsAtLeastOne (factor (H ++ Trade u r ∷ []) u s)) (possible_states network (H ++ Trade u r ∷ []) always)
  trade_solvent solvent before = kept_each (λ s. is_possible (H ++ Trade u r ∷ []) s && true) (λ s. IsAtLeastOne (factor (H ++ Trade u r ∷ []) u s)) (all_states network)
      (each_weaker (λ s. Before s × Solvent s) After (λ s h. kept_state s h.0 h.1) (all_states network)
      (each_both Before Solvent (all_states network) (each_kept (λ s. is_possible H s && true) (λ s. IsAtLeastOne (factor H u s)) (all_states network) before)
      (each_kept (λ s. is_possible H s && holds r.condition s) (λ s. IsSolvent (ratio_at r s) (factor H u s)) (all_states network) solvent)))
    where
      Before : List ℕ → Type 0
      Before s = (is_possible H s && true) ≡ true → IsAtLeastOne (factor H u s)

      Solvent : List ℕ → Type 0
      Solvent s = (is_possible H s && holds r.condition s) ≡ true → IsSolvent (ratio_at r s) (factor H u s)

      After : List ℕ → Type 0
      After s = (is_possible (H ++ Trade u r ∷ []) s && true) ≡ true → IsAtLeastOne (factor (H ++ Trade u r ∷ []) u s)

-- a pair that is solvent on both sides is so in each possible state
module _ (network : List Variable) (H : List Entry) (u : ℕ) (asked : Asked) (F_t F_n : ℕ) (fits : IsPairOf network asked.target) where
  least_solvent : (F : ℕ) (test : List ℕ → Bool) → IfSome (least_gain network H u test) (λ g. IsSolvent F (factor_with H u g))
      → AllByRecursion (λ s. (is_possible H s && test s) ≡ true → IsSolvent F (factor_with H u (gain H u s))) (all_states network)
  least_solvent F test h = each_kept (λ s. is_possible H s && test s) (λ s. IsSolvent F (factor_with H u (gain H u s))) (all_states network)
      (All-from_recursion (λ s. IsSolvent F (factor_with H u (gain H u s))) (possible_states network H test)
      (least_each (gain H u) (λ g. IsSolvent F (factor_with H u g)) (λ a b. solvent_up F (2 ^ withdrawn H u * unit ^ trade_count H u) (2 ^ deposited H u) a b) (possible_states network H test) h))

  solvent_state : (s : List ℕ) → IsState (sizes network) s
      → ((is_possible H s && with_target asked s) ≡ true → IsSolvent F_t (factor H u s))
      → ((is_possible H s && without_target asked s) ≡ true → IsSolvent F_n (factor H u s))
      → (is_possible H s && holds asked.condition s) ≡ true → IsSolvent (ratio_at (ratio_in network asked F_t F_n) s) (factor H u s)
  solvent_state s is_state hit miss passes =
      let parts = and_parts (is_possible H s) (holds asked.condition s) passes in
      rw (ratio_in_at network asked F_t F_n fits s is_state)
      (by_side (holds asked.condition s) (has asked.target s) F_t F_n _ _ parts.1
      (λ e. hit (and_from (is_possible H s) (with_target asked s) parts.0 e))
      (λ e. miss (and_from (is_possible H s) (without_target asked s) parts.0 e)))

  pub pair_solvent : AreSolvent network H u asked F_t F_n
      → All (λ s. IsSolvent (ratio_at (ratio_in network asked F_t F_n) s) (factor H u s)) (possible_states network H (holds asked.condition))
  pair_solvent solvent = kept_each (λ s. is_possible H s && holds asked.condition s) (λ s. IsSolvent (ratio_at (ratio_in network asked F_t F_n) s) (factor H u s)) (all_states network)
      (each_weaker (λ s. IsState (sizes network) s × (Hit s × Miss s)) Solvent (λ s h. solvent_state s h.0 h.1.0 h.1.1) (all_states network)
      (each_both (IsState (sizes network)) (λ s. Hit s × Miss s) (all_states network) (all_are network)
      (each_both Hit Miss (all_states network) (least_solvent F_t (with_target asked) solvent.hit) (least_solvent F_n (without_target asked) solvent.miss))))
    where
      Hit : List ℕ → Type 0
      Hit s = (is_possible H s && with_target asked s) ≡ true → IsSolvent F_t (factor H u s)

      Miss : List ℕ → Type 0
      Miss s = (is_possible H s && without_target asked s) ≡ true → IsSolvent F_n (factor H u s)

      Solvent : List ℕ → Type 0
      Solvent s = (is_possible H s && holds asked.condition s) ≡ true → IsSolvent (ratio_at (ratio_in network asked F_t F_n) s) (factor H u s)

  pub solvent_stays : AreSolvent network H u asked F_t F_n
      → All (λ s. IsAtLeastOne (factor H u s)) (possible_states network H always)
      → All (λ s. IsAtLeastOne (factor (traded network H u asked F_t F_n) u s)) (possible_states network (traded network H u asked F_t F_n) always)
  solvent_stays solvent before = trade_solvent network H u (ratio_in network asked F_t F_n) (pair_solvent solvent) before
