-- What a fair list says of each value, and of the ratio that it makes.
use Rattle.std.proofs.Common.{◌≡◌, ℕ, zero, suc, ◌+◌, ◌-◌, ◌*◌, ◌^◌, ◌<◌, ◌≤◌, Bool, List, [], ◌∷◌, length, slice_index, sum_by, Option, Some, None, IfSome, IsSomeAnd, All, refl, ◌∙◌, subst, arith}
use Rattle.std.proofs.lemmas.List.Elements.{All-from_recursion}
use Rattle.mk_net.specs.Bounds.{million}
use Rattle.mk_net.specs.Network.{Variable, IsNetwork, sizes}
use Rattle.mk_net.specs.Named.{nobody}
use Rattle.mk_net.specs.Asked.{Asked, IsUnits}
use Rattle.mk_states.specs.Events.{holds, with_target}
use Rattle.mk_states.specs.Ratios.{unit}
use Rattle.mk_exact.specs.History.{Entry}
use Rattle.mk_exact.specs.Weight.{weight, total, possible_states, IsSmall}
use Rattle.mk_exact.specs.Factors.{gain, factor_with, least_gain}
use Rattle.mk_exact.specs.Prices.{price_where, IsFair, IsSolvent}
use Rattle.mk_exact.specs.Limits.{Side, IsFairAndSolvent}
use Rattle.mk_exact.specs.Sides.{IsSide}
use Rattle.mk_states.specs.OfNetwork.{IsRatioOf}
use Rattle.mk_states.proofs.Shares.{size_at, few_values_at}
use Rattle.mk_spread.specs.Spreads.{SpreadAsked, asked_of, IsSpreadOf, spread_ratio}
use Rattle.mk_spread.specs.Bounds.{IsFairFor}
use Rattle.mk_spread.specs.Markets.{IsValueSide, IsFairList}
use Rattle.mk_spread.specs.Laws.{AreOfValues}
use Rattle.mk_spread.proofs.Left.{none_least}
use Rattle.mk_spread.proofs.Listed.{ranged_length, fair_lengths, fair_at, each_units}

-- what the units of a value are for its share: no more than fair and nearly so much, and where there is a share there is weight
pub record IsFairShare (part whole X F : ℕ) : Type 0 where
  pub not_above : F * million * part ≤ X * unit * whole
  pub close : X * unit * whole * (2 ^ 30 - 1) ≤ (F + 1) * million * part * 2 ^ 30
  pub weighs : 1 ≤ X → 1 ≤ part

share_of_fair : (small : Type 0) (part whole X F : ℕ) → IsFair small F X (record { num = part; den = whole }) → IsFairShare part whole X F
share_of_fair small part whole X F fair = record { not_above = fair.not_above; close = omega (arith, fair.close); weighs = λ _. at part fair.close }
  where
    at : (part : ℕ) → X * unit * whole * (2 ^ 30 - 1) < (F + 1) * million * part * 2 ^ 30 → 1 ≤ part
    at zero h = absurd (omega arith)
    at (suc part) h = omega arith

-- of a side, or of a value that has none
side_share : (network : List Variable) (H : List Entry) (u : ℕ) (asked : Asked) (side : Side) (X F : ℕ) → IsSide network H u asked (with_target asked) side
    → IsFairAndSolvent (IsSmall network H) side X F → IsFairShare (total network H (with_target asked)) (total network H (holds asked.condition)) X F
side_share network H u asked side X F h k = at (least_gain network H u (with_target asked)) h
  where
    at : (o : Option ℕ) → IsSomeAnd o (λ g. side ≡ record { price = price_where network H asked.condition (with_target asked); least = factor_with H u g })
        → IsFairShare (total network H (with_target asked)) (total network H (holds asked.condition)) X F
    at None h = absurd h
    at (Some g) e = share_of_fair (IsSmall network H) (total network H (with_target asked)) (total network H (holds asked.condition)) X F
        (subst (λ (s : Side). IsFair (IsSmall network H) F X s.price) e k.fair)

no_weight : (network : List Variable) (H : List Entry) (test : List ℕ → Bool) → length (possible_states network H test) ≡ 0 → total network H test ≡ 0
no_weight network H test none = at (possible_states network H test) none
  where
    at : (states : List (List ℕ)) → length states ≡ 0 → sum_by (weight network H) states ≡ 0
    at [] e = refl
    at (s ∷ states) e = absurd (omega arith)

value_share : (network : List Variable) (H : List Entry) (u : ℕ) (spread : SpreadAsked) (k : ℕ) (side : Option Side) (X F : ℕ) → IsValueSide network H u spread k side
    → IsFairFor (IsSmall network H) side X F → IsFairShare (total network H (with_target (asked_of spread k))) (total network H (holds spread.condition)) X F
value_share network H u spread k (Some side) X F h f = side_share network H u (asked_of spread k) side X F h f
value_share network H u spread k None X F h f =
    let weightless = no_weight network H (with_target (asked_of spread k)) (none_least (gain H u) (possible_states network H (with_target (asked_of spread k))) h) in
    rw (weightless, f.0) (record { not_above = omega arith; close = omega arith; weighs = λ some. absurd (omega arith) })

-- and they are solvent for the user's least gain
value_solvent : (network : List Variable) (H : List Entry) (u : ℕ) (spread : SpreadAsked) (k : ℕ) (side : Option Side) (X F : ℕ) → IsValueSide network H u spread k side
    → IsFairFor (IsSmall network H) side X F → IfSome (least_gain network H u (with_target (asked_of spread k))) (λ g. IsSolvent F (factor_with H u g))
value_solvent network H u spread k None X F h f = rw h tt
value_solvent network H u spread k (Some side) X F h f = at (least_gain network H u (with_target (asked_of spread k))) h
  where
    at : (o : Option ℕ) → IsSomeAnd o (λ g. side ≡ record { price = price_where network H spread.condition (with_target (asked_of spread k)); least = factor_with H u g })
        → IfSome o (λ g. IsSolvent F (factor_with H u g))
    at None h = absurd h
    at (Some g) e = subst (λ (s : Side). IsSolvent F s.least) e f.solvent

-- units that are fair for a value are positive, and fit
fair_units : (small : Type 0) (side : Option Side) (X F : ℕ) → IsFairFor small side X F → IsUnits F
fair_units small None X F h = rw h.1 (record { positive = omega arith; fits = omega arith })
fair_units small (Some side) X F h = record { positive = h.fair.positive; fits = h.fair.fits }

-- as many as the variable has values
pub of_values : {X : Type 0} (network : List Variable) → IsNetwork network → (spread : SpreadAsked) (xs : List X) → spread.variable < length network
    → length xs ≡ slice_index (sizes network) spread.variable → AreOfValues xs
of_values network net spread xs within long = record {
  two = omega (arith, long, size_at network net spread.variable within, (net.each spread.variable nobody within).two_values);
  few = omega (arith, long, few_values_at network net spread.variable within);
}

module _ (network : List Variable) (H : List Entry) (u : ℕ) (spread : SpreadAsked) (Xs Fs : List ℕ) (list : IsFairList network H u spread Xs Fs) where
  pub listed_fair : (k : ℕ) → k < slice_index (sizes network) spread.variable
      → IsFairShare (total network H (with_target (asked_of spread k))) (total network H (holds spread.condition)) (slice_index Xs k) (slice_index Fs k)
  listed_fair k p = at (fair_at (IsValueSide network H u spread) (IsSmall network H) (slice_index (sizes network) spread.variable) 0 list.sides Xs Fs list.are_sides list.units k p)
    where
      same : 0 + k ≡ k
      same = omega arith

      at : (side : Option Side) × IsValueSide network H u spread (0 + k) side × IsFairFor (IsSmall network H) side (slice_index Xs k) (slice_index Fs k)
          → IsFairShare (total network H (with_target (asked_of spread k))) (total network H (holds spread.condition)) (slice_index Xs k) (slice_index Fs k)
      at r = value_share network H u spread k (r.0) (slice_index Xs k) (slice_index Fs k) (subst (λ i. IsValueSide network H u spread i (r.0)) same (r.1)) (r.2)

  pub listed_solvent : (k : ℕ) → k < slice_index (sizes network) spread.variable
      → IfSome (least_gain network H u (with_target (asked_of spread k))) (λ g. IsSolvent (slice_index Fs k) (factor_with H u g))
  listed_solvent k p = at (fair_at (IsValueSide network H u spread) (IsSmall network H) (slice_index (sizes network) spread.variable) 0 list.sides Xs Fs list.are_sides list.units k p)
    where
      same : 0 + k ≡ k
      same = omega arith

      at : (side : Option Side) × IsValueSide network H u spread (0 + k) side × IsFairFor (IsSmall network H) side (slice_index Xs k) (slice_index Fs k)
          → IfSome (least_gain network H u (with_target (asked_of spread k))) (λ g. IsSolvent (slice_index Fs k) (factor_with H u g))
      at r = value_solvent network H u spread k (r.0) (slice_index Xs k) (slice_index Fs k) (subst (λ i. IsValueSide network H u spread i (r.0)) same (r.1)) (r.2)

  pub listed_lengths : (length Xs ≡ slice_index (sizes network) spread.variable) × (length Fs ≡ slice_index (sizes network) spread.variable)
  listed_lengths =
      let long = ranged_length (IsValueSide network H u spread) (slice_index (sizes network) spread.variable) 0 list.sides list.are_sides in
      let both = fair_lengths (IsSmall network H) list.sides Xs Fs list.units in
      (both.0 ∙ long, both.1 ∙ long)

  pub fair_list_is_ratio : IsSpreadOf network spread → IsRatioOf network (spread_ratio spread Fs)
  fair_list_is_ratio fits = record {
    variable = fits.variable;
    condition = fits.condition;
    one_each = listed_lengths.1;
    positive = each_units (λ units. 1 ≤ units) (IsSmall network H) (λ side X F h. (fair_units (IsSmall network H) side X F h).positive) list.sides Xs Fs list.units;
  }

  pub fair_list_fits : IsNetwork network → spread.variable < length network → AreOfValues Fs × All IsUnits Fs
  fair_list_fits net within = (
    of_values network net spread Fs within (listed_lengths.1),
    All-from_recursion IsUnits Fs (each_units IsUnits (IsSmall network H) (fair_units (IsSmall network H)) list.sides Xs Fs list.units),
  )
