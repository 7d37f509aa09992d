-- The least factors of a user's assets in a market in use.
use Rattle.std.proofs.Common.{◌≡◌, ℕ, zero, suc, ℤ, pos, negsuc, ◌+◌, ◌*◌, ◌^◌, ◌<◌, ◌≤◌, ◌↔◌, true, false, cond, List, [], ◌∷◌, ◌++◌, map, length, Option, Some, None, IsSome, refl, sym, ap, subst, ◌∙◌, arith}
use Rattle.std.specs.Prelude.{is_some, IfSome}
use Rattle.std.specs.List.{count_by, AllByRecursion}
use Rattle.std.proofs.lemmas.List.{length-map}
use Rattle.std.proofs.lemmas.List.Sums.{sum_by-cons}
use Rattle.std.proofs.Common.{length-append}
use Rattle.std.proofs.Math.Nat.{mul-le-mul}
use Rattle.mk_net.specs.declared.words.Pair.{Pair}
use Rattle.mk_net.specs.Bounds.{max_points_per_bit, max_values}
use Rattle.mk_net.specs.Network.{Variable}
use Rattle.mk_net.specs.Zeros.{with_zeros}
use Rattle.mk_states.specs.Events.{always}
use Rattle.mk_exact.specs.Factors.{HoldsNoTrade, gain, factor_with, least_gain, trade_count}
use Rattle.mk_exact.specs.History.{Entry, UserTrade, deposited, withdrawn, trades, trades_of}
use Rattle.mk_states.specs.Ratios.{ratio_at}
use Rattle.mk_states.specs.States.{product_by}
use Rattle.mk_exact.specs.Weight.{IsSmall, possible_states}
use Rattle.mk_exact.proofs.ExistBounds.{least_gain_at_most}
use Rattle.mk_exact.proofs.ExistMarkets.{least_gain_exists, of_least}
use Rattle.mk_cell.specs.Least.{least}
use Rattle.mk_scaled.specs.Range.{two_to}
use Rattle.mk_tree.specs.Given.{GivenTree}
use Rattle.mk_enclose.specs.declared.factor.Factor.{Factor}
use Rattle.mk_enclose.specs.Enclosure.{upper_of, Encloses}
use Rattle.mk_enclose.specs.Factor.{paid_in, taken_out, StandsFor}
use Rattle.mk_enclose.specs.inner.Standing.{stands_for}
use Rattle.mk_engine.specs.Meaning.{Factor as Multiplied, SupportOf, RatioOf, is_ratio, exact_belief, max_factors, max_grade}
use Rattle.mk_beliefs.specs.Meanings.{gains_of, if_present}
use Rattle.mk_beliefs.proofs.Gained.{all_is_least, gains_are_small}
use Rattle.mk_beliefs.proofs.Grown.{factors_are_few}
use Rattle.mk_cash.specs.Factors.{HasPowersInRange}
use Rattle.mk_cash.specs.inner.Within.{powers_in_range}
use Rattle.mk_assets.specs.Holdings.{Holding, IsNet, IsLeastFactor, max_bits}
use Rattle.mk_judge.specs.Powers.{HasCashRange}
use Rattle.mk_answers.specs.Open.{IsOpen, IsFactorFor, holding_of}
use Rattle.mk_answers.specs.inner.Found.{IsCounted}
use Rattle.mk_answers.proofs.Room.{gains_room, upper_few}

-- a least value that is present is the number itself
pub present_is : (n g : ℕ) → if_present n ≡ Some g → (n ≡ g) × (1 ≤ n)
present_is zero g e = cc
present_is (suc n) g e = (cc, omega arith)

-- a holding whose least gain is not zero has a least factor
pub some_least : (h : Holding) (n most : ℕ) (result : Option Factor) → IsLeastFactor h n most result → 1 ≤ n → IsSome result
some_least h n most result l some = at result l.none
  where
    at : (o : Option Factor) → (is_some o ≡ false) ↔ (n ≡ 0) → is_some o ≡ true
    at None k = absurd (let z = k.0 refl in omega arith)
    at (Some f) k = refl

-- net bits are no more than were paid in, or than were taken out
paid_few : (net : ℤ) (deposits withdrawals : ℕ) → IsNet net deposits withdrawals → paid_in net ≤ deposits
paid_few (pos n) deposits withdrawals h = omega (arith, h.same)
paid_few (negsuc n) deposits withdrawals h = omega arith

taken_few : (net : ℤ) (deposits withdrawals : ℕ) → IsNet net deposits withdrawals → taken_out net ≤ withdrawals
taken_few (pos n) deposits withdrawals h = omega arith
taken_few (negsuc n) deposits withdrawals h = omega (arith, h.same)

product_small : (b x : ℕ) → b ≤ 1000000 → x ≤ 1100000000 → b * x < 2 ^ 50
product_small b x h l = let m : b * x ≤ 1000000 * 1100000000 = mul-le-mul h l in omega arith

-- each ratio of a list of trades counts
ratios_are : (ts : List UserTrade) → count_by is_ratio (map (λ (t : UserTrade). RatioOf t.ratio) ts) ≡ length ts
ratios_are [] = refl
ratios_are (t ∷ ts) = counted_more (map (λ (t : UserTrade). RatioOf t.ratio) ts) ∙ ap suc (ratios_are ts)
  where
    counted_more : (fs : List Multiplied) → count_by is_ratio (RatioOf t.ratio ∷ fs) ≡ suc (count_by is_ratio fs)
    counted_more fs = let more = sum_by-cons (λ (f : Multiplied). cond (is_ratio f) 1 0) (RatioOf t.ratio) fs in omega (arith, more)

-- supports and trades as factors hold as many trades
trades_are : (ks : List ℕ) (ts : List UserTrade) → count_by is_ratio (map SupportOf ks ++ map (λ (t : UserTrade). RatioOf t.ratio) ts) ≡ length ts
trades_are [] ts = ratios_are ts
trades_are (k ∷ ks) ts = trades_are ks ts

-- the gain of a user who holds no trade is one, in each state
none_gained : (ts : List UserTrade) (s : List ℕ) → length ts ≡ 0
    → product_by (λ (t : UserTrade). ratio_at t.ratio s) ts ≡ 1
none_gained [] s none = refl
none_gained (t ∷ ts) s none = absurd (omega arith)

pub idle_gain : (H : List Entry) (u : ℕ) → HoldsNoTrade H u → (s : List ℕ) → gain H u s ≡ 1
idle_gain H u none s = none_gained (trades_of H u) s none

module _ (network : List Variable) (tree : GivenTree) (H : List Entry) (u : ℕ) (is_open : IsOpen network tree H) where
  few : length (gains_of network tree H u).factors ≤ max_factors
  few = (factors_are_few network tree H u is_open.legal is_open.within.few_trades).1

  module _ (n most : ℕ) (result : Option Factor) (f : Factor) (is : result ≡ Some f) (least_is : IsLeastFactor (holding_of network tree H u) n most result)
      (close : most ≤ length (gains_of network tree H u).factors + max_grade + max_values) where
    its : IsLeastFactor (holding_of network tree H u) n most (Some f)
    its = subst (λ (o : Option Factor). IsLeastFactor (holding_of network tree H u) n most o) is least_is

    counted : f.trades ≡ trade_count H u
    counted = its.trades ∙ trades_are (with_zeros network) (trades_of H u)

    stands : (g : ℕ) → n ≡ g → StandsFor f (2 ^ deposited H u * g) (2 ^ withdrawn H u * (2 ^ 40) ^ trade_count H u)
    stands g e =
        subst (λ (m : ℕ). StandsFor f (2 ^ deposited H u * m) (2 ^ withdrawn H u * (2 ^ 40) ^ trade_count H u)) e
        (subst (λ (k : ℕ). StandsFor f (2 ^ deposited H u * n) (2 ^ withdrawn H u * (2 ^ 40) ^ k)) counted
        (stands_for f n (deposited H u) (withdrawn H u) its.gain its.net.same))

    -- the factor that is found is for the least gain
    pub factor_for : (most_trades : ℕ) → length (trades H) ≤ most_trades → (g : ℕ) → n ≡ g
        → IsFactorFor f most_trades (IsSmall network H) (factor_with H u g)
    factor_for most_trades fit g e = record {
      stands = stands g e;
      graded = record {
        grade = most;
        small = omega (arith, close, gains_room network tree H is_open most_trades fit u);
        has = its.grade.0;
      };
      exact = λ s. its.exact (gains_are_small network tree H u is_open.legal is_open.proper s);
    }

    pub encloses_least : (g : ℕ) → n ≡ g → Encloses f.gain g
    encloses_least g e = subst (Encloses f.gain) e its.gain

    own_few : trade_count H u ≤ max_factors
    own_few =
        let all = length-append (map SupportOf (with_zeros network)) (map (λ (t : UserTrade). RatioOf t.ratio) (trades_of H u)) in
        let own = length-map (trades_of H u) (λ (t : UserTrade). RatioOf t.ratio) in
        omega (arith, all, own, few)

    -- it counts the user's trades and bits
    pub is_counted : deposited H u ≤ max_bits → withdrawn H u ≤ max_bits → IsCounted H u f
    is_counted few_in few_out =
        let paid = paid_few f.net (deposited H u) (withdrawn H u) its.net in
        let taken = taken_few f.net (deposited H u) (withdrawn H u) its.net in
        record {
          trades = counted;
          net = its.net;
          range = record {
            above = omega (arith, paid, few_in);
            below = omega (arith, taken, few_out, counted, own_few);
          };
        }

    -- a gain of at most 63 bits for each trade has an upper end of one bit more at most
    top_few : n ≤ 2 ^ (63 * trade_count H u) → upper_of f.gain ≤ two_to (63 * trade_count H u + 1)
    top_few small = upper_few f.gain n most (63 * trade_count H u) (omega (arith, close, few))
        its.grade.0 its.gain small

    -- and what its cash is compared with has few enough bits
    pub cash_in_range : n ≤ 2 ^ (63 * trade_count H u) → deposited H u ≤ max_bits
        → withdrawn H u ≤ max_bits → (b : ℕ) → b ≤ max_points_per_bit → HasCashRange f b
    cash_in_range small few_in few_out b h =
        let paid = paid_few f.net (deposited H u) (withdrawn H u) its.net in
        let taken = taken_few f.net (deposited H u) (withdrawn H u) its.net in
        record {
          bits = 63 * trade_count H u + 1;
          gain = top_few small;
          above = product_small b (paid_in f.net + (63 * trade_count H u + 1 + 59)) h
              (omega (arith, paid, few_in, own_few));
          below = product_small b (40 * f.trades + taken_out f.net) h
              (omega (arith, taken, few_out, counted, own_few));
        }

    -- and its powers are in range
    pub factor_in_range : n ≤ 2 ^ (63 * trade_count H u) → deposited H u ≤ max_bits
        → withdrawn H u ≤ max_bits → (b : ℕ) → b ≤ max_points_per_bit → HasPowersInRange f b
    factor_in_range small few_in few_out b h =
        let paid = paid_few f.net (deposited H u) (withdrawn H u) its.net in
        let taken = taken_few f.net (deposited H u) (withdrawn H u) its.net in
        let same = counted in
        let own = own_few in
        powers_in_range f b (63 * trade_count H u + 1) (top_few small)
        (product_small b (paid_in f.net + (63 * trade_count H u + 1)) h
        (omega (arith, paid, few_in, own)))
        (product_small b (40 * f.trades + taken_out f.net) h
        (omega (arith, taken, few_out, same, own)))

  -- the least gain over all possible states
  pub always_some : 1 ≤ exact_belief least (gains_of network tree H u) []
  always_some =
      let has = least_gain_exists network H u is_open.legal is_open.proper in
      (present_is (exact_belief least (gains_of network tree H u) []) has.least (sym (all_is_least network tree H u is_open.legal is_open.proper) ∙ has.is_least)).1

  pub always_is : (g : ℕ) → least_gain network H u always ≡ Some g → exact_belief least (gains_of network tree H u) [] ≡ g
  always_is g e = (present_is (exact_belief least (gains_of network tree H u) []) g (sym (all_is_least network tree H u is_open.legal is_open.proper) ∙ e)).0

  -- and of at most 63 bits for each trade
  always_small : exact_belief least (gains_of network tree H u) [] ≤ 2 ^ (63 * trade_count H u)
  always_small =
      let has = least_gain_exists network H u is_open.legal is_open.proper in
      rw (always_is has.least has.is_least)
      (least_gain_at_most network H is_open.within u always has.least has.is_least)

  -- which is one where the user holds no trade
  always_one : HoldsNoTrade H u → exact_belief least (gains_of network tree H u) [] ≡ 1
  always_one none =
      let has = least_gain_exists network H u is_open.legal is_open.proper in
      let one : IfSome (least_gain network H u always) (λ g. g ≡ 1) = of_least (gain H u)
      (λ g. g ≡ 1) (possible_states network H always)
      (each_one (possible_states network H always)) in
      always_is has.least has.is_least ∙ subst (λ (o : Option ℕ). IfSome o (λ g. g ≡ 1))
      has.is_least one
    where
      each_one : (ss : List (List ℕ)) → AllByRecursion (λ s. gain H u s ≡ 1) ss
      each_one [] = tt
      each_one (s ∷ ss) = (idle_gain H u none s, each_one ss)

  module _ (event : List Pair) (nothing : event ≡ []) (most : ℕ) (result : Option Factor)
      (least_is : IsLeastFactor (holding_of network tree H u) (exact_belief least (gains_of network tree H u) event) most result) where
    over_all : IsLeastFactor (holding_of network tree H u) (exact_belief least (gains_of network tree H u) []) most result
    over_all = subst (λ (ps : List Pair). IsLeastFactor (holding_of network tree H u) (exact_belief least (gains_of network tree H u) ps) most result) nothing least_is

    pub some_worst : IsSome result
    some_worst = some_least (holding_of network tree H u) (exact_belief least (gains_of network tree H u) []) most result over_all always_some

    module _ (f : Factor) (is : result ≡ Some f) (close : most ≤ length (gains_of network tree H u).factors + max_grade + max_values) where
      pub worst_for : (most_trades : ℕ) → length (trades H) ≤ most_trades → (g : ℕ)
          → least_gain network H u always ≡ Some g
          → IsFactorFor f most_trades (IsSmall network H) (factor_with H u g)
      worst_for most_trades fit g e = factor_for (exact_belief least (gains_of network tree H u) [])
          most result f is over_all close most_trades fit g (always_is g e)

      pub worst_idle : HoldsNoTrade H u → Encloses f.gain 1
      worst_idle none = encloses_least (exact_belief least (gains_of network tree H u) []) most
          result f is over_all close 1 (always_one none)

      pub worst_counted : deposited H u ≤ max_bits → withdrawn H u ≤ max_bits → IsCounted H u f
      worst_counted few_in few_out = is_counted (exact_belief least (gains_of network tree H u) [])
          most result f is over_all close few_in few_out

      pub worst_cash : deposited H u ≤ max_bits → withdrawn H u ≤ max_bits → (b : ℕ)
          → b ≤ max_points_per_bit → HasCashRange f b
      worst_cash few_in few_out = cash_in_range (exact_belief least (gains_of network tree H u) [])
          most result f is over_all close always_small few_in few_out

      pub worst_in_range : deposited H u ≤ max_bits → withdrawn H u ≤ max_bits → (b : ℕ) → b ≤ max_points_per_bit → HasPowersInRange f b
      worst_in_range few_in few_out =
          factor_in_range (exact_belief least (gains_of network tree H u) []) most result f is
          over_all close always_small few_in few_out
