-- A user trades.
use Rattle.std.specs.Prelude.{◌≡◌, ℕ, ◌+◌, ◌<◌, ◌≤◌, List, [], ◌∷◌, ◌++◌, length, Bool, true, cond}
use Rattle.std.specs.Prelude.{not, ◌&&◌, ltb, Some, None, option_map, position, slice_index}
use Rattle.std.specs.List.{position_or_len, list_all}
use Rattle.std.proofs.Common.{refl, sym, ap, ap₂, add-zero, ◌∙◌, arith, eq-eqb, ne_eqb}
use Rattle.std.proofs.lemmas.List.{length_push}
use Rattle.mk_net.specs.declared.words.Pair.{Pair}
use Rattle.mk_net.specs.Asked.{Asked, TradeRatio, ratio_pairs}
use Rattle.mk_net.specs.Events.{pairs_asked}
use Rattle.mk_net.specs.Bounds.{max_values, max_market_trades}
use Rattle.mk_net.specs.Network.{Variable, IsNetwork, sizes}
use Rattle.mk_net.specs.Named.{nobody}
use Rattle.mk_sets.specs.Sets.{VarSet, is_member}
use Rattle.mk_exact.specs.History.{Entry, UserTrade, Trade, trades, deposited, withdrawn}
use Rattle.mk_states.specs.OfNetwork.{IsQuestionOf, IsRatioOf}
use Rattle.mk_exact.specs.Sides.{ratio_in}
use Rattle.mk_exact.proofs.After.{trades_more}
use Rattle.mk_states.proofs.Shares.{size_at, few_values_at}
use Rattle.mk_states.proofs.Sums.{list_all-append}
use Rattle.mk_tree.specs.Given.{GivenTree, home, holds_event}
use Rattle.mk_engine.specs.Meaning.{Meaning, RatioOf, with_factor, max_factors}
use Rattle.mk_engine.specs.Beliefs.{CanMultiply}
use Rattle.mk_beliefs.specs.Meanings.{weights_of, gains_of}
use Rattle.mk_beliefs.proofs.Grown.{weights_grow, factors_are_few}
use Rattle.mk_assets.specs.declared.assets.Assets.{Assets}
use Rattle.mk_assets.specs.Holdings.{Holding, Holds, CanTrade, with_trade}
use Rattle.mk_answers.specs.Open.{holding_of}
use Rattle.mk_asking.proofs.Owned.{holding_grows, holding_same}

-- the same test finds the same place
same_place : {X : Type 0} (p q : X → Bool) → ((x : X) → p x ≡ q x) → (xs : List X) → position_or_len p xs ≡ position_or_len q xs
same_place p q same [] = refl
same_place p q same (x ∷ xs) = ap (λ (b : Bool). cond (not b) (1 + position_or_len p xs) 0) (same x) ∙ ap (λ (n : ℕ). cond (not (q x)) (1 + n) 0) (same_place p q same xs)

same_position : {X : Type 0} (p q : X → Bool) → ((x : X) → p x ≡ q x) → (xs : List X) → position p xs ≡ position q xs
same_position p q same xs = ap (λ (n : ℕ). cond (ltb n (length xs)) (Some n) None) (same_place p q same xs)

-- homes depend on the variables of pairs alone
same_home : (t : GivenTree) (condition : List Pair) (a b : Pair) → a.variable ≡ b.variable → home t (condition ++ a ∷ []) ≡ home t (condition ++ b ∷ [])
same_home t condition a b same =
    ap (option_map (λ (k : ℕ). k + 1)) (same_position (holds_event (condition ++ a ∷ [])) (holds_event (condition ++ b ∷ [])) at t.cliques)
  where
    at : (set : VarSet) → holds_event (condition ++ a ∷ []) set ≡ holds_event (condition ++ b ∷ []) set
    at set =
        list_all-append (λ (p : Pair). is_member set p.variable) condition (a ∷ [])
        ∙ ap (λ (v : ℕ). list_all (λ (p : Pair). is_member set p.variable) condition && (is_member set v && true)) same
        ∙ sym (list_all-append (λ (p : Pair). is_member set p.variable) condition (b ∷ []))

-- the variable of a question has 2 to 16 values
module _ (network : List Variable) (legal : IsNetwork network) (asked : Asked) (fits : IsQuestionOf network asked) (values : ℕ) (sized : values ≡ slice_index (sizes network) asked.target.variable) where
  pub two_values : 2 ≤ values
  two_values =
      let v = asked.target.variable in
      omega (arith, sized, size_at network legal v fits.target.variable, (legal.each v nobody fits.target.variable).two_values)

  pub few_values : values ≤ max_values
  few_values = omega (arith, sized, few_values_at network legal asked.target.variable fits.target.variable)

-- the ratio of an edit has the home of its question
pub home_of_ratio : (network : List Variable) (tree : GivenTree) (asked : Asked) (at : ℕ)
    → home tree (pairs_asked asked) ≡ Some at → (hit miss : ℕ)
    → home tree (ratio_pairs (ratio_in network asked hit miss)) ≡ Some at
home_of_ratio network tree asked at at_home hit miss =
    same_home tree asked.condition (record { variable = asked.target.variable; value = 0 })
    asked.target refl ∙ at_home

-- what users hold after a trade
module _ (network : List Variable) (tree : GivenTree) (H : List Entry) (user : ℕ) (ratio : TradeRatio) where
  pub trader_holding : holding_of network tree (H ++ Trade user ratio ∷ []) user ≡ with_trade ratio (holding_of network tree H user)
  trader_holding =
      holding_grows network tree H (Trade user ratio) user
      ∙ rw (eq-eqb user user refl) (
      ap₂ (λ (d w : ℕ). record { meaning = with_factor (RatioOf ratio) (gains_of network tree H user); deposited = d; withdrawn = w }) (add-zero (deposited H user)) (add-zero (withdrawn H user))
      )

  pub others_holding : (u : ℕ) → (u ≡ user → ⊥) → holding_of network tree (H ++ Trade user ratio ∷ []) u ≡ holding_of network tree H u
  others_holding u other = holding_same network tree H (Trade user ratio) u (rw (ne_eqb user u (λ same. other (sym same))) refl) refl refl

-- a trade may be made
module _ (network : List Variable) (tree : GivenTree) (H : List Entry) (legal : IsNetwork network) (user : ℕ) (ratio : TradeRatio) (fits : IsRatioOf network ratio)
    (few : length (trades H) < max_market_trades) where
  few_after : length (trades (H ++ Trade user ratio ∷ [])) ≤ max_market_trades
  few_after =
      let one = ap (λ (ts : List UserTrade). length ts) (trades_more H user ratio) in
      let more = length_push (trades H) (record { user = user; ratio = ratio }) in
      omega (arith, one, more, few)

  pub can_multiply : {E : Type 0} (stands_for : E → Meaning → Type 0) (engine : E) → stands_for engine (weights_of network tree H) → CanMultiply stands_for engine ratio
  can_multiply stands_for engine stands = record {
    meaning = weights_of network tree H;
    stands = stands;
    in_range = fits;
    room = room;
  }
    where
      room : length (weights_of network tree H).factors < max_factors
      room =
          let all = (factors_are_few network tree (H ++ Trade user ratio ∷ []) user legal few_after).0 in
          let same = ap (λ (m : Meaning). length m.factors) (weights_grow network tree H (Trade user ratio)) in
          let one = length_push (weights_of network tree H).factors (RatioOf ratio) in
          omega (arith, all, same, one)

  pub can_trade : {E Plan : Type 0} (stands_for : E → Meaning → Type 0) (assets : Assets E Plan) → Holds stands_for assets (holding_of network tree H user)
      → CanTrade stands_for assets ratio
  can_trade stands_for assets holds = record {
    holding = holding_of network tree H user;
    holds = holds;
    in_range = fits;
    room = room;
  }
    where
      room : length (holding_of network tree H user).meaning.factors < max_factors
      room =
          let all = (factors_are_few network tree (H ++ Trade user ratio ∷ []) user legal few_after).1 in
          let same = ap (λ (h : Holding). length h.meaning.factors) (trader_holding network tree H user ratio) in
          let one = length_push (gains_of network tree H user).factors (RatioOf ratio) in
          omega (arith, all, same, one)
