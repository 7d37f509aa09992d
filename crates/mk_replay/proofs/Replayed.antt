-- An engine takes a history entry by entry.
use Rattle.std.proofs.Common.{◌≡◌, ℕ, ◌+◌, ◌<◌, List, [], ◌∷◌, ◌++◌, length, take, drop}
use Rattle.std.proofs.Common.{true, is_some, ◌≤◌, refl, sym, ap, subst, ◌∙◌, arith, sum_by}
use Rattle.std.proofs.Common.{length-append, append_assoc, eq-eqb}
use Rattle.std.specs.List.{AllByRecursion}
use Rattle.std.proofs.lemmas.List.{take-append-drop}
use Rattle.std.proofs.lemmas.List.Elements.{filter_map-append}
use Rattle.std.proofs.lemmas.List.Sums.{sum_by-append, sum_by-cons}
use Rattle.mk_net.specs.declared.words.Pair.{Pair}
use Rattle.mk_net.specs.Asked.{TradeRatio, ratio_pairs}
use Rattle.mk_net.specs.Bounds.{max_market_trades}
use Rattle.mk_net.specs.Network.{Variable, IsNetwork}
use Rattle.mk_exact.specs.History as history
use Rattle.mk_exact.specs.History.{UserTrade, trade_in, resolution_in, trades, resolutions, users}
use Rattle.mk_states.specs.OfNetwork.{IsPairOf}
use Rattle.mk_exact.specs.Proper.{IsTradeOf}
use Rattle.mk_exact.proofs.After.{trades_more}
use Rattle.mk_tree.specs.Given.{GivenTree, home}
use Rattle.mk_tree.specs.Checked.{IsTreeOf}
use Rattle.mk_tree.proofs.Held.{pair_has_home}
use Rattle.mk_engine.specs.Meaning.{Meaning, RatioOf, max_factors, with_factor}
use Rattle.mk_beliefs.specs.Meanings.{weights_of, gains_of, grown, grown_for}
use Rattle.mk_beliefs.proofs.Grown.{weights_grow, gains_grow, factors_are_few}
use Rattle.mk_replay.specs.Placed.{IsPlaced}
use Rattle.mk_replay.specs.inner.Taking.{CanTakeBy}

-- what stands before one of the changes, it, and those behind it
pub around : (H : List history.Entry) (e : history.Entry) (i : ℕ)
    → take (i + 1) H ≡ take i H ++ e ∷ [] → H ≡ take i H ++ e ∷ drop (i + 1) H
around H e i next = sym (take-append-drop (i + 1) H)
    ∙ ap (λ (front : List history.Entry). front ++ drop (i + 1) H) next
    ∙ append_assoc (take i H) (e ∷ []) (drop (i + 1) H)

-- what is summed over all of them is no less than what is summed before one and what it adds
pub sum_through : (f : history.Entry → ℕ) (front rest : List history.Entry) (e : history.Entry)
    (most : ℕ) → sum_by f (front ++ e ∷ rest) ≤ most → sum_by f front + f e ≤ most
sum_through f front rest e most few =
    let all = sum_by-append f front (e ∷ rest) in let one = sum_by-cons f e rest in omega arith

-- one more entry is taken
pub take_one : {E : Type 0} (stands_for : E → Meaning → Type 0) (engine : E)
    (network : List Variable) (tree : GivenTree) (H : List history.Entry) (e : history.Entry) (i : ℕ)
    → take (i + 1) H ≡ take i H ++ e ∷ []
    → stands_for engine (grown e (weights_of network tree (take i H)))
    → stands_for engine (weights_of network tree (take (i + 1) H))
take_one stands_for engine network tree H e i next h =
    subst (λ (m : Meaning). stands_for engine m)
    (sym (weights_grow network tree (take i H) e) ∙ ap (weights_of network tree) (sym next)) h

-- the last part of what holds of each
pub all_back : {X : Type 0} (P : X → Type 0) (xs ys : List X) → AllByRecursion P (xs ++ ys)
    → AllByRecursion P ys
all_back P [] ys h = h
all_back P (x ∷ xs) ys h = all_back P xs ys h.1

module _ (network : List Variable) (tree : GivenTree) (legal : IsNetwork network) where
  -- before one more trade there is room, in the weights and in each user's gains
  module _ (H : List history.Entry) (u : ℕ) (ratio : TradeRatio) where
    longer : List history.Entry
    longer = H ++ history.Trade u ratio ∷ []

    own_grow : (m : Meaning) → grown_for u (history.Trade u ratio) m ≡ with_factor (RatioOf ratio) m
    own_grow m = rw (eq-eqb u u refl) refl

    room_left : length (trades H) < max_market_trades
        → (length (weights_of network tree H).factors < max_factors)
        × (length (gains_of network tree H u).factors < max_factors)
    unfolding longer
    room_left few =
        let trade : UserTrade = record { user = u; ratio = ratio } in
        let count : length (trades longer) ≡ length (trades H) + 1 =
        ap length (trades_more H u ratio) ∙ length-append (trades H) (trade ∷ []) in
        let most = factors_are_few network tree longer u legal (omega (arith, count, few)) in
        let weights : length (weights_of network tree longer).factors
        ≡ length (weights_of network tree H).factors + 1 =
        ap (λ (m : Meaning). length m.factors) (weights_grow network tree H
        (history.Trade u ratio)) ∙ length-append (weights_of network tree H).factors
        (RatioOf ratio ∷ []) in
        let gains : length (gains_of network tree longer u).factors
        ≡ length (gains_of network tree H u).factors + 1 =
        ap (λ (m : Meaning). length m.factors) (gains_grow network tree H u
        (history.Trade u ratio) ∙ own_grow (gains_of network tree H u))
        ∙ length-append (gains_of network tree H u).factors (RatioOf ratio ∷ []) in
        (omega (arith, most.0, weights), omega (arith, most.1, gains))

  module _ (tree_of_it : IsTreeOf network tree) where
    can_take_here : (u : ℕ) (front rest : List history.Entry) (e : history.Entry)
        → IsPlaced network tree (front ++ e ∷ rest)
        → CanTakeBy (weights_of network tree front) e × CanTakeBy (gains_of network tree front u) e
    can_take_here u front rest (history.Join name) placed = (tt, tt)
    can_take_here u front rest (history.Deposit user bits) placed = (tt, tt)
    can_take_here u front rest (history.Withdraw user bits) placed = (tt, tt)
    can_take_here u front rest (history.Settle payments) placed = (tt, tt)
    can_take_here u front rest (history.Add addition) placed = (tt, tt)
    can_take_here u front rest (history.Resolve pair) placed =
        let known : resolutions (front ++ history.Resolve pair ∷ rest) ≡ resolutions front ++ pair ∷
        resolutions rest = filter_map-append resolution_in front (history.Resolve pair ∷ rest) in
        let fits : AllByRecursion (IsPairOf network) (resolutions front ++ pair ∷ resolutions rest)
        = subst (λ (ps : List Pair). AllByRecursion (IsPairOf network) ps) known
        placed.proper.resolutions_fit in
        let here = all_back (IsPairOf network) (resolutions front) (pair ∷ resolutions rest) fits in
        let at_home = pair_has_home network tree pair
        (tree_of_it.covers pair.variable here.0.variable) in
        ((here.0, at_home), (here.0, at_home))
    can_take_here u front rest (history.Trade user ratio) placed =
        let H = front ++ history.Trade user ratio ∷ rest in
        let t : UserTrade = record { user = user; ratio = ratio } in
        let made : trades H ≡ trades front ++ t ∷ trades rest =
        filter_map-append trade_in front (history.Trade user ratio ∷ rest) in
        let fits = subst (λ (ts : List UserTrade). AllByRecursion (IsTradeOf network
        (length (users H))) ts) made placed.proper.trades_fit in
        let homes = subst (λ (ts : List UserTrade). AllByRecursion
        (λ (t : UserTrade). is_some (home tree (ratio_pairs t.ratio)) ≡ true) ts) made
        placed.homes in
        let fit = all_back (IsTradeOf network (length (users H))) (trades front) (t ∷ trades rest)
        fits in
        let at_home = all_back (λ (t : UserTrade). is_some (home tree (ratio_pairs t.ratio)) ≡ true)
        (trades front) (t ∷ trades rest) homes in
        let all : length (trades H) ≡ length (trades front) + length (t ∷ trades rest) = ap length
        made ∙ length-append (trades front) (t ∷ trades rest) in
        let room = room_left front u ratio (omega (arith, all, placed.few_trades)) in
        ((fit.0.ratio, at_home.0, room.0), (fit.0.ratio, at_home.0, room.1))

    -- each entry can be taken after those before it, by the weights and by each user's gains
    pub can_take_one : (u : ℕ) (H : List history.Entry) (e : history.Entry) (i : ℕ)
        → take (i + 1) H ≡ take i H ++ e ∷ [] → IsPlaced network tree H
        → CanTakeBy (weights_of network tree (take i H)) e
        × CanTakeBy (gains_of network tree (take i H) u) e
    can_take_one u H e i next placed =
        can_take_here u (take i H) (drop (i + 1) H) e
        (subst (λ (H : List history.Entry). IsPlaced network tree H) (around H e i next) placed)
