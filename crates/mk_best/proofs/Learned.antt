-- What a history's weights are once pairs are known beside it.
use Rattle.std.proofs.Common.{◌≡◌, ℕ, ◌*◌, ◌<◌, ◌^◌, Bool, true, false, ◌&&◌, List, [], ◌∷◌}
use Rattle.std.proofs.Common.{◌++◌, map, filter, length, sum_by, refl, sym, ap, ap₂}
use Rattle.std.proofs.Common.{subst, ◌∙◌, append-nil}
use Rattle.std.specs.List.{filter_map}
use Rattle.std.proofs.Math.Path.{fun_ext}
use Rattle.std.proofs.Math.Bool.{and-true}
use Rattle.std.proofs.lemmas.List.Elements.{filter_map-append}
use Rattle.mk_net.specs.declared.words.Pair.{Pair}
use Rattle.mk_net.specs.Network.{Variable}
use Rattle.mk_states.specs.Events.{has, holds, always}
use Rattle.mk_exact.specs.History.{Entry, Resolve, UserTrade, trade_in, resolution_in, trades}
use Rattle.mk_exact.specs.History.{resolutions}
use Rattle.mk_states.specs.InitialWeight.{all_states, initial_weight}
use Rattle.mk_states.specs.Ratios.{ratio_at}
use Rattle.mk_states.specs.States.{numbers_below, product_by}
use Rattle.mk_exact.specs.Weight.{total, IsSmall}
use Rattle.mk_states.proofs.Sums.{list_all-append}
use Rattle.mk_tree.specs.Given.{GivenTree}
use Rattle.mk_engine.specs.Meaning.{Meaning, Factor, RowsOf, RatioOf}
use Rattle.mk_beliefs.specs.Meanings.{weights_of}
use Rattle.mk_replay.specs.Known.{with_all_known}
use Rattle.mk_best.specs.inner.Engines.{learned}

pub learned_none : (H : List Entry) → learned H [] ≡ H
learned_none H = append-nil H

-- what holds of a history holds of each from which known pairs lead to it
pub holds_after : (P : List Entry → Type 0) (H : List Entry) {K : List Entry}
    {pairs known : List Pair} → known ≡ pairs → learned H pairs ≡ K → P K → P (learned H known)
holds_after P H is leads p =
    subst (λ (ps : List Pair). P (learned H ps)) (sym is) (subst P (sym leads) p)

no_trades : (pairs : List Pair) → filter_map trade_in (map Resolve pairs) ≡ []
no_trades [] = refl
no_trades (p ∷ ps) = no_trades ps

all_known : (pairs : List Pair) → filter_map resolution_in (map Resolve pairs) ≡ pairs
all_known [] = refl
all_known (p ∷ ps) = ap (λ (qs : List Pair). p ∷ qs) (all_known ps)

module _ (H : List Entry) (pairs : List Pair) where
  pub trades_learned : trades (learned H pairs) ≡ trades H
  trades_learned = filter_map-append trade_in H (map Resolve pairs) ∙ ap
      (λ (ts : List UserTrade). trades H ++ ts) (no_trades pairs) ∙ append-nil (trades H)

  pub resolutions_learned : resolutions (learned H pairs) ≡ resolutions H ++ pairs
  resolutions_learned = filter_map-append resolution_in H (map Resolve pairs) ∙ ap
      (λ (ps : List Pair). resolutions H ++ ps) (all_known pairs)

  -- the weights then are those with the pairs known
  pub weights_learned : (network : List Variable) (tree : GivenTree)
      → with_all_known pairs (weights_of network tree H) ≡ weights_of network tree (learned H pairs)
  weights_learned network tree =
      let factors : List UserTrade → List Factor = λ ts.
      map RowsOf (numbers_below (length network)) ++ map (λ (t : UserTrade). RatioOf t.ratio) ts in
      let meaning : List UserTrade → List Pair → Meaning = λ ts known.
      record { network = network; tree = tree; factors = factors ts; known = known } in
      ap₂ meaning (sym trades_learned) (sym resolutions_learned)

  module _ (network : List Variable) where
    three : (a b c : Bool) → ((a && b) && c) ≡ (a && (b && c))
    three true b c = refl
    three false b c = refl

    weight_by : List UserTrade → List ℕ → ℕ
    weight_by ts s = initial_weight network s * product_by (λ (t : UserTrade). ratio_at t.ratio s)
        ts

    total_by : (List ℕ → Bool) → List UserTrade → List Pair → ℕ
    unfolding weight_by
    total_by test ts known = sum_by (weight_by ts)
        (filter (λ s. holds known s && test s) (all_states network))

    -- the states that are left then are those that have the pairs
    pub total_learned : (test : List ℕ → Bool)
        → total network (learned H pairs) test ≡ total network H (λ s. holds pairs s && test s)
    unfolding weight_by total_by
    total_learned test =
        ap₂ (total_by test) trades_learned resolutions_learned
        ∙ ap (λ (p : List ℕ → Bool). sum_by (weight_by (trades H)) (filter p (all_states network)))
        (fun_ext (λ s. ap (λ b. b && test s) (list_all-append (λ p. has p s) (resolutions H) pairs)
        ∙ three (holds (resolutions H) s) (holds pairs s) (test s)))

    pub all_learned : total network (learned H pairs) always ≡ total network H (holds pairs)
    all_learned = total_learned always ∙ ap (total network H)
        (fun_ext (λ s. and-true (holds pairs s)))

    pub small_learned : IsSmall network H → IsSmall network (learned H pairs)
    unfolding weight_by
    small_learned small = subst (λ (ts : List UserTrade). sum_by (weight_by ts) (all_states network)
        < 2 ^ 63) (sym trades_learned) small
