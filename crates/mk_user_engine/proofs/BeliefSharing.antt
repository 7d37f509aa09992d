-- The exact belief, from what the groups have.
use Rattle.std.proofs.Common.{◌≡◌, ℕ, ◌*◌, ◌&&◌, cond, List, ◌++◌, All, map, eqb, sym, ap, ◌∙◌}
use Rattle.std.proofs.Common.{arith}
use Rattle.std.proofs.Math.Path.{fun_ext}
use Rattle.std.proofs.lemmas.List.Elements.{All-append, All-weaker}
use Rattle.mk_net.specs.declared.words.Pair.{Pair}
use Rattle.mk_net.specs.Network.{sizes}
use Rattle.mk_net.proofs.Networks.{two_values}
use Rattle.mk_states.specs.States.{states, plus_over, product_by}
use Rattle.mk_states.specs.InitialWeight.{value_at}
use Rattle.mk_states.specs.Events.{holds}
use Rattle.mk_states.specs.OfNetwork.{IsPairOf}
use Rattle.mk_states.proofs.Listed.{as_many}
use Rattle.mk_states.proofs.Sums.{plus_over-filter, plus_over-map, list_all-append}
use Rattle.mk_sums.proofs.States.{is_plus}
use Rattle.mk_cell.specs.Least.{least}
use Rattle.mk_semiring.specs.Least.{least_lawful}
use Rattle.mk_engine.specs.Meaning.{Meaning, Factor, RatioOf, factor_there, exact_belief}
use Rattle.mk_user_engine.specs.declared.groups.Groups.{Groups}
use Rattle.mk_user_engine.specs.declared.narrow.PlacedRatio.{PlacedRatio}
use Rattle.mk_user_engine.specs.Narrow.{ratio_in, factors_of, product_of}
use Rattle.mk_user_engine.specs.Laws.{IsPairIn}
use Rattle.mk_user_engine.specs.Grouped.{IsGathered}
use Rattle.mk_user_engine.specs.GroupedNarrow.{AreGrouped, IsGroupedRatio, BeliefIsShared}
use Rattle.mk_user_engine.proofs.LeastSharing.{least_shared}
use Rattle.mk_user_engine.proofs.Pairs.{agree_both, agree_across, apart_agree}

module _ (gs : Groups) (ts : List PlacedRatio) (ks : List Pair) (homes : List ℕ) (m : Meaning)
    (is : AreGrouped gs ts ks homes m) (event : List Pair)
  where
    products : (a : ℕ → ℕ) → product_by (λ (g : (ℕ → ℕ)
        → ℕ). g a) (map (factor_there m.network) m.factors) ≡ product_of ts a
    products a =
        ap (λ (fs : List Factor). product_by (λ (g : (ℕ → ℕ)
        → ℕ). g a) (map (factor_there m.network) fs)) is.factors_are
        ∙ plus_over-map ◌*◌ 1 (λ (g : (ℕ → ℕ) → ℕ). g a) (factor_there m.network) (factors_of ts)
        ∙ plus_over-map ◌*◌ 1 (λ (f : Factor). factor_there m.network f a)
        (λ (t : PlacedRatio). RatioOf (ratio_in t)) ts

    abbrev in_state : List ℕ → ℕ
    in_state s = cond (holds (ks ++ event) s) (product_of ts (value_at s)) 0

    state_adds : (s : List ℕ) → cond (holds m.known s && holds event s) (product_by (λ (g : (ℕ → ℕ)
        → ℕ). g (value_at s)) (map (factor_there m.network) m.factors)) 0 ≡ in_state s
    state_adds s =
        ap (λ v. cond (holds m.known s && holds event s) v 0) (products (value_at s))
        ∙ ap (λ (ps : List Pair). cond (holds ps s && holds event s) (product_of ts (value_at s)) 0)
        is.known_are
        ∙ sym (ap (λ b. cond b (product_of ts (value_at s)) 0) (list_all-append (λ
        (p : Pair). eqb (value_at s p.variable) p.value) ks event))

    pub in_states : exact_belief least m event
        ≡ plus_over least 0 in_state (states (sizes m.network))
    in_states =
        plus_over-filter least 0 (is_plus least least_lawful) (λ s. product_by (λ (g : (ℕ → ℕ)
        → ℕ). g (value_at s)) (map (factor_there m.network) m.factors))
        (λ s. holds m.known s && holds event s) (states (sizes m.network))
        ∙ ap (λ (g : List ℕ → ℕ). plus_over least 0 g (states (sizes m.network)))
        (fun_ext state_adds)

    pairs_in : (ps : List Pair) → All (IsPairOf m.network) ps → All (IsPairIn (sizes m.network)) ps
    pairs_in ps h =
        All-weaker (IsPairOf m.network) (IsPairIn (sizes m.network))
        (λ p i. record {
          variable = let v = i.variable in omega (arith, v, as_many m.network);
          value = i.value;
        }) ps h

pub belief_shared : BeliefIsShared
belief_shared gs ts ks homes m event is own apart fits =
    let has = is.groups in let placed = is.pairs in
    in_states gs ts ks homes m is event
    ∙ least_shared (sizes m.network) gs.list.items ts (ks ++ event)
    (λ x l. let two = two_values m.network x is.legal (omega (arith, l, as_many m.network))
    in omega (arith, two))
    has.each has.apart
    (All-weaker (IsGroupedRatio m.network m.tree gs.list.items)
    (λ (t : PlacedRatio). IsGathered gs.list.items (ratio_in t)) (λ t h. h.gathered) ts is.trades)
    (All-append (IsPairIn (sizes m.network)) ks event
    (pairs_in gs ts ks homes m is event ks placed.of_network)
    (pairs_in gs ts ks homes m is event event own))
    (agree_both ks event is.agree (apart_agree event apart) (agree_across ks event fits))
