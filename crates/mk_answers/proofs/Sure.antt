-- The factor that is found where a value comes.
use Rattle.std.proofs.Common.{◌≡◌, ℕ, ◌+◌, ◌≤◌, List, length, Option, Some, None, refl, sym}
use Rattle.std.proofs.Common.{ap, ◌∙◌}
use Rattle.mk_net.specs.declared.words.Pair.{Pair}
use Rattle.mk_net.specs.Asked.{Asked}
use Rattle.mk_net.specs.Bounds.{max_market_trades, max_values}
use Rattle.mk_net.specs.Events.{pairs_asked}
use Rattle.mk_net.specs.Network.{Variable}
use Rattle.mk_states.specs.Events.{holds, with_target}
use Rattle.mk_exact.specs.Factors.{least_gain}
use Rattle.mk_exact.specs.History.{Entry, deposited, withdrawn}
use Rattle.mk_exact.proofs.ExistBounds.{least_gain_at_most}
use Rattle.mk_cell.specs.Least.{least}
use Rattle.mk_tree.specs.Given.{GivenTree}
use Rattle.mk_enclose.specs.declared.factor.Factor.{Factor}
use Rattle.mk_enclose.specs.Enclosure.{widest_grade}
use Rattle.mk_engine.specs.Meaning.{exact_belief, max_grade}
use Rattle.mk_beliefs.specs.Meanings.{gains_of}
use Rattle.mk_beliefs.proofs.Gained.{target_is_least}
use Rattle.mk_assets.specs.Holdings.{IsLeastFactor, max_bits}
use Rattle.mk_answers.specs.Open.{IsOpen, holding_of}
use Rattle.mk_answers.specs.Evidence.{IsSureFactor}
use Rattle.mk_answers.proofs.Counted.{least_factor}
use Rattle.mk_answers.proofs.Least.{factor_for, is_counted, cash_in_range}
use Rattle.mk_answers.proofs.Told.{none_found, none_asked, is_found}

module _ (network : List Variable) (tree : GivenTree) (H : List Entry) (u : ℕ)
    (is_open : IsOpen network tree H) (asked : Asked) (event : List Pair)
    (its_pairs : event ≡ pairs_asked asked) (most : ℕ) (result : Option Factor)
    (least_is : IsLeastFactor (holding_of network tree H u)
    (exact_belief least (gains_of network tree H u) event) most result)
    (close : most ≤ length (gains_of network tree H u).factors + max_grade + max_values)
    (few_in : deposited H u ≤ max_bits) (few_out : withdrawn H u ≤ max_bits) where
  gain : ℕ
  gain = exact_belief least (gains_of network tree H u) event

  some_factor : (f : Factor) → result ≡ Some f
      → IsSureFactor widest_grade network H u (with_target asked) (Some f)
  unfolding gain
  some_factor f is =
      let on : least_gain network H u (holds event) ≡ Some gain =
      is_found network tree H u is_open event most result least_is f is in
      let same : least_gain network H u (with_target asked) ≡ Some gain =
      sym (target_is_least network H u asked)
      ∙ ap (λ (ps : List Pair). least_gain network H u (holds ps)) (sym its_pairs) ∙ on in
      least_factor network H u (with_target asked) gain same f
      (is_counted network tree H u is_open gain most result f is least_is close few_in few_out)
      (factor_for network tree H u is_open gain most result f is least_is close max_market_trades
      is_open.within.few_trades gain refl)
      (cash_in_range network tree H u is_open gain most result f is least_is close
      (least_gain_at_most network H is_open.within u (holds event) gain on) few_in few_out)

  pub sure_factor : IsSureFactor widest_grade network H u (with_target asked) result
  sure_factor = at result refl
    where
      at : (o : Option Factor) → result ≡ o
          → IsSureFactor widest_grade network H u (with_target asked) o
      at None is = none_asked network H u asked event its_pairs
          (none_found network tree H u is_open event most result least_is is)
      at (Some f) is = some_factor f is
