-- Where the price engine finds nothing: exactly what cannot come.
use Rattle.std.proofs.Common.{◌≡◌, ℕ, ◌+◌, true, ◌↔◌, List, slice_index, sym, ◌∙◌}
use Rattle.mk_net.specs.declared.words.Pair.{Pair}
use Rattle.mk_net.specs.Asked.{Asked}
use Rattle.mk_net.specs.Network.{Variable, sizes, IsNetwork}
use Rattle.mk_states.specs.Events.{holds, without_target}
use Rattle.mk_exact.specs.History.{Entry}
use Rattle.mk_exact.specs.Weight.{total, cannot_come}
use Rattle.mk_states.specs.OfNetwork.{IsQuestionOf}
use Rattle.mk_exact.specs.Proper.{IsProper}
use Rattle.mk_exact.proofs.Coming.{no_weight_of, never_by_weight}
use Rattle.mk_tree.specs.Given.{GivenTree}
use Rattle.mk_engine.specs.Meaning.{exact_belief}
use Rattle.mk_engine.specs.Cases.{exact_others}
use Rattle.mk_beliefs.specs.Meanings.{weights_of}
use Rattle.mk_beliefs.proofs.Weighed.{belief_is_total, others_are_total}

module _ (network : List Variable) (tree : GivenTree) (H : List Entry) (net : IsNetwork network) (proper : IsProper network H) where
  nothing_is : (n : ℕ) (test : List ℕ → _) → n ≡ total network H test → (n ≡ 0) ↔ (cannot_come network H test ≡ true)
  nothing_is n test e = (λ none. never_by_weight network H test net proper (sym e ∙ none), λ never. e ∙ no_weight_of network H test never)

  pub belief_is_absent : (event : List Pair) → (exact_belief ◌+◌ (weights_of network tree H) event ≡ 0) ↔ (cannot_come network H (holds event) ≡ true)
  belief_is_absent event = nothing_is _ (holds event) (belief_is_total network tree H event)

  pub others_are_absent : (asked : Asked) → IsQuestionOf network asked
      → (exact_others ◌+◌ (weights_of network tree H) asked (slice_index (sizes network) asked.target.variable) ≡ 0) ↔ (cannot_come network H (without_target asked) ≡ true)
  others_are_absent asked fits = nothing_is _ (without_target asked) (others_are_total network tree H asked fits)
