-- The units of a question's ratio: the one number where its target holds, and the other where it does not.
use Rattle.std.proofs.Common.{◌≡◌, ℕ, cond, eqb, List, slice_index, ap, arith}
use Rattle.std.proofs.lemmas.List.FromFn.{get_or-map-range_with_len}
use Rattle.mk_net.specs.Network.{Variable, sizes}
use Rattle.mk_net.specs.Asked.{Asked}
use Rattle.mk_states.specs.States.{IsState}
use Rattle.mk_states.specs.InitialWeight.{value_at}
use Rattle.mk_states.specs.Events.{has, holds}
use Rattle.mk_states.specs.Ratios.{unit, ratio_at}
use Rattle.mk_states.specs.OfNetwork.{IsPairOf}
use Rattle.mk_exact.specs.Sides.{ratio_in}
use Rattle.mk_states.proofs.Listed.{value_below}

abbrev pub pair_at : Asked → ℕ → ℕ → List ℕ → ℕ
pair_at asked F_t F_n s = cond (holds asked.condition s) (cond (has asked.target s) F_t F_n) unit

pub ratio_in_at : (network : List Variable) (asked : Asked) (F_t F_n : ℕ) → IsPairOf network asked.target → (s : List ℕ) → IsState (sizes network) s
    → ratio_at (ratio_in network asked F_t F_n) s ≡ pair_at asked F_t F_n s
ratio_in_at network asked F_t F_n fits s is_state =
    ap (λ (n : ℕ). cond (holds asked.condition s) n unit)
    (get_or-map-range_with_len (λ (value : ℕ). cond (eqb value asked.target.value) F_t F_n) 0 (slice_index (sizes network) asked.target.variable) (value_at s asked.target.variable) (value_at s asked.target.variable) 0
    (value_below network asked.target.variable s fits.variable is_state) (omega arith))
