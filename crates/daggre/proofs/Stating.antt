-- The pairs of a state, one written behind another.
use Rattle.std.proofs.Common.{◌≡◌, ℕ, ◌+◌, ◌*◌, ◌≤◌, List, ◌++◌, length, drop}
use Rattle.std.proofs.Common.{codes}
use Rattle.mk_net.specs.Network.{Variable}
use Rattle.mk_text.specs.Joined.{items_text}
use Rattle.mk_text.specs.Texts.{pair_text}
use Rattle.daggre.specs.LastLine.{state_pairs}

-- the pairs from a place on are left to write, and those before it are not long
pub record IsStated (network : List Variable) (values : List ℕ) (k : ℕ) (before line : List ℕ)
    : Type 0 where
  pub text : line ++ items_text (codes " ") pair_text
      (state_pairs (drop k network) (drop k values))
      ≡ before ++ items_text (codes " ") pair_text (state_pairs network values)
  pub room : length line ≤ length before + 66 * k
