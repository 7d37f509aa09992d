-- The entries of a placed history fit its network.
use Rattle.std.proofs.Common.{◌≡◌, ℕ, List, [], ◌∷◌, length, is_some, true, arith, eqb-true}
use Rattle.std.specs.List.{AllByRecursion}
use Rattle.mk_net.specs.Asked.{ratio_pairs}
use Rattle.mk_net.specs.Network.{Variable, IsNetwork}
use Rattle.mk_states.specs.Events.{always}
use Rattle.mk_exact.specs.History.{Entry, Join, Deposit, Withdraw, Trade, Resolve, Settle, Add}
use Rattle.mk_exact.specs.History.{UserTrade, trades, users}
use Rattle.mk_exact.specs.Proper.{IsTradeOf, IsProper}
use Rattle.mk_exact.specs.Weight.{total, possible_states}
use Rattle.mk_answers.proofs.Presence.{absent_never}
use Rattle.mk_tree.specs.Given.{GivenTree, home}
use Rattle.mk_best.specs.Chances.{IsPlaced}
use Rattle.mk_expect.specs.inner.Shares.{FitsEntry}

module _ (network : List Variable) (tree : GivenTree) (joined : ℕ) where
  each_fits : (H : List Entry) → AllByRecursion (IsTradeOf network joined) (trades H)
      → AllByRecursion (λ (t : UserTrade). is_some (home tree (ratio_pairs t.ratio)) ≡ true)
      (trades H)
      → AllByRecursion (FitsEntry network tree) H
  each_fits [] fits homes = tt
  each_fits (Trade user ratio ∷ H) fits homes =
      ((fits.0.ratio, homes.0), each_fits H fits.1 homes.1)
  each_fits (Join name ∷ H) fits homes = (tt, each_fits H fits homes)
  each_fits (Deposit user n ∷ H) fits homes = (tt, each_fits H fits homes)
  each_fits (Withdraw user n ∷ H) fits homes = (tt, each_fits H fits homes)
  each_fits (Resolve p ∷ H) fits homes = (tt, each_fits H fits homes)
  each_fits (Settle payments ∷ H) fits homes = (tt, each_fits H fits homes)
  each_fits (Add a ∷ H) fits homes = (tt, each_fits H fits homes)

pub all_fit : (network : List Variable) (tree : GivenTree) (H : List Entry)
    → IsPlaced network tree H → AllByRecursion (FitsEntry network tree) H
all_fit network tree H placed =
    each_fits network tree (length (users H)) H placed.proper.trades_fit placed.homes

-- some state is possible
pub some_weighs : (network : List Variable) (H : List Entry) → IsNetwork network
    → IsProper network H → total network H always ≡ 0 → ⊥
some_weighs network H legal proper none =
    let e = eqb-true (length (possible_states network H always)) 0
    (absent_never network H always legal proper none) in
    omega (arith, e, proper.some_left)
