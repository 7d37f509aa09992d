-- A user's assets that have learnt what is known may be asked, and what that leaves of the users.
use Rattle.std.specs.Prelude.{◌≡◌, ℕ, List, Some, slice_get}
use Rattle.std.proofs.Common.{◌∙◌}
use Rattle.mk_net.specs.Asked.{Asked}
use Rattle.mk_net.specs.Events.{pairs_asked}
use Rattle.mk_net.specs.Network.{Variable}
use Rattle.mk_exact.specs.History.{Entry}
use Rattle.mk_spread.specs.Spreads.{SpreadAsked, asked_of}
use Rattle.mk_tree.specs.Given.{GivenTree, home}
use Rattle.mk_tree.proofs.Held.{home_is_held}
use Rattle.mk_engine.specs.Meaning.{Meaning}
use Rattle.mk_beliefs.specs.Meanings.{weights_of}
use Rattle.mk_assets.specs.declared.assets.Assets.{Assets}
use Rattle.mk_assets.specs.Holdings.{Holding, Owns}
use Rattle.mk_answers.specs.Calls.{CanBound, CanBoundSpread}
use Rattle.mk_answers.specs.Open.{IsOpen, CanBeAnswered, CanBeSpreadHere, holding_of}
use Rattle.mk_record.specs.declared.users.Member.{Member}
use Rattle.mk_record.specs.Members.{names_of, assets_of, quotes_of, with_assets}
use Rattle.mk_record.proofs.SpreadRefusals.{value_is_held}
use Rattle.mk_asking.specs.Apart.{OwnApart}
use Rattle.mk_asking.specs.Keeping.{AreHeld}
use Rattle.mk_asking.proofs.Apart.{apart_lent, apart_then}
use Rattle.mk_asking.proofs.Learnt.{held_asked}
use Rattle.mk_asking.proofs.Lent.{names_stay, quotes_stay}

module _ {E A P : Type 0} (weights_stand : E → Meaning → Type 0) {gains_stand : A → Meaning
    → Type 0} {prices : E} {assets : Assets A P} {network : List Variable} {tree : GivenTree}
    {H : List Entry} {at : ℕ}
    (user : ℕ) (opened : IsOpen network tree H)
    (stands : weights_stand prices (weights_of network tree H))
    (owns : Owns gains_stand assets (holding_of network tree H user)) where
  -- the bounds of a question can be asked for in its home
  pub can_bound : {asked : Asked} → CanBeAnswered network tree H asked
      → home tree (pairs_asked asked) ≡ Some at
      → CanBound weights_stand gains_stand prices assets network at asked
  can_bound {asked} answered at_home = record {
    tree = tree;
    history = H;
    user = user;
    stands = stands;
    owns = owns;
    is_open = opened;
    answered = answered;
    held = home_is_held tree at (pairs_asked asked) at_home;
  }

  -- and those of each value in the home of the first, which holds them all
  pub can_bound_spread : {spread : SpreadAsked} → CanBeSpreadHere network tree H spread
      → home tree (pairs_asked (asked_of spread 0)) ≡ Some at
      → CanBoundSpread weights_stand gains_stand prices assets network at spread
  can_bound_spread {spread} answered at_home = record {
    tree = tree;
    history = H;
    user = user;
    stands = stands;
    owns = owns;
    is_open = opened;
    answered = answered;
    held = λ value. value_is_held tree at spread value at_home;
  }

-- users of whom one was asked: the assets of each are those that the history leaves, no others were touched, and names and last quotes stay
pub record AreAsked {A Plan : Type 0} (gains_stand : A → Meaning → Type 0) (network : List Variable)
    (tree : GivenTree) (H : List Entry) (user : ℕ) (members new_members : List (Member A Plan)) :
    Type 0 where
  pub held : AreHeld gains_stand network tree H new_members
  pub names : names_of new_members ≡ names_of members
  pub apart : OwnApart user members new_members
  pub quotes : quotes_of new_members ≡ quotes_of members

-- so they are where that one learnt what is known first
pub learnt_asked : {A Plan : Type 0} (gains_stand : A → Meaning → Type 0) (network : List Variable)
    (tree : GivenTree) (H : List Entry) (members learnt : List (Member A Plan)) (user : ℕ)
    (lent now : Assets A Plan)
    → AreHeld gains_stand network tree H learnt → names_of learnt ≡ names_of members
    → OwnApart user members learnt → quotes_of learnt ≡ quotes_of members
    → slice_get (assets_of learnt) user ≡ Some lent
    → ((h : Holding) → Owns gains_stand lent h → Owns gains_stand now h)
    → AreAsked gains_stand network tree H user members (with_assets learnt user now)
learnt_asked gains_stand network tree H members learnt user lent now held named others quoted there
    still = record {
      held = held_asked gains_stand network tree H learnt held user lent now there still;
      names = names_stay learnt user now ∙ named;
      apart = apart_then user members learnt (with_assets learnt user now) others
          (apart_lent learnt user now);
      quotes = quotes_stay learnt user now ∙ quoted;
    }
