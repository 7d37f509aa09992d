-- What a user's assets have learnt, and what is asked of them then.
use Rattle.std.specs.Prelude.{◌≡◌, ℕ, ◌<◌, ◌⊎◌, List, length, take, Some, slice_get}
use Rattle.std.proofs.Common.{refl, sym, ◌∙◌, subst, inl, inr, arith}
use Rattle.std.proofs.lemmas.List.{length-map, length-take-le}
use Rattle.std.proofs.lemmas.List.Elements.{All-from_recursion}
use Rattle.mk_net.specs.declared.words.Pair.{Pair}
use Rattle.mk_net.specs.Network.{Variable}
use Rattle.mk_states.specs.OfNetwork.{IsPairOf}
use Rattle.mk_exact.specs.History.{Entry, resolutions}
use Rattle.mk_tree.specs.Given.{GivenTree}
use Rattle.mk_engine.specs.Meaning.{Meaning, ArePairsOf}
use Rattle.mk_assets.specs.declared.assets.Assets.{Assets}
use Rattle.mk_assets.specs.Holdings.{Holding, Holds, Owns, CanLearn, with_first_known}
use Rattle.mk_assets.proofs.Learning.{owns_holds}
use Rattle.mk_answers.specs.Open.{IsOpen, holding_of}
use Rattle.mk_record.specs.declared.users.Member.{Member}
use Rattle.mk_record.specs.Members.{names_of, assets_of, with_assets}
use Rattle.mk_asking.specs.Keeping.{AreHeld}
use Rattle.mk_asking.specs.Quoting.{OwnsAt}
use Rattle.mk_asking.proofs.Lent.{in_range}
use Rattle.mk_asking.proofs.Owned.{whose}

module _ {E P : Type 0} (stands_for : E → Meaning → Type 0) where
  -- assets that stand for all that others stood for are those of each holding that the others were those of
  pub holds_still : (before now : Assets E P) → ((h : Holding) → Owns stands_for before h → Owns stands_for now h)
      → (h : Holding) → Holds stands_for before h → Holds stands_for now h
  holds_still before now still h held =
      let short : Holding = record { meaning = with_first_known before.learnt h.meaning; deposited = h.deposited; withdrawn = h.withdrawn } in
      let count : length (take before.learnt h.meaning.known) ≡ before.learnt = length-take-le before.learnt h.meaning.known held.some_learnt in
      let owned : Owns stands_for now short = still short (record {
        stands = held.stands;
        all_learnt = sym count;
        counted = held.counted;
        net = held.net;
        few_in = held.few_in;
        few_out = held.few_out;
      }) in
      let same : now.learnt ≡ before.learnt = owned.all_learnt ∙ count in
      record {
        stands = subst (λ (n : ℕ). stands_for now.engine (with_first_known n h.meaning)) (sym same) owned.stands;
        some_learnt = omega (arith, same, held.some_learnt);
        counted = owned.counted;
        net = owned.net;
        few_in = owned.few_in;
        few_out = owned.few_out;
      }

  module _ (network : List Variable) (tree : GivenTree) (H : List Entry) (members : List (Member E P)) (held : AreHeld stands_for network tree H members) (user : ℕ)
      (lent now : Assets E P) (there : slice_get (assets_of members) user ≡ Some lent) where
    -- assets that are lent can learn what is known
    pub can_learn : IsOpen network tree H → (known : List Pair) → known ≡ resolutions H → CanLearn stands_for lent tree known
    can_learn opened known are = record {
      holding = holding_of network tree H user;
      holds = held user lent there;
      tree_of_it = opened.tree_of_it;
      same_tree = refl;
      same_known = sym are;
      in_range = subst (ArePairsOf network) (sym are) (All-from_recursion (IsPairOf network) (resolutions H) opened.proper.resolutions_fit);
    }

    -- once they have they stand for what the history leaves the user
    pub owned_then : Owns stands_for now (holding_of network tree H user) → OwnsAt stands_for (with_assets members user now) user (holding_of network tree H user)
    owned_then owned x at = each (whose members user lent now there user x at)
      where
        each : ((user ≡ user) × (now ≡ x)) ⊎ ((user ≡ user → ⊥) × (slice_get (assets_of members) user ≡ Some x)) → Owns stands_for x (holding_of network tree H user)
        each (inl h) = subst (λ (a : Assets E P). Owns stands_for a (holding_of network tree H user)) (h.1) owned
        each (inr h) = absurd (h.0 refl)

    -- all users' assets are those that the history leaves where those that were lent are
    pub held_then : Holds stands_for now (holding_of network tree H user) → AreHeld stands_for network tree H (with_assets members user now)
    held_then holds u x at = each (whose members user lent now there u x at)
      where
        each : ((u ≡ user) × (now ≡ x)) ⊎ ((u ≡ user → ⊥) × (slice_get (assets_of members) u ≡ Some x)) → Holds stands_for x (holding_of network tree H u)
        each (inl h) = subst (λ (v : ℕ). Holds stands_for x (holding_of network tree H v)) (sym (h.0))
            (subst (λ (a : Assets E P). Holds stands_for a (holding_of network tree H user)) (h.1) holds)
        each (inr h) = held u x (h.1)

    -- as once they have learnt, and once they were asked
    pub held_learnt : Owns stands_for now (holding_of network tree H user) → AreHeld stands_for network tree H (with_assets members user now)
    held_learnt owned = held_then (owns_holds stands_for now (holding_of network tree H user) owned)

    pub held_asked : ((h : Holding) → Owns stands_for lent h → Owns stands_for now h) → AreHeld stands_for network tree H (with_assets members user now)
    held_asked still = held_then (holds_still lent now still (holding_of network tree H user) (held user lent there))

-- a user of a market has a place among as many users of the same names
pub still_in_range : {E P : Type 0} (old new : List (Member E P)) (user : ℕ) → names_of new ≡ names_of old → user < length old → user < length new
still_in_range {E} {P} old new user same within =
    let named : length (names_of old) ≡ length old = length-map old (λ (m : Member E P). m.name) in
    in_range new (names_of old) user same (omega (arith, within, named))
