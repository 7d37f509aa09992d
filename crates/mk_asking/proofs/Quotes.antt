-- A user's last quote is set, and no assets with it.
use Rattle.std.specs.Prelude.{◌≡◌, ℕ, ◌<◌, List, length, Option, Some, slice_get, slice_set}
use Rattle.std.proofs.Common.{ap, ◌∙◌, subst, arith}
use Rattle.std.proofs.lemmas.List.{length-map}
use Rattle.mk_net.specs.Network.{Variable}
use Rattle.mk_exact.specs.History.{Entry}
use Rattle.mk_tree.specs.Given.{GivenTree}
use Rattle.mk_engine.specs.Meaning.{Meaning}
use Rattle.mk_assets.specs.declared.assets.Assets.{Assets}
use Rattle.mk_record.specs.declared.last_quote.LastQuote.{LastQuote}
use Rattle.mk_record.specs.declared.users.Member.{Member}
use Rattle.mk_record.specs.Members.{names_of, assets_of, quotes_of, with_quote}
use Rattle.mk_asking.specs.Keeping.{AreHeld}
use Rattle.mk_asking.proofs.Lent.{in_range, names_beside, assets_beside, quotes_set}

-- users of whom one was quoted this, and whose assets are those that a history leaves
pub record AreQuoted {A Plan : Type 0} (gains_stand : A → Meaning → Type 0) (network : List Variable) (tree : GivenTree) (H : List Entry) (members new_members : List (Member A Plan)) (user : ℕ) (quote : LastQuote) : Type 0 where
  pub names : names_of new_members ≡ names_of members
  pub quotes : quotes_of new_members ≡ slice_set (quotes_of members) user (Some quote)
  pub held : AreHeld gains_stand network tree H new_members

-- where the quote was set beside other assets
pub quote_was_set : {A Plan : Type 0} (gains_stand : A → Meaning → Type 0) (network : List Variable) (tree : GivenTree) (H : List Entry) (members mid new_members : List (Member A Plan)) (user : ℕ) (quote : LastQuote)
    → names_of mid ≡ names_of members → quotes_of mid ≡ quotes_of members → AreHeld gains_stand network tree H mid
    → user < length members → new_members ≡ with_quote mid user quote → AreQuoted gains_stand network tree H members new_members user quote
quote_was_set {A} {Plan} gains_stand network tree H members mid new_members user quote same_names same_quotes held within set = record {
  names = ap names_of set ∙ names_beside mid user quote ∙ same_names;
  quotes = ap quotes_of set ∙ quotes_set mid user quote within_mid ∙ ap (λ (qs : List (Option LastQuote)). slice_set qs user (Some quote)) same_quotes;
  held = λ u assets at.
      held u assets (subst (λ (xs : List (Assets A Plan)). slice_get xs u ≡ Some assets) (ap assets_of set ∙ assets_beside mid user quote) at);
}
  where
    within_mid : user < length mid
    within_mid =
        let named : length (names_of members) ≡ length members = length-map members (λ (m : Member A Plan). m.name) in
        in_range mid (names_of members) user same_names (omega (arith, within, named))
