-- Whose assets a call leaves as they were.
use Rattle.std.specs.Prelude.{◌≡◌, ℕ, zero, suc, List, [], ◌∷◌}
use Rattle.std.specs.Prelude.{Option, Some, None, option_map, slice_get, slice_set}
use Rattle.std.proofs.Common.{refl, sym, ap, ◌∙◌}
use Rattle.std.proofs.lemmas.Option.{slice_get-map}
use Rattle.mk_assets.specs.declared.assets.Assets.{Assets}
use Rattle.mk_record.specs.declared.last_quote.LastQuote.{LastQuote}
use Rattle.mk_record.specs.declared.users.Member.{Member}
use Rattle.mk_record.specs.Members.{assets_of, with_assets, with_quote}
use Rattle.mk_asking.specs.Apart.{OwnApart}
use Rattle.mk_asking.proofs.Lent.{assets_beside}

set_elsewhere : {X : Type 0} (xs : List X) (i j : ℕ) (x : X) → (j ≡ i → ⊥)
    → slice_get (slice_set xs i x) j ≡ slice_get xs j
set_elsewhere [] i j x other = refl
set_elsewhere (z ∷ zs) zero zero x other = absurd (other refl)
set_elsewhere (z ∷ zs) zero (suc j) x other = refl
set_elsewhere (z ∷ zs) (suc i) zero x other = refl
set_elsewhere (z ∷ zs) (suc i) (suc j) x other = set_elsewhere zs i j x (λ e. other (ap suc e))

module _ {A Plan : Type 0} where
  -- the others own what they owned
  pub apart_lent : (members : List (Member A Plan)) (user : ℕ) (assets : Assets A Plan)
      → OwnApart user members (with_assets members user assets)
  apart_lent members user assets u other = at (slice_get members user) refl
    where
      at : (o : Option (Member A Plan)) → slice_get members user ≡ o
          → slice_get (assets_of (with_assets members user assets)) u
          ≡ slice_get (assets_of members) u
      at None e = rw e refl
      at (Some m) e =
          let changed : Member A Plan = record m { assets = assets } in
          rw e (slice_get-map (λ (m : Member A Plan). m.assets) (slice_set members user changed) u
          ∙ ap (option_map (λ (m : Member A Plan). m.assets))
          (set_elsewhere members user u changed other)
          ∙ sym (slice_get-map (λ (m : Member A Plan). m.assets) members u))

  pub apart_same : (members new_members : List (Member A Plan)) (user : ℕ)
      → assets_of new_members ≡ assets_of members → OwnApart user members new_members
  apart_same members new_members user same u other =
      ap (λ (all : List (Assets A Plan)). slice_get all u) same

  pub apart_then : (user : ℕ) (members mid new_members : List (Member A Plan))
      → OwnApart user members mid → OwnApart user mid new_members
      → OwnApart user members new_members
  apart_then user members mid new_members first later u other = later u other ∙ first u other

  pub apart_quoted : (user : ℕ) (members mid new_members : List (Member A Plan)) (quote : LastQuote)
      → OwnApart user members mid → new_members ≡ with_quote mid user quote
      → OwnApart user members new_members
  apart_quoted user members mid new_members quote first set =
      apart_then user members mid new_members first
      (apart_same mid new_members user (ap assets_of set ∙ assets_beside mid user quote))
