-- The users of a market, of whom one has other assets or another quote.
use Rattle.std.specs.Prelude.{◌≡◌, ◌≢◌, ℕ, zero, suc, ◌<◌, ◌⊎◌, List, [], ◌∷◌, map, length, Option, Some, None, slice_get, slice_set}
use Rattle.std.proofs.Common.{refl, sym, ap, ◌∙◌, inl, inr, arith}
use Rattle.std.proofs.lemmas.List.{length-map, map-set}
use Rattle.std.proofs.lemmas.Option.{get_or_from_slice_get}
use Rattle.std.proofs.Math.Seq.{map-set_same}
use Rattle.mk_assets.specs.declared.assets.Assets.{Assets}
use Rattle.mk_record.specs.declared.last_quote.LastQuote.{LastQuote}
use Rattle.mk_record.specs.declared.users.Member.{Member}
use Rattle.mk_record.specs.Members.{names_of, assets_of, quotes_of, with_member, with_assets, with_quote}

-- what is read of a list of which one item was set is that item, or was there at another place
pub read_set : {X : Type 0} (xs : List X) (i j : ℕ) (x y : X)
    → slice_get (slice_set xs i x) j ≡ Some y
    → ((j ≡ i) × (y ≡ x)) ⊎ ((j ≢ i) × (slice_get xs j ≡ Some y))
read_set [] i j x y e = cc
read_set (z ∷ zs) zero zero x y e = inl (refl, cc)
read_set (z ∷ zs) zero (suc j) x y e = inr (λ same. absurd (omega (arith, same)), e)
read_set (z ∷ zs) (suc i) zero x y e = inr (λ same. absurd (omega (arith, same)), e)
read_set (z ∷ zs) (suc i) (suc j) x y e = more (read_set zs i j x y e)
  where
    more : ((j ≡ i) × (y ≡ x)) ⊎ ((j ≢ i) × (slice_get zs j ≡ Some y))
        → ((suc j ≡ suc i) × (y ≡ x)) ⊎ ((suc j ≢ suc i) × (slice_get zs j ≡ Some y))
    more (inl p) = inl (ap suc p.0, p.1)
    more (inr p) = inr (λ same. p.0 (omega (arith, same)), p.1)

-- a list has an item at each place in range
pub there : {X : Type 0} (xs : List X) (i : ℕ) → i < length xs → (x : X) × (slice_get xs i ≡ Some x)
there [] i l = absurd (omega arith)
there (x ∷ xs) zero l = (x, refl)
there (x ∷ xs) (suc i) l = there xs i (omega arith)

module _ {E P : Type 0} (members : List (Member E P)) where
  -- a user whose name is among those of the members has a place there
  pub in_range : (names : List (List ℕ)) (user : ℕ) → names_of members ≡ names → user < length names → user < length members
  in_range names user named within = let same : length (names_of members) ≡ length members = length-map members (λ (m : Member E P). m.name) in omega (arith, within, ap length named, same)

module _ {E P : Type 0} (members : List (Member E P)) (user : ℕ) where
  -- a field that a change leaves is the same of all
  pub field_stays : {X : Type 0} (f : Member E P → X) (change : Member E P → Member E P) → ((m : Member E P) → f (change m) ≡ f m) → map f (with_member change members user) ≡ map f members
  field_stays {X} f change same = at (slice_get members user) refl
    where
      at : (o : Option (Member E P)) → slice_get members user ≡ o → map f (with_member change members user) ≡ map f members
      at None e = rw e refl
      at (Some m) e = rw e (map-set_same f members user (change m) m (same m ∙ ap f (sym (get_or_from_slice_get members user m m e))))

  -- and one that it sets is set
  pub field_set : {X : Type 0} (f : Member E P → X) (change : Member E P → Member E P) (x : X) → user < length members → ((m : Member E P) → f (change m) ≡ x)
      → map f (with_member change members user) ≡ slice_set (map f members) user x
  field_set {X} f change x within sets =
      let found = there members user within in
      let e = found.1 in
      rw e (map-set f members user (change found.0) ∙ ap (slice_set (map f members) user) (sets found.0))

  pub names_stay : (assets : Assets E P) → names_of (with_assets members user assets) ≡ names_of members
  names_stay assets = field_stays (λ (m : Member E P). m.name) (λ (m : Member E P). record m { assets = assets }) (λ m. refl)

  pub quotes_stay : (assets : Assets E P) → quotes_of (with_assets members user assets) ≡ quotes_of members
  quotes_stay assets = field_stays (λ (m : Member E P). m.quote) (λ (m : Member E P). record m { assets = assets }) (λ m. refl)

  pub assets_set : (assets : Assets E P) → user < length members → assets_of (with_assets members user assets) ≡ slice_set (assets_of members) user assets
  assets_set assets within = field_set (λ (m : Member E P). m.assets) (λ (m : Member E P). record m { assets = assets }) assets within (λ m. refl)

  pub names_beside : (quote : LastQuote) → names_of (with_quote members user quote) ≡ names_of members
  names_beside quote = field_stays (λ (m : Member E P). m.name) (λ (m : Member E P). record m { quote = Some quote }) (λ m. refl)

  pub assets_beside : (quote : LastQuote) → assets_of (with_quote members user quote) ≡ assets_of members
  assets_beside quote = field_stays (λ (m : Member E P). m.assets) (λ (m : Member E P). record m { quote = Some quote }) (λ m. refl)

  pub quotes_set : (quote : LastQuote) → user < length members → quotes_of (with_quote members user quote) ≡ slice_set (quotes_of members) user (Some quote)
  quotes_set quote within = field_set (λ (m : Member E P). m.quote) (λ (m : Member E P). record m { quote = Some quote }) (Some quote) within (λ m. refl)
