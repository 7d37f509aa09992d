-- One user of a market changes.
use Rattle.std.specs.Prelude.{◌≡◌, ◌≢◌, ℕ, ◌<◌, List, [], ◌∷◌, map, length, Option, Some, None, option_map, unwrap_or, slice_get, slice_set, slice_index_or}
use Rattle.std.proofs.Common.{refl, sym, ap, ◌∙◌, arith}
use Rattle.std.proofs.lemmas.List.{length-set, map-set}
use Rattle.std.proofs.lemmas.Option.{slice_get-get_or, slice_get-map, get_or_from_slice_get}
use Rattle.std.proofs.Math.Seq.{map-set_same}
use Rattle.mk_assets.specs.declared.assets.Assets.{Assets}
use Rattle.mk_record.specs.declared.last_quote.LastQuote.{LastQuote}
use Rattle.mk_record.specs.declared.users.Member.{Member}
use Rattle.mk_record.specs.Members.{names_of, assets_of, quotes_of, with_member, with_quote, with_assets}
use Rattle.mk_record.specs.inner.Enrolled.{IsEnrolled}

-- what is read at a place in range
pub read_at : {X : Type 0} (xs : List X) (i : ℕ) (x : X) → i < length xs → x ≡ slice_index_or xs i x → slice_get xs i ≡ Some x
read_at xs i x within e = slice_get-get_or xs i x within ∙ ap (λ (y : _). Some y) (sym e)

-- at a place in range there is an item
there_is : {X : Type 0} (xs : List X) (i : ℕ) → i < length xs → slice_get xs i ≢ None
there_is [] i within e = absurd (omega (arith, within))
there_is (x ∷ xs) i within e = absurd_at (sym (slice_get-get_or (x ∷ xs) i x within) ∙ e)
  where
    absurd_at : {X : Type 0} {y : X} → Some y ≡ None → ⊥
    absurd_at e = cc

module _ {E P : Type 0} (members : List (Member E P)) (user : ℕ) (m : Member E P) (within : user < length members) (read : m ≡ slice_index_or members user m) where
  pub field_at : {X : Type 0} (f : Member E P → X) → slice_get (map f members) user ≡ Some (f m)
  field_at f = slice_get-map f members user ∙ ap (option_map f) (read_at members user m within read)

  -- the member changes
  pub changed_at : (change : Member E P → Member E P) → slice_set members user (change m) ≡ with_member change members user
  changed_at change = rw (read_at members user m within read) refl

  -- a member whose name stays
  pub enrolled_at : (names : List (List ℕ)) (new : Member E P) → new.name ≡ m.name → IsEnrolled names members → IsEnrolled names (slice_set members user new)
  enrolled_at names new same kept = record {
    named = kept.named ∙ sym (map-set_same (λ (m : Member E P). m.name) members user new m (same ∙ ap (λ (m : Member E P). m.name) read));
    few = rw (length-set members user new) kept.few;
  }

module _ {E P X : Type 0} (f : Member E P → X) (change : Member E P → Member E P) (members : List (Member E P)) (user : ℕ) where
  -- what the change leaves as it was
  pub kept_by : ((m : Member E P) → f (change m) ≡ f m) → map f (with_member change members user) ≡ map f members
  kept_by same = choose (slice_get members user) refl
    where
      choose : (o : Option (Member E P)) → slice_get members user ≡ o →
          map f (unwrap_or (option_map (λ (m : Member E P). slice_set members user (change m)) o) members) ≡ map f members
      choose None e = refl
      choose (Some m) e = map-set_same f members user (change m) m (same m ∙ ap f (sym (get_or_from_slice_get members user m m e)))

  -- what the change makes anew
  pub set_by : (x : X) → ((m : Member E P) → f (change m) ≡ x) → user < length members → map f (with_member change members user) ≡ slice_set (map f members) user x
  set_by x new within = choose (slice_get members user) refl
    where
      choose : (o : Option (Member E P)) → slice_get members user ≡ o →
          map f (unwrap_or (option_map (λ (m : Member E P). slice_set members user (change m)) o) members) ≡ slice_set (map f members) user x
      choose None e = absurd (there_is members user within e)
      choose (Some m) e = map-set f members user (change m) ∙ ap (λ (y : X). slice_set (map f members) user y) (new m)

-- what callers read of users of whom one was given a quote, or had the assets written to
module _ {E P : Type 0} (members : List (Member E P)) (user : ℕ) where
  pub names_quoted : (quote : LastQuote) → names_of (with_quote members user quote) ≡ names_of members
  names_quoted quote = kept_by (λ (m : Member E P). m.name) _ members user (λ m. refl)

  pub assets_quoted : (quote : LastQuote) → assets_of (with_quote members user quote) ≡ assets_of members
  assets_quoted quote = kept_by (λ (m : Member E P). m.assets) _ members user (λ m. refl)

  pub quotes_quoted : (quote : LastQuote) → user < length members → quotes_of (with_quote members user quote) ≡ slice_set (quotes_of members) user (Some quote)
  quotes_quoted quote within = set_by (λ (m : Member E P). m.quote) _ members user (Some quote) (λ m. refl) within

  pub names_written : (assets : Assets E P) → names_of (with_assets members user assets) ≡ names_of members
  names_written assets = kept_by (λ (m : Member E P). m.name) _ members user (λ m. refl)

  pub quotes_written : (assets : Assets E P) → quotes_of (with_assets members user assets) ≡ quotes_of members
  quotes_written assets = kept_by (λ (m : Member E P). m.quote) _ members user (λ m. refl)

  pub assets_written : (assets : Assets E P) → user < length members → assets_of (with_assets members user assets) ≡ slice_set (assets_of members) user assets
  assets_written assets within = set_by (λ (m : Member E P). m.assets) _ members user assets (λ m. refl) within
