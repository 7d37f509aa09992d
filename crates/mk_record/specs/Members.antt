-- What is read of the users of a market, and how it changes.
use Rattle.std.specs.Prelude.{ℕ, List, map, Option, Some, None, option_map, unwrap_or, slice_get, slice_set}
use Rattle.mk_assets.specs.declared.assets.Assets.{Assets}
use Rattle.mk_record.specs.declared.last_quote.LastQuote.{LastQuote}
use Rattle.mk_record.specs.declared.users.Member.{Member}

module _ {E P : Type 0} where
  -- a user who joined with these assets, and was given no quote
  abbrev pub new_member : List ℕ → Assets E P → Member E P
  new_member name assets = record { name = name; assets = assets; quote = None }

  -- the names in the order of joining
  abbrev pub names_of : List (Member E P) → List (List ℕ)
  names_of members = map (λ (m : Member E P). m.name) members

  -- the assets in the same order
  abbrev pub assets_of : List (Member E P) → List (Assets E P)
  assets_of members = map (λ (m : Member E P). m.assets) members

  -- the last quotes in the same order
  abbrev pub quotes_of : List (Member E P) → List (Option LastQuote)
  quotes_of members = map (λ (m : Member E P). m.quote) members

  -- the same users, of whom one changed
  abbrev pub with_member : (Member E P → Member E P) → List (Member E P) → ℕ → List (Member E P)
  with_member change members user = unwrap_or (option_map (λ (m : Member E P). slice_set members user (change m)) (slice_get members user)) members

  -- a quote is one user's last
  abbrev pub with_quote : List (Member E P) → ℕ → LastQuote → List (Member E P)
  with_quote members user quote = with_member (λ (m : Member E P). record m { quote = Some quote }) members user

  -- one user's assets are these
  abbrev pub with_assets : List (Member E P) → ℕ → Assets E P → List (Member E P)
  with_assets members user assets = with_member (λ (m : Member E P). record m { assets = assets }) members user
