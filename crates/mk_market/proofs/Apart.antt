-- Whose assets an answer leaves as they were.
use Rattle.std.specs.Prelude.{◌≡◌, ℕ, zero, suc, ◌<◌, List, [], ◌∷◌, ◌++◌, length}
use Rattle.std.specs.Prelude.{true, Some, None, slice_get}
use Rattle.std.specs.List.{position_or_len}
use Rattle.std.proofs.Common.{refl, sym, ap, ◌∙◌, subst, arith}
use Rattle.std.proofs.lemmas.List.{length-map, map-append}
use Rattle.std.proofs.lemmas.Option.{slice_get_within, get_or_from_slice_get}
use Rattle.mk_names.specs.Texts.{same_text}
use Rattle.mk_net.proofs.Distinct.{found_at}
use Rattle.mk_names.proofs.SameText.{equal_of_same_text}
use Rattle.mk_exact.specs.History.{Entry, join_in, users}
use Rattle.mk_exact.proofs.After.{users_kept}
use Rattle.mk_assets.specs.declared.assets.Assets.{Assets}
use Rattle.mk_command.specs.declared.command.Command.{Command}
use Rattle.mk_command.specs.declared.command.Command.TheVariants.{User, Deposit, Withdraw, Price}
use Rattle.mk_command.specs.declared.command.Command.TheVariants.{Limits, Edit, Bounds, Spread}
use Rattle.mk_command.specs.declared.command.Command.TheVariants.{Worst, Paid, Resolve, Settle}
use Rattle.mk_command.specs.declared.command.Command.TheVariants.{Bound, Prices, Position, Status}
use Rattle.mk_command.specs.declared.command.Command.TheVariants.{Add}
use Rattle.mk_record.specs.declared.users.Member.{Member}
use Rattle.mk_record.specs.Members.{new_member, names_of, assets_of}
use Rattle.mk_record.specs.Refused.{IsUser}
use Rattle.mk_market.specs.Trading.{Trading, AreOthersLeft, LeavesOthers}
use Rattle.mk_asking.specs.Apart.{OwnApart}

-- what stands in front stays
front_stays : {X : Type 0} (xs : List X) (y : X) (i : ℕ) → i < length xs
    → slice_get (xs ++ y ∷ []) i ≡ slice_get xs i
front_stays [] y i within = absurd (omega arith)
front_stays (x ∷ xs) y zero within = refl
front_stays (x ∷ xs) y (suc i) within = front_stays xs y i (omega arith)

-- the user of a name is the one who is found by it
its_name : (H : List Entry) (name other : List ℕ) (user : ℕ) → IsUser H name user
    → slice_get (users H) user ≡ Some other → name ≡ other
its_name H name other user is at =
    let place : position_or_len (same_text name) (users H) < length (users H) =
    subst (λ (n : ℕ). n < length (users H)) is.number is.within in
    let found = found_at (same_text name) (users H) other place in
    let held = get_or_from_slice_get (users H) (position_or_len (same_text name) (users H)) other
    other (subst (λ (n : ℕ). slice_get (users H) n ≡ Some other) is.number at) in
    equal_of_same_text name other
    (subst (λ (n : List ℕ). same_text name n ≡ true) held found)

module _ {A Plan : Type 0} where
  -- each user of a history owns something
  pub each_owns : (members : List (Member A Plan)) (names : List (List ℕ))
      → names_of members ≡ names → length (assets_of members) ≡ length names
  each_owns members names named =
      length-map members (λ (m : Member A Plan). m.assets)
      ∙ sym (length-map members (λ (m : Member A Plan). m.name)) ∙ ap length named

  -- so does each behind an entry by which nobody joins
  pub each_owns_then : (members : List (Member A Plan)) (H later : List Entry) (e : Entry)
      → names_of members ≡ users H → later ≡ H ++ e ∷ [] → join_in e ≡ None
      → length (assets_of members) ≡ length (users later)
  each_owns_then members H later e named history stays =
      each_owns members (users later)
      (named ∙ sym (users_kept H e stays) ∙ sym (ap users history))

  -- a command that names a user leaves all others apart, where it writes to the user's assets alone
  pub others_left : (H : List Entry) (name : List ℕ) (user : ℕ) → IsUser H name user
      → (members new_members : List (Member A Plan)) → OwnApart user members new_members
      → (u : ℕ) (other : List ℕ) → slice_get (users H) u ≡ Some other
      → (Some name ≡ Some other → ⊥)
      → slice_get (assets_of new_members) u ≡ slice_get (assets_of members) u
  others_left H name user is members new_members apart u other at differs =
      apart u (λ same. differs (ap Some (its_name H name other user is
      (subst (λ (n : ℕ). slice_get (users H) n ≡ Some other) same at))))

  -- so does a user who joins
  pub joined_left : (H : List Entry) (members new_members : List (Member A Plan))
      (name : List ℕ) (assets : Assets A Plan) → names_of members ≡ users H
      → new_members ≡ members ++ new_member name assets ∷ []
      → (u : ℕ) (other : List ℕ) → slice_get (users H) u ≡ Some other
      → slice_get (assets_of new_members) u ≡ slice_get (assets_of members) u
  joined_left H members new_members name assets named more u other at =
      let within = slice_get_within (users H) u other at in
      let all = each_owns members (users H) named in
      ap (λ (ms : List (Member A Plan)). slice_get (assets_of ms) u) more
      ∙ ap (λ (all : List (Assets A Plan)). slice_get all u)
      (map-append (λ (m : Member A Plan). m.assets) members (new_member name assets ∷ []))
      ∙ front_stays (assets_of members) assets u (omega (arith, within, all))

  -- users by the names of a history, of whom one may own another thing than before
  pub record AreApart (user : ℕ) (H : List Entry) (members new_members : List (Member A Plan))
      : Type 0 where
    pub named : names_of new_members ≡ users H
    pub apart : OwnApart user members new_members

-- ---- nothing is written to

module _ {Own : Type 0} where
  -- each user of a market owns something
  abbrev pub EachOwns : Trading Own → Type 0
  EachOwns now = length now.assets ≡ length (users now.standing.history)

  all_left : (old new : Trading Own) (command : Command) → new.assets ≡ old.assets
      → AreOthersLeft old new command
  all_left old new command same u name at differs =
      ap (λ (all : List Own). slice_get all u) same

  pub left_alone : (old new : Trading Own) (command : Command) → new.assets ≡ old.assets
      → LeavesOthers old new command
  left_alone old new (User user) same = all_left old new (User user) same
  left_alone old new (Deposit user bits) same = all_left old new (Deposit user bits) same
  left_alone old new (Withdraw user bits) same = all_left old new (Withdraw user bits) same
  left_alone old new (Price question) same = all_left old new (Price question) same
  left_alone old new (Limits user question) same = all_left old new (Limits user question) same
  left_alone old new (Edit user question to at) same =
      all_left old new (Edit user question to at) same
  left_alone old new (Bounds user variable condition) same =
      all_left old new (Bounds user variable condition) same
  left_alone old new (Spread user variable condition to at) same =
      all_left old new (Spread user variable condition to at) same
  left_alone old new (Worst user) same = all_left old new (Worst user) same
  left_alone old new (Paid user) same = all_left old new (Paid user) same
  left_alone old new (Resolve pair) same = all_left old new (Resolve pair) same
  left_alone old new Settle same = all_left old new Settle same
  left_alone old new Bound same = all_left old new Bound same
  left_alone old new (Prices variable condition) same =
      all_left old new (Prices variable condition) same
  left_alone old new (Position user variable condition) same =
      all_left old new (Position user variable condition) same
  left_alone old new Status same = all_left old new Status same
  left_alone old new (Add addition) same = tt
