-- What the users of a market hold once one moved bits, or a user joined.
use Rattle.std.specs.Prelude.{◌≡◌, ℕ, ◌+◌, List, [], ◌∷◌, ◌++◌, length}
use Rattle.std.specs.Prelude.{Option, Some, None}
use Rattle.std.specs.Prelude.{slice_get, ◌⊎◌}
use Rattle.std.specs.List.{AllByRecursion}
use Rattle.std.proofs.Common.{inl, inr, refl, sym, ap, ap₂, ◌∙◌, subst, arith, eq-eqb, ne_eqb}
use Rattle.std.proofs.lemmas.List.{length-map, map-append}
use Rattle.mk_net.specs.Network.{Variable}
use Rattle.mk_exact.specs.History.{Entry, Join, Deposit, Withdraw}
use Rattle.mk_exact.specs.History.{users, resolutions, deposited, withdrawn, bits_in, bits_out}
use Rattle.mk_exact.specs.Proper.{IsProper}
use Rattle.mk_tree.specs.Given.{GivenTree}
use Rattle.mk_engine.specs.Meaning.{Meaning}
use Rattle.mk_beliefs.specs.Meanings.{gains_of}
use Rattle.mk_beliefs.proofs.Grown.{newcomer_has_none}
use Rattle.mk_assets.specs.declared.assets.Assets.{Assets}
use Rattle.mk_assets.specs.Holdings.{Holding, Holds, opening_holding, with_deposit, with_withdrawal}
use Rattle.mk_record.specs.declared.last_quote.LastQuote.{LastQuote}
use Rattle.mk_rules.specs.Bounded.{FitsTransfer}
use Rattle.mk_answers.specs.Open.{holding_of}
use Rattle.mk_record.specs.declared.users.Member.{Member}
use Rattle.mk_record.specs.Members.{new_member, names_of, assets_of, quotes_of}
use Rattle.mk_parts.proofs.Moved.{none_moved}
use Rattle.mk_replay.proofs.Each.{push_cases}
use Rattle.mk_asking.proofs.Owned.{holding_grows, holding_same}

-- what each user holds after a transfer
module _ (network : List Variable) (tree : GivenTree) (H : List Entry) where
  -- the gains of a user beside these bits
  abbrev with_bits : ℕ → ℕ → ℕ → Holding
  with_bits user d w = record {
    meaning = gains_of network tree H user;
    deposited = d;
    withdrawn = w;
  }

  -- as many bits as the entry moves
  moved : (e : Entry) (user d w : ℕ) → deposited H user + bits_in user e ≡ d
      → withdrawn H user + bits_out user e ≡ w
      → with_bits user (deposited H user + bits_in user e) (withdrawn H user + bits_out user e)
      ≡ with_bits user d w
  moved e user d w ins outs = ap₂ (with_bits user) ins outs

  -- bits are paid in by a user
  pub deposit_holding : (user bits : ℕ) → holding_of network tree (H ++ Deposit user bits ∷ []) user ≡ with_deposit bits (holding_of network tree H user)
  deposit_holding user bits =
      let ins : bits_in user (Deposit user bits) ≡ bits = rw (eq-eqb user user refl) refl in
      holding_grows network tree H (Deposit user bits) user
      ∙ moved (Deposit user bits) user (deposited H user + bits) (withdrawn H user)
      (ap (λ (n : ℕ). deposited H user + n) ins) (omega arith)

  pub deposit_others : (user bits u : ℕ) → (u ≡ user → ⊥) → holding_of network tree (H ++ Deposit user bits ∷ []) u ≡ holding_of network tree H u
  deposit_others user bits u other = holding_same network tree H (Deposit user bits) u refl (rw (ne_eqb user u (λ same. other (sym same))) refl) refl

  -- or taken out
  pub withdrawal_holding : (user bits : ℕ) → holding_of network tree (H ++ Withdraw user bits ∷ []) user ≡ with_withdrawal bits (holding_of network tree H user)
  withdrawal_holding user bits =
      let outs : bits_out user (Withdraw user bits) ≡ bits = rw (eq-eqb user user refl) refl in
      holding_grows network tree H (Withdraw user bits) user
      ∙ moved (Withdraw user bits) user (deposited H user) (withdrawn H user + bits) (omega arith)
      (ap (λ (n : ℕ). withdrawn H user + n) outs)

  pub withdrawal_others : (user bits u : ℕ) → (u ≡ user → ⊥) → holding_of network tree (H ++ Withdraw user bits ∷ []) u ≡ holding_of network tree H u
  withdrawal_others user bits u other = holding_same network tree H (Withdraw user bits) u refl refl (rw (ne_eqb user u (λ same. other (sym same))) refl)

-- a user joins
module _ (network : List Variable) (tree : GivenTree) (H : List Entry) (name : List ℕ) where
  join_others : (u : ℕ) → holding_of network tree (H ++ Join name ∷ []) u ≡ holding_of network tree H u
  join_others u = holding_same network tree H (Join name) u refl refl refl

  -- who owns nothing but knows what is resolved
  newcomer_holding : IsProper network H → AllByRecursion (FitsTransfer (length (users H))) H
      → holding_of network tree H (length (users H)) ≡ opening_holding network tree (resolutions H)
  newcomer_holding proper fits =
      let n = length (users H) in let moved = none_moved n H fits in
      let holding : Meaning → ℕ → ℕ → Holding = λ m d w. record { meaning = m; deposited = d; withdrawn = w } in
      let none : Meaning = (opening_holding network tree (resolutions H)).meaning in
      ap (λ (m : Meaning). holding m (deposited H n) (withdrawn H n)) (newcomer_has_none network tree H proper)
      ∙ ap (λ (d : ℕ). holding none d (withdrawn H n)) (moved.0)
      ∙ ap (holding none 0) (moved.1)

  pub held_joined : {E Plan : Type 0} (stands_for : E → Meaning → Type 0) (members : List (Member E Plan)) (assets : Assets E Plan)
      → names_of members ≡ users H → IsProper network H → AllByRecursion (FitsTransfer (length (users H))) H
      → ((u : ℕ) (x : Assets E Plan) → slice_get (assets_of members) u ≡ Some x → Holds stands_for x (holding_of network tree H u))
      → Holds stands_for assets (opening_holding network tree (resolutions H))
      → (u : ℕ) (x : Assets E Plan) → slice_get (assets_of (members ++ new_member name assets ∷ [])) u ≡ Some x → Holds stands_for x (holding_of network tree (H ++ Join name ∷ []) u)
  held_joined {E} {Plan} stands_for members assets named proper fits held own u x at =
      each (push_cases (assets_of members) u assets x (subst (λ (xs : List (Assets E Plan)). slice_get xs u ≡ Some x) (map-append (λ (m : Member E Plan). m.assets) members (new_member name assets ∷ [])) at))
    where
      count : length (assets_of members) ≡ length (users H)
      count = length-map members (λ (m : Member E Plan). m.assets) ∙ sym (length-map members (λ (m : Member E Plan). m.name)) ∙ ap (λ (names : List (List ℕ)). length names) named

      each : ((u ≡ length (assets_of members)) × (assets ≡ x)) ⊎ (slice_get (assets_of members) u ≡ Some x) → Holds stands_for x (holding_of network tree (H ++ Join name ∷ []) u)
      each (inl h) = subst (λ (v : ℕ). Holds stands_for x (holding_of network tree (H ++ Join name ∷ []) v)) (sym (h.0 ∙ count))
          (subst (Holds stands_for x) (sym (join_others (length (users H)) ∙ newcomer_holding proper fits)) (subst (λ (a : Assets E Plan). Holds stands_for a (opening_holding network tree (resolutions H))) (h.1) own))
      each (inr h) = subst (Holds stands_for x) (sym (join_others u)) (held u x h)

  -- a newcomer was quoted nothing
  pub none_quoted_joined : {E Plan : Type 0} (members : List (Member E Plan)) (assets : Assets E Plan) (u : ℕ) (quote : LastQuote)
      → slice_get (quotes_of (members ++ new_member name assets ∷ [])) u ≡ Some (Some quote) → slice_get (quotes_of members) u ≡ Some (Some quote)
  none_quoted_joined {E} {Plan} members assets u quote at =
      each (push_cases (quotes_of members) u None (Some quote) (subst (λ (qs : List (Option LastQuote)). slice_get qs u ≡ Some (Some quote)) (map-append (λ (m : Member E Plan). m.quote) members (new_member name assets ∷ [])) at))
    where
      each : ((u ≡ length (quotes_of members)) × (None ≡ Some quote)) ⊎ (slice_get (quotes_of members) u ≡ Some (Some quote)) → slice_get (quotes_of members) u ≡ Some (Some quote)
      each (inl h) = let no : None ≡ Some quote = h.1 in cc
      each (inr h) = h
