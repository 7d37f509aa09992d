-- What the users of a market hold once the assets of one changed, or an entry was made.
use Rattle.std.specs.Prelude.{◌≡◌, ◌≢◌, ℕ, ◌+◌, List, [], ◌∷◌, ◌++◌}
use Rattle.std.specs.Prelude.{Option, Some, None, option_map, unwrap_or}
use Rattle.std.specs.Prelude.{slice_get, slice_set, ◌⊎◌}
use Rattle.std.proofs.Common.{inl, inr, refl, sym, ap, ◌∙◌, subst, arith}
use Rattle.std.proofs.lemmas.List.{map-set}
use Rattle.std.proofs.lemmas.Option.{slice_get-map, get_or_from_slice_get}
use Rattle.std.proofs.Math.Seq.{map-set_same}
use Rattle.mk_net.specs.Network.{Variable}
use Rattle.mk_exact.specs.History.{Entry}
use Rattle.mk_exact.specs.History.{deposited, withdrawn, bits_in, bits_out}
use Rattle.mk_exact.proofs.After.{deposited_more, withdrawn_more}
use Rattle.mk_tree.specs.Given.{GivenTree}
use Rattle.mk_engine.specs.Meaning.{Meaning}
use Rattle.mk_beliefs.specs.Meanings.{gains_of, grown_for}
use Rattle.mk_beliefs.proofs.Grown.{gains_grow}
use Rattle.mk_assets.specs.declared.assets.Assets.{Assets}
use Rattle.mk_assets.specs.Holdings.{Holding, Holds}
use Rattle.mk_answers.specs.Open.{holding_of}
use Rattle.mk_record.specs.declared.users.Member.{Member}
use Rattle.mk_record.specs.Members.{names_of, assets_of, quotes_of, with_assets}
use Rattle.mk_asking.proofs.Lent.{read_set}

-- a value that was mapped
mapped : {X Y : Type 0} (f : X → Y) (o : Option X) (y : Y) → option_map f o ≡ Some y → (x : X) × (o ≡ Some x) × (f x ≡ y)
mapped f None y e = cc
mapped f (Some x) y e = (x, refl, cc)

-- the assets of one user change
module _ {E Plan : Type 0} (members : List (Member E Plan)) (user : ℕ) (before after : Assets E Plan) (there : slice_get (assets_of members) user ≡ Some before) where
  the_member : (m : Member E Plan) × (slice_get members user ≡ Some m) × (m.assets ≡ before)
  the_member = mapped (λ (m : Member E Plan). m.assets) (slice_get members user) before (sym (slice_get-map (λ (m : Member E Plan). m.assets) members user) ∙ there)

  changed : Member E Plan
  changed = let m : Member E Plan = the_member.0 in record m { assets = after }

  is_set : with_assets members user after ≡ slice_set members user changed
  unfolding changed
  is_set = ap (λ (o : Option (Member E Plan)). unwrap_or (option_map (λ (m : Member E Plan). slice_set members user (record m { assets = after })) o) members) (the_member.1)

  pub names_same : names_of (with_assets members user after) ≡ names_of members
  unfolding changed
  names_same = ap (λ (ms : List (Member E Plan)). names_of ms) is_set
      ∙ map-set_same (λ (m : Member E Plan). m.name) members user changed (the_member.0) (ap (λ (m : Member E Plan). m.name) (sym (get_or_from_slice_get members user (the_member.0) (the_member.0) (the_member.1))))

  pub quotes_same : quotes_of (with_assets members user after) ≡ quotes_of members
  unfolding changed
  quotes_same = ap (λ (ms : List (Member E Plan)). quotes_of ms) is_set
      ∙ map-set_same (λ (m : Member E Plan). m.quote) members user changed (the_member.0) (ap (λ (m : Member E Plan). m.quote) (sym (get_or_from_slice_get members user (the_member.0) (the_member.0) (the_member.1))))

  assets_set : assets_of (with_assets members user after) ≡ slice_set (assets_of members) user after
  unfolding changed
  assets_set = ap (λ (ms : List (Member E Plan)). assets_of ms) is_set ∙ map-set (λ (m : Member E Plan). m.assets) members user changed

  -- whose assets are read then
  pub whose : (u : ℕ) (x : Assets E Plan) → slice_get (assets_of (with_assets members user after)) u ≡ Some x
      → ((u ≡ user) × (after ≡ x)) ⊎ ((u ≡ user → ⊥) × (slice_get (assets_of members) u ≡ Some x))
  whose u x at =
      turned (read_set (assets_of members) user u after x
      (subst (λ (xs : List (Assets E Plan)). slice_get xs u ≡ Some x) assets_set at))
    where
      turned : ((u ≡ user) × (x ≡ after))
          ⊎ ((u ≢ user) × (slice_get (assets_of members) u ≡ Some x))
          → ((u ≡ user) × (after ≡ x))
          ⊎ ((u ≡ user → ⊥) × (slice_get (assets_of members) u ≡ Some x))
      turned (inl h) = inl (h.0, sym (h.1))
      turned (inr h) = inr h

  -- where they are of all holdings that they were of, so are each user's
  pub all_still : (stands_for : E → Meaning → Type 0) → ((h : Holding) → Holds stands_for before h → Holds stands_for after h)
      → (u : ℕ) (x : Assets E Plan) → slice_get (assets_of (with_assets members user after)) u ≡ Some x
      → (old : Assets E Plan) × (slice_get (assets_of members) u ≡ Some old) × ((h : Holding) → Holds stands_for old h → Holds stands_for x h)
  all_still stands_for still u x at = each (whose u x at)
    where
      each : ((u ≡ user) × (after ≡ x)) ⊎ ((u ≡ user → ⊥) × (slice_get (assets_of members) u ≡ Some x))
          → (old : Assets E Plan) × (slice_get (assets_of members) u ≡ Some old) × ((h : Holding) → Holds stands_for old h → Holds stands_for x h)
      each (inl h) = (before, ap (slice_get (assets_of members)) (h.0) ∙ there, λ (holding : Holding) held. subst (λ (a : Assets E Plan). Holds stands_for a holding) (h.1) (still holding held))
      each (inr h) = (x, h.1, λ (holding : Holding) held. held)

-- what each user holds after an entry
module _ (network : List Variable) (tree : GivenTree) (H : List Entry) where
  pub holding_grows : (e : Entry) (u : ℕ) → holding_of network tree (H ++ e ∷ []) u
      ≡ record { meaning = grown_for u e (gains_of network tree H u); deposited = deposited H u + bits_in u e; withdrawn = withdrawn H u + bits_out u e }
  holding_grows e u =
      let holding : Meaning → ℕ → ℕ → Holding = λ m d w. record { meaning = m; deposited = d; withdrawn = w } in
      ap (λ (m : Meaning). holding m (deposited (H ++ e ∷ []) u) (withdrawn (H ++ e ∷ []) u)) (gains_grow network tree H u e)
      ∙ ap (λ (d : ℕ). holding (grown_for u e (gains_of network tree H u)) d (withdrawn (H ++ e ∷ []) u)) (deposited_more H e u)
      ∙ ap (holding (grown_for u e (gains_of network tree H u)) (deposited H u + bits_in u e)) (withdrawn_more H e u)

  -- one that neither multiplies the user's gains, nor makes a pair known, nor moves the user's bits
  pub holding_same : (e : Entry) (u : ℕ) → grown_for u e (gains_of network tree H u) ≡ gains_of network tree H u → bits_in u e ≡ 0 → bits_out u e ≡ 0
      → holding_of network tree (H ++ e ∷ []) u ≡ holding_of network tree H u
  holding_same e u gains ins outs =
      let holding : Meaning → ℕ → ℕ → Holding = λ m d w. record { meaning = m; deposited = d; withdrawn = w } in
      let d : deposited H u + bits_in u e ≡ deposited H u = omega (arith, ins) in
      let w : withdrawn H u + bits_out u e ≡ withdrawn H u = omega (arith, outs) in
      holding_grows e u
      ∙ ap (λ (m : Meaning). holding m (deposited H u + bits_in u e) (withdrawn H u + bits_out u e)) gains
      ∙ ap (λ (n : ℕ). holding (gains_of network tree H u) n (withdrawn H u + bits_out u e)) d
      ∙ ap (holding (gains_of network tree H u) (deposited H u)) w

  -- each user's assets are those that the history leaves, where one user's are and nothing changes for another
  pub held_one : {E Plan : Type 0} (stands_for : E → Meaning → Type 0) (members : List (Member E Plan)) (user : ℕ) (before after : Assets E Plan) (e : Entry)
      → slice_get (assets_of members) user ≡ Some before
      → ((u : ℕ) (x : Assets E Plan) → slice_get (assets_of members) u ≡ Some x → Holds stands_for x (holding_of network tree H u))
      → Holds stands_for after (holding_of network tree (H ++ e ∷ []) user)
      → ((u : ℕ) → (u ≡ user → ⊥) → holding_of network tree (H ++ e ∷ []) u ≡ holding_of network tree H u)
      → (u : ℕ) (x : Assets E Plan) → slice_get (assets_of (with_assets members user after)) u ≡ Some x → Holds stands_for x (holding_of network tree (H ++ e ∷ []) u)
  held_one {E} {Plan} stands_for members user before after e there held own others u x at = each (whose members user before after there u x at)
    where
      each : ((u ≡ user) × (after ≡ x)) ⊎ ((u ≡ user → ⊥) × (slice_get (assets_of members) u ≡ Some x)) → Holds stands_for x (holding_of network tree (H ++ e ∷ []) u)
      each (inl h) = subst (λ (v : ℕ). Holds stands_for x (holding_of network tree (H ++ e ∷ []) v)) (sym (h.0)) (subst (λ (a : Assets E Plan). Holds stands_for a (holding_of network tree (H ++ e ∷ []) user)) (h.1) own)
      each (inr h) = subst (Holds stands_for x) (sym (others u (h.0))) (held u x (h.1))
