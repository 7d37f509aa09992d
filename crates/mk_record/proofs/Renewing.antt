-- The assets of users are renewed, one user after another.
use Rattle.std.specs.Prelude.{◌≡◌, ℕ, zero, suc, ◌+◌, ◌<◌, ◌≤◌, List, [], ◌∷◌, ◌++◌, length}
use Rattle.std.specs.Prelude.{take, drop, slice_set, slice_index_or}
use Rattle.std.proofs.Common.{refl, sym, ap, ap₂, ◌∙◌, subst, arith, append-nil}
use Rattle.std.proofs.lemmas.List.{length-map, map-set}
use Rattle.std.proofs.Math.Seq.{map-set_same}
use Rattle.mk_assets.specs.declared.assets.Assets.{Assets}
use Rattle.mk_record.specs.declared.users.Member.{Member}
use Rattle.mk_record.specs.Members.{names_of, assets_of, quotes_of}

-- a list whose front was replaced by another's, with one item more replaced
further : {X : Type 0} (new old left : List X) (k : ℕ) (x : X) → k < length old
    → x ∷ left ≡ drop k new
    → (left ≡ drop (suc k) new)
    × (slice_set (take k new ++ drop k old) k x ≡ take (suc k) new ++ drop (suc k) old)
further new [] left k x h e = absurd (omega (arith, h))
further [] (b ∷ old) left zero x h e = cc
further [] (b ∷ old) left (suc k) x h e = cc
further (a ∷ new) (b ∷ old) left zero x h e = (cc, cc)
further (a ∷ new) (b ∷ old) left (suc k) x h e =
    let rest = further new old left k x (omega (arith, h)) e in
    (rest.0, ap (λ ys. a ∷ ys) rest.1)

taken : {X : Type 0} (xs : List X) (k : ℕ) → length xs ≤ k → take k xs ≡ xs
taken [] zero i = refl
taken [] (suc k) i = refl
taken (x ∷ xs) zero i = absurd (omega (arith, i))
taken (x ∷ xs) (suc k) i = ap (λ ys. x ∷ ys) (taken xs k (omega (arith, i)))

dropped : {X : Type 0} (xs : List X) (k : ℕ) → length xs ≤ k → drop k xs ≡ []
dropped [] zero i = refl
dropped [] (suc k) i = refl
dropped (x ∷ xs) zero i = absurd (omega (arith, i))
dropped (x ∷ xs) (suc k) i = dropped xs k (omega (arith, i))

front : {X : Type 0} (xs ys : List X) → take (length xs) (xs ++ ys) ≡ xs
front [] [] = refl
front [] (y ∷ ys) = refl
front (x ∷ xs) ys = ap (λ zs. x ∷ zs) (front xs ys)

module _ {E P : Type 0} (new : List (Assets E P)) (before : List (Member E P)) where
  -- the first k users have the first k assets, and the others their own
  pub record IsRenewedTo (k : ℕ) (left : List (Assets E P)) (now : List (Member E P)) : Type 0 where
    pub left_over : left ≡ drop k new
    pub names : names_of now ≡ names_of before
    pub quotes : quotes_of now ≡ quotes_of before
    pub assets : assets_of now ≡ take k new ++ drop k (assets_of before)

  same_length : (now : List (Member E P)) → names_of now ≡ names_of before
      → length now ≡ length before
  same_length now e =
      sym (length-map now (λ (m : Member E P). m.name)) ∙ ap length e
      ∙ length-map before (λ (m : Member E P). m.name)

  pub renewed_none : IsRenewedTo 0 new before
  renewed_none = record { left_over = refl; names = refl; quotes = refl; assets = refl }

  pub renewed_next : (k : ℕ) (left later : List (Assets E P)) (now : List (Member E P))
      (m : Member E P) (x : Assets E P) → k < length now → left ≡ x ∷ later
      → IsRenewedTo k left now
      → IsRenewedTo (k + 1) later (slice_set now k (record (slice_index_or now k m) { assets = x }))
  renewed_next k left later now m x within next h =
      let one_more : suc k ≡ k + 1 = omega arith in
      let put : Member E P = record (slice_index_or now k m) { assets = x } in
      let inside : k < length (assets_of before) = omega (
        arith,
        within,
        same_length now h.names,
        length-map before (λ (m : Member E P). m.assets),
      ) in
      let step = further new (assets_of before) later k x inside (sym next ∙ h.left_over) in
      subst (λ n. IsRenewedTo n later (slice_set now k put)) one_more
      (record {
        left_over = step.0;
        names = map-set_same (λ (m : Member E P). m.name) now k put m refl ∙ h.names;
        quotes = map-set_same (λ (m : Member E P). m.quote) now k put m refl ∙ h.quotes;
        assets =
            map-set (λ (m : Member E P). m.assets) now k put
            ∙ ap (λ ys. slice_set ys k x) h.assets ∙ step.1;
      })

  -- behind the last user each has the asset at the user's place; the list is written back
  pub renewed_all : (k n : ℕ) (left : List (Assets E P)) (now after : List (Member E P))
      → length new ≡ length before → length now ≤ k → n ≡ length now → IsRenewedTo k left now
      → assets_of (take n (now ++ after)) ≡ new
  renewed_all k n left now after same end whole h =
      let all : length now ≡ length before = same_length now h.names in
      let few : length new ≤ k = omega (arith, same, all, end) in
      let none : length (assets_of before) ≤ k =
      omega (arith, all, end, length-map before (λ (m : Member E P). m.assets)) in
      ap (λ i. assets_of (take i (now ++ after))) whole
      ∙ ap assets_of (front now after) ∙ h.assets
      ∙ ap₂ (λ xs ys. xs ++ ys) (taken new k few) (dropped (assets_of before) k none)
      ∙ append-nil new
