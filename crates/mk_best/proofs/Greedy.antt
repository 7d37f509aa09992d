-- One variable more is known at the value with the greatest lower end.
use Rattle.std.proofs.Common.{◌≡◌, ℕ, zero, suc, ◌+◌, ◌*◌, ◌<◌, ◌≤◌, ◌⊎◌, inl, inr, List, [], ◌∷◌}
use Rattle.std.proofs.Common.{◌++◌, length, slice_index, take, refl, sym, ap, subst, ◌∙◌, arith}
use Rattle.std.proofs.Common.{length-append}
use Rattle.std.proofs.lemmas.Bool.{cases_lt}
use Rattle.mk_net.specs.declared.words.Pair.{Pair}
use Rattle.mk_net.specs.Network.{Variable, sizes}
use Rattle.mk_states.specs.Events.{holds, always}
use Rattle.mk_exact.specs.History.{Entry}
use Rattle.mk_exact.specs.Weight.{IsSmall}
use Rattle.mk_scaled.specs.Near.{IsNear, near_self, near_trans}
use Rattle.mk_answers.specs.inner.Found.{max_side_grade}
use Rattle.mk_best.specs.BestStates.{greatest}
use Rattle.mk_best.specs.inner.Engines.{learned}
use Rattle.mk_best.specs.inner.Picks.{is_at, pairs_from, greatest_with, IsPick, AreFound}
use Rattle.mk_best.proofs.Learned.{learned_none, small_learned}
use Rattle.mk_best.proofs.OneState.{pairs_more}
use Rattle.mk_best.proofs.Maxima.{greatest_left, greatest_narrow, splits, learned_pair}
use Rattle.mk_best.proofs.Picked.{picked_near, picked_most}

front_at : (xs : List ℕ) (v i : ℕ) → i < length xs
    → slice_index (xs ++ v ∷ []) i ≡ slice_index xs i
front_at [] v i l = absurd (omega (arith, l))
front_at (x ∷ xs) v zero l = refl
front_at (x ∷ xs) v (suc i) l = front_at xs v i (omega (arith, l))

last_at : (xs : List ℕ) (v : ℕ) → slice_index (xs ++ v ∷ []) (length xs) ≡ v
last_at [] v = refl
last_at (x ∷ xs) v = last_at xs v

take_front : (i : ℕ) (xs ys : List ℕ) → i ≤ length xs → take i (xs ++ ys) ≡ take i xs
take_front zero xs ys l = none xs ys
  where
    none : (xs ys : List ℕ) → take 0 (xs ++ ys) ≡ take 0 xs
    none [] [] = refl
    none [] (y ∷ ys) = refl
    none (x ∷ xs) ys = refl
take_front (suc i) [] ys l = absurd (omega (arith, l))
take_front (suc i) (x ∷ xs) ys l = ap (λ zs. x ∷ zs) (take_front i xs ys (omega (arith, l)))

take_whole : (xs : List ℕ) → take (length xs) xs ≡ xs
take_whole [] = refl
take_whole (x ∷ xs) = ap (λ ys. x ∷ ys) (take_whole xs)

at_or_before : (k : ℕ) (P : ℕ → Type 0) → ((i : ℕ) → i < k → P i) → P k → (i : ℕ) → i < k + 1 → P i
at_or_before k P before here i l = at (cases_lt i k)
  where
    at : ((i < k) ⊎ (k ≤ i)) → P i
    at (inl r) = before i r
    at (inr r) = let e : k ≡ i = omega (arith, l, r) in subst P e here

module _ (network : List Variable) (H : List Entry) where
  pub found_none : AreFound network H 0 []
  found_none = record {
    values = [];
    are = refl;
    count = refl;
    in_range = λ i l. absurd (omega (arith, l));
    near = subst (λ (K : List Entry). IsNear (greatest network K always)
        (greatest network H always) (max_side_grade * 0)) (sym (learned_none H))
        (near_self (greatest network H always) (max_side_grade * 0));
    same = λ s. ap (λ (K : List Entry). greatest network K always) (learned_none H);
    before = λ s i l x m. absurd (omega (arith, l));
  }

  module _ (k : ℕ) (pairs : List Pair) (v : ℕ) (l : k < length network)
      (found : AreFound network H k pairs) (pick : IsPick network (learned H pairs) k v)
      (fits : v < slice_index (sizes network) k) where
    more : List ℕ
    more = found.values ++ v ∷ []

    now_left : greatest network (learned H (pairs ++ is_at k v ∷ [])) always
        ≡ greatest_with network (learned H pairs) k v
    now_left =
        ap (λ (K : List Entry). greatest network K always) (learned_pair H pairs (is_at k v))
        ∙ greatest_left network (learned H pairs) (is_at k v ∷ [])

    near_now : IsNear (greatest_with network (learned H pairs) k v)
        (greatest network (learned H pairs) always) max_side_grade
    near_now =
        subst (λ n. IsNear (greatest_with network (learned H pairs) k v) n max_side_grade)
        (sym (splits network (learned H pairs) k l))
        (picked_near (slice_index (sizes network) k) (greatest_with network (learned H pairs) k)
        (IsSmall network (learned H pairs)) v (pick.0) (pick.1))

    same_now : IsSmall network H → greatest_with network (learned H pairs) k v
        ≡ greatest network H always
    same_now small =
        let most = picked_most (slice_index (sizes network) k)
        (greatest_with network (learned H pairs) k)
        (IsSmall network (learned H pairs)) v (pick.0) (pick.1)
        (small_learned H pairs network small) in
        let cut = splits network (learned H pairs) k l in
        let less = greatest_narrow network (learned H pairs) always (holds (is_at k v ∷ []))
        (λ s e. refl) in
        let before = found.same small in
        omega (arith, most, cut, less, before)

    pub found_more : AreFound network H (k + 1) (pairs ++ is_at k v ∷ [])
    unfolding more
    found_more = record {
      values = more;
      are =
          let e : 0 + length found.values ≡ k = let c = found.count in omega (arith, c) in
          ap (λ (ps : List Pair). ps ++ is_at k v ∷ []) found.are
          ∙ ap (λ i. pairs_from 0 found.values ++ is_at i v ∷ []) (sym e)
          ∙ sym (pairs_more 0 found.values v);
      count = length-append found.values (v ∷ []) ∙ ap (λ n. n + 1) found.count;
      in_range = at_or_before k (λ i. slice_index more i < slice_index (sizes network) i)
          (λ i m. subst (λ n. n < slice_index (sizes network) i)
          (sym (front_at found.values v i (let c = found.count in omega (arith, c, m))))
          (found.in_range i m))
          (subst (λ n. n < slice_index (sizes network) k) (sym newest) fits);
      near =
          let e : max_side_grade + max_side_grade * k ≡ max_side_grade * (k + 1) = omega arith in
          subst (λ n. IsNear n (greatest network H always) (max_side_grade * (k + 1)))
          (sym now_left)
          (subst (λ n. IsNear (greatest_with network (learned H pairs) k v)
          (greatest network H always) n) e
          (near_trans (greatest_with network (learned H pairs) k v)
          (greatest network (learned H pairs) always) (greatest network H always)
          max_side_grade (max_side_grade * k) near_now found.near));
      same = λ s. now_left ∙ same_now s;
      before = λ s. at_or_before k (λ i. (x : ℕ) → x < slice_index more i
          → greatest_with network (learned H (pairs_from 0 (take i more))) i x
          < greatest network H always)
          (λ i m x lx.
          let within : i < length found.values = let c = found.count in omega (arith, c, m) in
          subst (λ (vs : List ℕ). greatest_with network (learned H (pairs_from 0 vs)) i x
          < greatest network H always)
          (sym (take_front i found.values (v ∷ []) (omega (arith, within))))
          (found.before s i m x (subst (λ n. x < n) (front_at found.values v i within) lx)))
          (λ x lx.
          let lower = pick.1.first (small_learned H pairs network s) x
          (subst (λ n. x < n) newest lx) in
          let below = pick.1.below in
          let same = same_now s in
          subst (λ (ps : List Pair). greatest_with network (learned H ps) k x
          < greatest network H always) (found.are ∙ ap (pairs_from 0) (sym taken))
          (omega (arith, lower, below, same)));
    }
      where
        newest : slice_index (found.values ++ v ∷ []) k ≡ v
        newest = ap (slice_index (found.values ++ v ∷ [])) (sym found.count)
            ∙ last_at found.values v

        taken : take k (found.values ++ v ∷ []) ≡ found.values
        taken = ap (λ i. take i (found.values ++ v ∷ [])) (sym found.count)
            ∙ take_front (length found.values) found.values (v ∷ []) (omega arith)
            ∙ take_whole found.values
