-- What is found is a best state.
use Rattle.std.proofs.Common.{◌≡◌, ℕ, zero, suc, ◌+◌, ◌-◌, ◌*◌, ◌^◌, ◌<◌, ◌≤◌, ◌⊎◌, inl, inr, Bool}
use Rattle.std.proofs.Common.{true, false, cond, ◌&&◌, max, List, [], ◌∷◌, length, take}
use Rattle.std.proofs.Common.{slice_index, refl, sym, ap, subst, ◌∙◌, arith, le_trans}
use Rattle.std.specs.List.{AllByRecursion}
use Rattle.std.proofs.lemmas.List.Elements.{All-from_recursion}
use Rattle.std.proofs.lemmas.Bool.{cases_lt}
use Rattle.std.proofs.Math.Nat.{le_of_mul-le-mul_right}
use Rattle.mk_net.specs.declared.words.Pair.{Pair}
use Rattle.mk_net.specs.Bounds.{sharpness}
use Rattle.mk_net.specs.Network.{Variable, IsNetwork, sizes}
use Rattle.mk_states.specs.Events.{holds, always}
use Rattle.mk_exact.specs.History.{Entry, trades}
use Rattle.mk_states.specs.InitialWeight.{can_come, value_at}
use Rattle.mk_exact.specs.Prices.{CoversPrice}
use Rattle.mk_states.specs.OfNetwork.{IsPairOf}
use Rattle.mk_exact.specs.Proper.{IsProper}
use Rattle.mk_states.specs.States.{IsState}
use Rattle.mk_exact.specs.Weight.{IsSmall, weight, total, is_possible, possible_states}
use Rattle.mk_exact.proofs.Sharp.{sharp, price_covers_more}
use Rattle.mk_states.proofs.Listed.{as_many}
use Rattle.mk_states.proofs.Sums.{sum_by_is}
use Rattle.mk_sums.proofs.Grades.{sums_lawful}
use Rattle.mk_scaled.specs.Near.{IsNear, near_more}
use Rattle.mk_enclose.specs.declared.enclosure.Enclosure.{Enclosure}
use Rattle.mk_enclose.specs.Enclosure.{Encloses}
use Rattle.mk_semiring.specs.Most.{greatest_lawful}
use Rattle.mk_semiring.specs.declared.held.Held.{Held}
use Rattle.mk_semiring.specs.declared.held.Held.TheVariants.{Present}
use Rattle.mk_semiring.specs.Held.{HeldEncloses}
use Rattle.mk_engine.specs.Meaning.{ArePairsOf}
use Rattle.mk_answers.specs.inner.Found.{IsBeliefIn, max_side_grade}
use Rattle.mk_answers.proofs.Presence.{weighed_comes, absent_never}
use Rattle.mk_answers.proofs.Weaker.{covers_when}
use Rattle.mk_best.specs.declared.found.Best.{Best}
use Rattle.mk_best.specs.declared.found.Best.TheVariants.{Found, Impossible}
use Rattle.mk_best.specs.BestStates.{greatest, IsEarlier, IsFirstBest, IsBest, IsBestFound}
use Rattle.mk_best.specs.inner.Engines.{learned}
use Rattle.mk_best.specs.inner.Picks.{is_at, pairs_from, AreFound, AreEnds}
use Rattle.mk_best.specs.inner.Picks.{IsCertificate, IsBestLeft}
use Rattle.mk_best.specs.inner.Values.{values_in}
use Rattle.mk_best.proofs.Learned.{all_learned, small_learned}
use Rattle.mk_best.proofs.OneState.{has_values, values_had, values_are}
use Rattle.mk_best.proofs.Maxima.{no_weight, weight_alone, greatest_narrow, greatest_left}
use Rattle.mk_best.proofs.Maxima.{greatest_learned, greatest_at_most, none_weighs, weight_learned}
use Rattle.mk_best.proofs.Maxima.{possible_learned}
use Rattle.mk_best.proofs.Certified.{one_ceiling, some_near}
use Rattle.mk_best.proofs.Shares.{covers_learned}

where_true : (b : Bool) (n : ℕ) → 1 ≤ cond b n 0 → (b ≡ true) × (cond b n 0 ≡ n)
where_true true n h = (refl, refl)
where_true false n h = absurd (omega (arith, h))

comes_where : (b : Bool) (n : ℕ) → (b ≡ false → n ≡ 0) → 1 ≤ n → b ≡ true
comes_where true n h some = refl
comes_where false n h some = absurd (let e = h refl in omega (arith, e, some))

module _ (network : List Variable) (H : List Entry) (pairs : List Pair)
    (found : AreFound network H (length network) pairs) (legal : IsNetwork network)
    (some : 1 ≤ greatest network H always) where
  state : List ℕ
  state = found.values

  pub its_state : IsState (sizes network) found.values
  its_state = record {
    one_each = found.count ∙ sym (as_many network);
    in_range = λ k l. found.in_range k (let e = as_many network in omega (arith, l, e));
  }

  pub still_some : 1 ≤ greatest network (learned H pairs) always
  still_some = some_near (greatest network (learned H pairs) always) (greatest network H always)
      (max_side_grade * length network) found.near some

  -- all that is left is the state
  alone : greatest network (learned H pairs) always
      ≡ cond (is_possible H found.values) (weight network H found.values) 0
  alone =
      greatest_left network H pairs
      ∙ ap (λ (ps : List Pair). greatest network H (holds ps)) found.are
      ∙ weight_alone network H max greatest_lawful found.values its_state

  both : (is_possible H found.values ≡ true)
      × (cond (is_possible H found.values) (weight network H found.values) 0
      ≡ weight network H found.values)
  both = where_true (is_possible H found.values) (weight network H found.values)
      (subst (λ n. 1 ≤ n) alone still_some)

  pub weight_left : greatest network (learned H pairs) always ≡ weight network H found.values
  weight_left = alone ∙ both.1

  pub total_left : total network H (holds pairs) ≡ weight network H found.values
  total_left =
      ap (λ (ps : List Pair). total network H (holds ps)) found.are
      ∙ sum_by_is (weight network H) (possible_states network H (holds (pairs_from 0 found.values)))
      ∙ weight_alone network H ◌+◌ sums_lawful found.values its_state
      ∙ both.1

  pub comes : can_come network found.values ≡ true
  comes = comes_where (can_come network found.values) (weight network H found.values)
      (no_weight network H found.values) (subst (λ n. 1 ≤ n) weight_left still_some)

  pub at_most_best : weight network H found.values ≤ greatest network H always
  at_most_best = subst (λ n. n ≤ greatest network H always)
      (sym (greatest_left network H pairs) ∙ weight_left)
      (greatest_narrow network H always (holds pairs) (λ s e. refl))

  pub near_best : IsNear (weight network H found.values) (greatest network H always) (2 ^ 28)
  near_best = subst (λ n. IsNear n (greatest network H always) (2 ^ 28)) weight_left
      (near_more (greatest network (learned H pairs) always) (greatest network H always)
      (max_side_grade * length network) (2 ^ 28) few found.near)
    where
      few : max_side_grade * length network ≤ 2 ^ 28
      few = let l = legal.few in omega (arith, l)

  -- a possible state that is before it weighs less
  lighter : IsSmall network H → (t : List ℕ) → IsState (sizes network) t → is_possible H t ≡ true
      → IsEarlier t found.values → weight network H t < greatest network H always
  lighter small t st possible earlier =
      let k = earlier.place in
      let inside : k < length network = before_end in
      let its = weight_alone network H max greatest_lawful t st
      ∙ ap (λ b. cond b (weight network H t) 0) possible in
      let front = pairs_from 0 (take k found.values) in
      let less = found.before small k inside (value_at t k) earlier.less in
      let wider = greatest_narrow network H
      (λ s. holds front s && holds (is_at k (value_at t k) ∷ []) s)
      (holds (pairs_from 0 t)) (λ s e. agrees s e) in
      let is = greatest_learned network H front (holds (is_at k (value_at t k) ∷ [])) in
      omega (arith, its, less, wider, is)
    where
      -- past its end a list has 0 everywhere, which is not more
      before_end : earlier.place < length network
      before_end = at (cases_lt earlier.place (length network))
        where
          past : length network ≤ earlier.place → value_at found.values earlier.place ≡ 0
          past l = beyond found.values earlier.place
              (let e = found.count in omega (arith, l, e))
            where
              beyond : (xs : List ℕ) (i : ℕ) → length xs ≤ i → slice_index xs i ≡ 0
              beyond [] i l = refl
              beyond (x ∷ xs) zero l = absurd (omega (arith, l))
              beyond (x ∷ xs) (suc i) l = beyond xs i (omega (arith, l))

          at : ((earlier.place < length network) ⊎ (length network ≤ earlier.place))
              → earlier.place < length network
          at (inl l) = l
          at (inr l) =
              absurd (let e = past l in let m = earlier.less in omega (arith, e, m))

      agrees : (s : List ℕ) → holds (pairs_from 0 t) s ≡ true
          → (holds (pairs_from 0 (take earlier.place found.values)) s
          && holds (is_at earlier.place (value_at t earlier.place) ∷ []) s) ≡ true
      agrees s e = two _ _ in_front here
        where
          two : (a b : Bool) → a ≡ true → b ≡ true → (a && b) ≡ true
          two true b e f = f
          two false b e f = absurd (cc)

          each : (i : ℕ) → i < length network → value_at s i ≡ value_at t i
          each i l =
              let z : i ≡ 0 + i = omega arith in
              let n = st.one_each in
              let m = as_many network in
              ap (value_at s) z ∙ values_had 0 t s e i (omega (arith, l, n, m))

          in_front : holds (pairs_from 0 (take earlier.place found.values)) s ≡ true
          in_front = has_values 0 (take earlier.place found.values) s (λ i l.
              let z : 0 + i ≡ i = omega arith in
              let a = taken_below found.values earlier.place i l in
              ap (value_at s) z ∙ each i (let b = before_end in omega (arith, a.0, b))
              ∙ earlier.same i a.0 ∙ sym a.1)
            where
              taken_below : (xs : List ℕ) (k i : ℕ) → i < length (take k xs)
                  → (i < k) × (slice_index (take k xs) i ≡ slice_index xs i)
              taken_below [] zero i l = absurd (omega (arith, l))
              taken_below [] (suc k) i l = absurd (omega (arith, l))
              taken_below (x ∷ xs) zero i l = absurd (omega (arith, l))
              taken_below (x ∷ xs) (suc k) zero l = (omega arith, refl)
              taken_below (x ∷ xs) (suc k) (suc i) l =
                  let r = taken_below xs k i (omega (arith, l)) in (omega (arith, r.0), r.1)

          here : holds (is_at earlier.place (value_at t earlier.place) ∷ []) s ≡ true
          here = has_values earlier.place (value_at t earlier.place ∷ []) s (λ i l. at i l)
            where
              at : (i : ℕ) → i < 1 → value_at s (earlier.place + i)
                  ≡ slice_index (value_at t earlier.place ∷ []) i
              at zero l = let z : earlier.place + 0 ≡ earlier.place = omega arith in
                  ap (value_at s) z ∙ each earlier.place before_end
              at (suc i) l = absurd (omega (arith, l))

  pub first_best : IsSmall network H → IsFirstBest network H [] found.values
  first_best small = record {
    best = sym weight_left ∙ found.same small;
    before = λ t st possible meets earlier. lighter small t st possible earlier;
  }

  pub is_best : (low high most : ℕ) (value : Enclosure)
      → 1 ≤ total network H always
      → CoversPrice (IsSmall network H) (sharpness (length (trades H)))
      (record { num = total network H (holds pairs); den = total network H always }) low high
      → IsCertificate value most (IsSmall network H) (weight network H found.values)
      (greatest network H always) (total network H always)
      → IsBest network H [] low high most value found.values
  is_best low high most value some_left covers certified = record {
    state = its_state;
    comes = comes;
    possible = both.0;
    meets = refl;
    its_weight = certified.of_state;
    weight_of_best = certified.of_best;
    width = certified.width;
    covers = subst (λ (n : ℕ). CoversPrice (IsSmall network H) (sharpness (length (trades H)))
        (record { num = n; den = total network H always }) low high) total_left covers;
    at_most = certified.at_least;
    narrow = certified.near low low_at_most
        (subst (λ n. 10 ^ 10 * n * (2 ^ 39 - 1) < (low + 1) * total network H always * 2 ^ 39)
        total_left near_enough);
    first = first_best;
    same = λ s. same_units s;
  }
    where
      near_enough : 10 ^ 10 * total network H (holds pairs) * (2 ^ 39 - 1)
          < (low + 1) * total network H always * 2 ^ 39
      near_enough = (price_covers_more (IsSmall network H) (2 ^ 39)
          (sharpness (length (trades H)))
          (record { num = total network H (holds pairs); den = total network H always }) low high
          (omega arith) (sharp (length (trades H))) covers).low_near

      low_at_most : low ≤ 10 ^ 10
      low_at_most =
          let m : low * total network H always ≤ high * total network H always =
          le_trans covers.below covers.above in
          let l : low ≤ high = le_of_mul-le-mul_right m some_left in
          omega (arith, l, covers.at_most_one)

      same_units : IsSmall network H → most ≡ high
      same_units s = one_ceiling most high (10 ^ 10 * weight network H found.values)
          (total network H always) some_left
          (omega (arith, certified.at_least, best_is s))
          (omega (arith, certified.ceiling s, best_is s))
          (omega (arith, covers.above, total_left)) (omega (arith, covers.ceiling s, total_left))
        where
          best_is : IsSmall network H → greatest network H always ≡ weight network H found.values
          best_is s = sym (found.same s) ∙ weight_left

-- ---- what the certificate and the chance ask

each_fits : (network : List Variable) (k : ℕ) (values : List ℕ)
    → ((i : ℕ) → i < length values → IsPairOf network (is_at (k + i) (slice_index values i)))
    → AllByRecursion (IsPairOf network) (pairs_from k values)
each_fits network k [] h = tt
each_fits network k (v ∷ values) h =
    let z : k + 0 ≡ k = omega arith in (
      subst (λ n. IsPairOf network (is_at n v)) z (h 0 (omega arith)),
      each_fits network (suc k) values (λ i l.
          let e : k + suc i ≡ suc k + i = omega arith in
          subst (λ n. IsPairOf network (is_at n (slice_index values i))) e
          (h (suc i) (omega (arith, l)))),
    )

pub pairs_fit : (network : List Variable) (H : List Entry) (pairs : List Pair)
    → AreFound network H (length network) pairs → ArePairsOf network pairs
pairs_fit network H pairs found =
    subst (λ (ps : List Pair). ArePairsOf network ps) (sym found.are)
    (All-from_recursion (IsPairOf network) (pairs_from 0 found.values)
    (each_fits network 0 found.values (λ i l.
    let e : i ≡ 0 + i = omega arith in
    let n = found.count in
    subst (λ n. IsPairOf network (is_at n (slice_index found.values i))) e
    (record { variable = omega (arith, l, n); value = found.in_range i (omega (arith, l, n)) }))))

module _ (network : List Variable) (H : List Entry) (pairs : List Pair)
    (found : AreFound network H (length network) pairs) (legal : IsNetwork network)
    (some_left : 1 ≤ total network H always) where
  pub some_greatest : 1 ≤ greatest network H always
  some_greatest = at (greatest network H always) (none_weighs network H always)
    where
      at : (n : ℕ) → (n ≡ 0 → total network H always ≡ 0) → 1 ≤ n
      at zero h = absurd (let e = h refl in omega (arith, e, some_left))
      at (suc n) h = omega arith

  pub ends_of : (own top : Held) (whole : Enclosure)
      → IsBeliefIn own (IsSmall network (learned H pairs))
      (greatest network (learned H pairs) always)
      → IsBeliefIn top (IsSmall network H) (greatest network H always)
      → IsBeliefIn (Present whole) (IsSmall network H) (total network H always)
      → AreEnds own top whole (IsSmall network H) (weight network H found.values)
      (greatest network H always) (total network H always)
  ends_of own top whole a b c = record {
    of_state = record {
      encloses = subst (HeldEncloses own)
          (weight_left network H pairs found legal some_greatest) a.encloses;
      grade = a.grade;
      exact = λ s. a.exact (small_learned H pairs network s);
    };
    of_best = b;
    of_whole = c;
    some = some_greatest;
    near = near_best network H pairs found legal some_greatest;
    state_at_most = at_most_best network H pairs found legal some_greatest;
    best_at_most = greatest_at_most network H always;
  }

  pub best_found : (low high most : ℕ) (value : Enclosure) (s : List ℕ) → s ≡ values_in pairs
      → CoversPrice (IsSmall network H) (sharpness (length (trades H)))
      (record { num = total network H (holds pairs); den = total network H always }) low high
      → IsCertificate value most (IsSmall network H) (weight network H found.values)
      (greatest network H always) (total network H always)
      → IsBestLeft network H (Found low high most value s)
  best_found low high most value s is covers certified = (
    some_left,
    subst (λ (x : List ℕ). IsBest network H [] low high most value x)
        (sym (is ∙ ap values_in found.are ∙ values_are 0 found.values))
        (is_best network H pairs found legal some_greatest low high most value some_left covers
        certified),
  )

-- from the states that are left to those that meet the given pairs
pub best_of_given : (network : List Variable) (H : List Entry) (given : List Pair) (best : Best)
    → IsNetwork network → IsProper network H → IsBestLeft network (learned H given) best
    → IsBestFound network H given best
best_of_given network H given (Found low high most value s) legal proper h =
    let b = h.1 in
    let all : total network (learned H given) always ≡ total network H (holds given) =
    all_learned H given network in
    let top = greatest_left network H given in
    let its = weight_learned network H given s in
    let can = possible_learned network H given s in
    let one = two_true (is_possible H s) (holds given s) (sym can ∙ b.possible) in (
      weighed_comes network H (holds given) (subst (λ n. 1 ≤ n) all h.0),
      record {
        state = b.state;
        comes = b.comes;
        possible = one.0;
        meets = one.1;
        its_weight = subst (Encloses value) its b.its_weight;
        weight_of_best = subst (Encloses value) top b.weight_of_best;
        width = b.width;
        covers =
            covers_when (IsSmall network H) (IsSmall network (learned H given))
            (small_learned H given network) (sharpness (length (trades H))) _ low high
            (subst (λ (n : ℕ). CoversPrice (IsSmall network (learned H given))
            (sharpness (length (trades H))) (record { num = weight network H s; den = n }) low high)
            all
            (subst (λ (n : ℕ). CoversPrice (IsSmall network (learned H given))
            (sharpness (length (trades H)))
            (record { num = n; den = total network (learned H given) always }) low high) its
            (covers_learned (IsSmall network (learned H given)) H given
            (weight network (learned H given) s) (total network (learned H given) always) low high
            b.covers)));
        at_most =
            subst (λ n. 10 ^ 10 * n ≤ most * total network H (holds given)) top
            (subst (λ n. 10 ^ 10 * greatest network (learned H given) always ≤ most * n) all
            b.at_most);
        narrow = b.narrow;
        first = λ small.
            let f = b.first (small_learned H given network small) in
            record {
              best = sym its ∙ f.best ∙ top;
              before = λ t st possible meets earlier.
                  let less = f.before t st
                  (possible_learned network H given t
                  ∙ true_two (is_possible H t) (holds given t) possible meets) refl earlier in
                  let is = weight_learned network H given t in
                  subst (λ n. weight network H t < n) top
                  (subst (λ n. n < greatest network (learned H given) always) is less);
            };
        same = λ small. b.same (small_learned H given network small);
      },
    )
  where
    two_true : (a b : Bool) → (a && b) ≡ true → (a ≡ true) × (b ≡ true)
    two_true true b e = (refl, e)
    two_true false b e = absurd (cc)

    true_two : (a b : Bool) → a ≡ true → b ≡ true → (a && b) ≡ true
    true_two true b e f = f
    true_two false b e f = absurd (cc)
best_of_given network H given Impossible legal proper h =
    absent_never network H (holds given) legal proper (sym (all_learned H given network) ∙ h)
