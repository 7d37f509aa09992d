-- In a network without a share of nothing the target of a question can come, where its condition holds, and so can something else.
use Rattle.std.proofs.Common.{◌≡◌, ℕ, zero, suc, ◌<◌, ◌≤◌, Bool, true, false, not, ◌&&◌, eqb, List, [], ◌∷◌, ◌++◌, length, slice_index, sym, ◌∙◌, refl, arith, eq-eqb}
use Rattle.std.specs.List.{AllByRecursion}
use Rattle.std.proofs.lemmas.Bool.{and_from, and_parts, eqb-true}
use Rattle.mk_net.specs.declared.words.Pair.{Pair}
use Rattle.mk_net.specs.Asked.{Asked}
use Rattle.mk_net.specs.Events.{speaks_of}
use Rattle.mk_net.specs.Named.{nobody}
use Rattle.mk_net.specs.Network.{Variable, sizes}
use Rattle.mk_net.specs.Zeros.{with_zeros}
use Rattle.mk_net.proofs.Events.{apart_longer, neither}
use Rattle.mk_states.specs.Events.{holds, has, with_target, without_target}
use Rattle.mk_exact.specs.History.{Entry, resolutions}
use Rattle.mk_states.specs.InitialWeight.{value_at}
use Rattle.mk_exact.specs.Laws.{AgreesWith}
use Rattle.mk_states.specs.OfNetwork.{IsPairOf}
use Rattle.mk_exact.specs.Weight.{possible_states, cannot_come, total}
use Rattle.mk_exact.proofs.Coming.{comes_in, weight_of}
use Rattle.mk_exact.proofs.ExistMarkets.{passing_stay}
use Rattle.mk_states.proofs.Shares.{size_at}
use Rattle.mk_exact.proofs.Remains.{state_remains}
use Rattle.mk_states.proofs.Sums.{each-append, list_all-append}
use Rattle.mk_exact.proofs.Zeros.{no_zeros}
use Rattle.mk_tree.specs.Given.{GivenTree}
use Rattle.mk_answers.specs.Open.{IsOpen, CanBeAnswered}
use Rattle.mk_answers.specs.Results.{AreBothLeft}

module _ (network : List Variable) (tree : GivenTree) (H : List Entry) (is_open : IsOpen network tree H) (asked : Asked) (answered : CanBeAnswered network tree H asked)
    (no_shares : with_zeros network ≡ []) where
  -- a pair of the target's variable
  target_is : ℕ → Pair
  target_is value = record { variable = asked.target.variable; value = value }

  silent : (rs : List Pair) (value : ℕ) → speaks_of rs asked.target.variable ≡ false → AllByRecursion (AgreesWith (target_is value)) rs
  unfolding target_is
  silent [] value h = tt
  silent (r ∷ rs) value h =
      let parts = neither (eqb asked.target.variable r.variable) (speaks_of rs asked.target.variable) h in
      (λ e. absurd (let t = eq-eqb asked.target.variable r.variable (sym e) in let f = parts.0 in cc), silent rs value (parts.1))

  -- the condition and any value of the target's variable hold in some possible state
  with_value : (value : ℕ) → IsPairOf network (target_is value) → 1 ≤ length (possible_states network H (holds (asked.condition ++ target_is value ∷ [])))
  unfolding target_is
  with_value value fits = state_remains network H (asked.condition ++ target_is value ∷ []) is_open.legal (no_zeros network no_shares) is_open.proper
      (each-append (IsPairOf network) asked.condition (target_is value ∷ []) answered.in_order.in_range.condition (fits, tt))
      (apart_longer asked.condition (target_is value) answered.in_order.apart answered.in_order.target_apart)
      (each-append (λ p. AllByRecursion (AgreesWith p) (resolutions H)) asked.condition (target_is value ∷ []) answered.agrees
      (silent (resolutions H) value answered.in_order.unresolved, tt))

  parts_hold : (value : ℕ) (s : List ℕ) → holds (asked.condition ++ target_is value ∷ []) s ≡ true → (holds asked.condition s ≡ true) × (value_at s asked.target.variable ≡ value)
  unfolding target_is
  parts_hold value s h =
      let parts = and_parts (holds asked.condition s) (has (target_is value) s && true) (sym (list_all-append (λ p. has p s) asked.condition (target_is value ∷ [])) ∙ h) in
      (parts.0, eqb-true (value_at s asked.target.variable) value (and_parts (has (target_is value) s) true (parts.1)).0)

  hit_left : 1 ≤ length (possible_states network H (with_target asked))
  unfolding target_is
  hit_left = passing_stay network H (holds (asked.condition ++ target_is asked.target.value ∷ [])) (with_target asked) hits (with_value asked.target.value answered.in_order.in_range.target)
    where
      hits : (s : List ℕ) → holds (asked.condition ++ target_is asked.target.value ∷ []) s ≡ true → with_target asked s ≡ true
      hits s h =
          let parts = parts_hold asked.target.value s h in
          and_from (holds asked.condition s) (has asked.target s) (parts.0) (eq-eqb (value_at s asked.target.variable) asked.target.value (parts.1))

  -- another value of the target's variable
  another : (value : ℕ) × (value ≡ asked.target.value → ⊥) × IsPairOf network (target_is value)
  unfolding target_is
  another = choose asked.target.value refl
    where
      within : asked.target.variable < length network
      within = answered.in_order.in_range.target.variable

      two : 2 ≤ slice_index (sizes network) asked.target.variable
      two = omega (arith, size_at network is_open.legal asked.target.variable within, (is_open.legal.each asked.target.variable nobody within).two_values)

      choose : (v : ℕ) → asked.target.value ≡ v → (value : ℕ) × (value ≡ asked.target.value → ⊥) × IsPairOf network (target_is value)
      choose zero e = (1, λ same. absurd (omega arith), record { variable = within; value = omega (arith, two) })
      choose (suc v) e = (0, λ same. absurd (omega arith), record { variable = within; value = omega (arith, two) })

  miss_left : 1 ≤ length (possible_states network H (without_target asked))
  miss_left = passing_stay network H (holds (asked.condition ++ target_is (another.0) ∷ [])) (without_target asked) misses (with_value (another.0) (another.2))
    where
      other : (s : List ℕ) → value_at s asked.target.variable ≡ another.0 → (b : Bool) → has asked.target s ≡ b → not b ≡ true
      other s e true t = absurd (another.1 (sym e ∙ eqb-true (value_at s asked.target.variable) asked.target.value t))
      other s e false t = refl

      misses : (s : List ℕ) → holds (asked.condition ++ target_is (another.0) ∷ []) s ≡ true → without_target asked s ≡ true
      misses s h =
          let parts = parts_hold (another.0) s h in
          and_from (holds asked.condition s) (not (has asked.target s)) (parts.0) (other s (parts.1) (has asked.target s) refl)

  condition_left : 1 ≤ length (possible_states network H (holds asked.condition))
  condition_left = passing_stay network H (with_target asked) (holds asked.condition) (λ s e. (and_parts (holds asked.condition s) (has asked.target s) e).0) hit_left

  -- both sides can come
  pub both_left : AreBothLeft network H asked
  both_left = record { hit = comes_in network H (with_target asked) hit_left; miss = comes_in network H (without_target asked) miss_left }

  pub condition_comes : cannot_come network H (holds asked.condition) ≡ false
  condition_comes = comes_in network H (holds asked.condition) condition_left

  -- and so each of them weighs something
  pub hit_some : 1 ≤ total network H (with_target asked)
  hit_some = weight_of network H (with_target asked) is_open.legal is_open.proper both_left.hit

  pub miss_some : 1 ≤ total network H (without_target asked)
  miss_some = weight_of network H (without_target asked) is_open.legal is_open.proper both_left.miss

  pub condition_some : 1 ≤ total network H (holds asked.condition)
  condition_some = weight_of network H (holds asked.condition) is_open.legal is_open.proper condition_comes

-- what a list says that was found empty
pub none_of : (xs ys : List ℕ) (b : Bool) → b ≡ true → b ≡ eqb (length xs) 0 → xs ≡ ys → ys ≡ []
none_of [] ys b e is same = sym same
none_of (x ∷ xs) ys b e is same = absurd (let n = eqb-true (length (x ∷ xs)) 0 (sym is ∙ e) in omega arith)
