-- The first pair of an event with which no possible state is left, found pair after pair.
use Rattle.std.proofs.Common.{◌≡◌, ℕ, zero, suc, ◌+◌, ◌<◌, true, false, cond, ◌⊎◌, inl, inr, eqb, List, [], ◌∷◌, ◌++◌, length, take, drop, Option, Some, None, refl, sym, ap, subst, ◌∙◌, arith, add-one, length-take}
use Rattle.std.specs.Prelude.{option_map, slice_index_or}
use Rattle.std.proofs.Math.Seq.{drop-cons}
use Rattle.mk_net.specs.declared.words.Pair.{Pair}
use Rattle.mk_net.specs.Bounds.{max_pairs}
use Rattle.mk_net.specs.Events.{speaks_of, AreApart, IsEvent}
use Rattle.mk_net.specs.Network.{Variable, IsNetwork}
use Rattle.mk_net.proofs.Events.{same_place}
use Rattle.mk_net.proofs.Taken.{any_at}
use Rattle.mk_states.specs.Events.{holds}
use Rattle.mk_exact.specs.History.{Entry}
use Rattle.mk_exact.specs.Proper.{IsProper}
use Rattle.mk_exact.specs.Weight.{cannot_come}
use Rattle.mk_tree.specs.Given.{GivenTree}
use Rattle.mk_enclose.specs.declared.enclosure.Enclosure.{Enclosure}
use Rattle.mk_enclose.specs.Enclosure.{Encloses}
use Rattle.mk_engine.specs.Meaning.{exact_belief}
use Rattle.mk_semiring.specs.declared.held.Held.{Held}
use Rattle.mk_semiring.specs.declared.held.Held.TheVariants.{Absent, Present}
use Rattle.mk_semiring.specs.Held.{HeldEncloses}
use Rattle.mk_beliefs.specs.Meanings.{weights_of}
use Rattle.mk_beliefs.proofs.Nothing.{belief_is_absent}
use Rattle.mk_beliefs.proofs.Weighed.{belief_is_total}
use Rattle.mk_answers.specs.Results.{first_impossible}
use Rattle.mk_answers.proofs.Presence.{present_comes}

-- ---- the front of an event

take_suc : (ps : List Pair) (n : ℕ) (d : Pair) → n < length ps → take (suc n) ps ≡ take n ps ++ slice_index_or ps n d ∷ []
take_suc [] n d h = absurd (omega arith)
take_suc (p ∷ ps) zero d h = refl
take_suc (p ∷ ps) (suc n) d h = ap (λ (rest : List Pair). p ∷ rest) (take_suc ps n d (omega arith))

-- one pair more
pub take_more : (ps : List Pair) (n : ℕ) (d : Pair) (held longer : List Pair) → n < length ps → held ≡ take n ps → longer ≡ held ++ slice_index_or ps n d ∷ []
    → longer ≡ take (n + 1) ps
take_more ps n d held longer h is more =
    more ∙ ap (λ (front : List Pair). front ++ slice_index_or ps n d ∷ []) is ∙ sym (take_suc ps n d h) ∙ ap (λ k. take k ps) (sym (add-one n))

-- no pair of an event speaks of a later one's variable
front_silent : (ps : List Pair) (n : ℕ) (d : Pair) → n < length ps → AreApart ps → speaks_of (take n ps) (slice_index_or ps n d).variable ≡ false
front_silent [] n d h apart = absurd (omega arith)
front_silent (p ∷ ps) zero d h apart = refl
front_silent (p ∷ ps) (suc n) d h apart =
    let later : n < length ps = omega arith in
    let other = same_place p.variable (slice_index_or ps n d).variable (any_at (λ (q : Pair). eqb p.variable q.variable) ps n d apart.0 later) in
    rw (other, front_silent ps n d later apart.1) refl

-- so its front takes one pair more
pub has_room : (ps : List Pair) (n : ℕ) (d : Pair) (held : List Pair) → IsEvent ps → n < length ps → held ≡ take n ps
    → ((length held ≡ max_pairs) ⊎ (speaks_of held (slice_index_or ps n d).variable ≡ true)) → ⊥
has_room ps n d held event h is (inl full) =
    let size = length-take {A = Pair} n ps in
    let same : length held ≡ length (take n ps) = ap length is in
    omega (arith, event.few)
has_room ps n d held event h is (inr speaks) =
    let silent = front_silent ps n d h event.apart in
    let same : speaks_of held (slice_index_or ps n d).variable ≡ speaks_of (take n ps) (slice_index_or ps n d).variable = ap (λ (front : List Pair). speaks_of front (slice_index_or ps n d).variable) is in
    cc

-- ---- a place in what is behind

-- a place that is counted from this one on
abbrev pub after : ℕ → Option ℕ → Option ℕ
after n found = option_map (λ k. k + n) found

after_next : (n : ℕ) (found : Option ℕ) → after n (option_map (λ k. k + 1) found) ≡ after (n + 1) found
after_next n None = refl
after_next n (Some k) = let e : k + 1 + n ≡ k + (n + 1) = omega arith in ap Some e

module _ (network : List Variable) (H : List Entry) (ps : List Pair) (n : ℕ) (d : Pair) (held longer : List Pair) (within : n < length ps) (more : longer ≡ held ++ slice_index_or ps n d ∷ []) where
  at_pair : first_impossible network H held (drop n ps)
      ≡ cond (cannot_come network H (holds longer)) (Some 0) (option_map (λ k. k + 1) (first_impossible network H longer (drop (suc n) ps)))
  at_pair =
      ap (first_impossible network H held) (drop-cons ps n d within)
      ∙ ap (λ (front : List Pair). cond (cannot_come network H (holds front)) (Some 0) (option_map (λ k. k + 1) (first_impossible network H front (drop (suc n) ps)))) (sym more)

  pub goes_on : cannot_come network H (holds longer) ≡ false → after n (first_impossible network H held (drop n ps)) ≡ after (n + 1) (first_impossible network H longer (drop (n + 1) ps))
  goes_on e =
      ap (after n) (at_pair ∙ ap (λ b. cond b (Some 0) (option_map (λ k. k + 1) (first_impossible network H longer (drop (suc n) ps)))) e)
      ∙ after_next n (first_impossible network H longer (drop (suc n) ps))
      ∙ ap (λ k. after (n + 1) (first_impossible network H longer (drop k ps))) (sym (add-one n))

  pub ends_here : cannot_come network H (holds longer) ≡ true → after n (first_impossible network H held (drop n ps)) ≡ Some n
  ends_here e =
      let here : 0 + n ≡ n = omega arith in
      ap (after n) (at_pair ∙ ap (λ b. cond b (Some 0) (option_map (λ k. k + 1) (first_impossible network H longer (drop (suc n) ps)))) e) ∙ ap Some here

-- ---- what a belief says

module _ (network : List Variable) (tree : GivenTree) (H : List Entry) (event : List Pair) (belief : Held)
    (encloses : HeldEncloses belief (exact_belief ◌+◌ (weights_of network tree H) event)) where
  pub never_comes : IsNetwork network → IsProper network H → belief ≡ Absent → cannot_come network H (holds event) ≡ true
  never_comes net proper is = (belief_is_absent network tree H net proper event).0 (subst (λ (b : Held). HeldEncloses b (exact_belief ◌+◌ (weights_of network tree H) event)) is encloses)

  pub may_come : (e : Enclosure) → belief ≡ Present e → cannot_come network H (holds event) ≡ false
  may_come e is = present_comes network H (holds event) e (subst (Encloses e) (belief_is_total network tree H event)
      (subst (λ (b : Held). HeldEncloses b (exact_belief ◌+◌ (weights_of network tree H) event)) is encloses))
