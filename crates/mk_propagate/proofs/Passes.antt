-- The four passes, clique by clique.
use Rattle.std.proofs.Common.{◌≡◌, ◌≢◌, ℕ, ◌+◌, ◌-◌, ◌<◌, ◌≤◌, Bool, true, false, ◌⊎◌, inl, inr, length, refl, sym, ap, subst, ◌∙◌, arith}
use Rattle.std.proofs.lemmas.Bool.{cases_eq, both_ways}
use Rattle.mk_tree.specs.Given.{GivenTree}
use Rattle.mk_tree.specs.Given as given
use Rattle.mk_plan.specs.Shapes.{IsClique, next_on_way, are_linked}
use Rattle.mk_propagate.specs.Placings.{Placing}
use Rattle.mk_propagate.specs.Flows.{FlowOf, HasPlaced, IsRight, KeepsTables, counted_on, AreRightTowards, AreAllRight, CanSend}
use Rattle.mk_propagate.specs.inner.Passes.{leads_up, leads_down, count_of, AreRightFrom, AreRightTo}
use Rattle.mk_propagate.proofs.Order.{IsInput, input_up, input_down, up_parts, down_parts, up_or_down, away_down, away_up, count_more, count_same, one_way}
use Rattle.mk_propagate.proofs.Passed.{IsSent, IsCollecting, IsDistributing, can_collect, collecting_more, can_distribute, distributing_more, tree_kept, counted_none}

-- no test of the past is asked
abbrev pub Always : Placing → Type 0
Always p = Unit {0}

-- the cliques after some clique that pass a test, and those up to it that do, with all that pass another
abbrev pub after : (ℕ → Bool) → ℕ → ℕ → Type 0
after test left k = (left < k) × (test k ≡ true)

abbrev pub up_to : (ℕ → Bool) → (ℕ → Bool) → ℕ → ℕ → Type 0
up_to all test passed k = (all k ≡ true) ⊎ ((k ≤ passed) × (test k ≡ true))

one_fewer : (test : ℕ → Bool) (root left : ℕ) → 1 ≤ left → ((j : ℕ) → test j ≡ true → j ≢ root) → (j : ℕ) → after test (left - 1) j → (j ≡ left) ⊎ ((j ≢ root) × after test left j)
one_fewer test root left first apart j h = at (cases_eq j left)
  where
    at : ((j ≡ left) ⊎ (j ≡ left → ⊥)) → (j ≡ left) ⊎ ((j ≢ root) × after test left j)
    at (inl e) = inl e
    at (inr d) = inr (apart j h.1, (omega (arith, h.0, d, first), h.1))

none_fewer : (test : ℕ → Bool) (left : ℕ) → 1 ≤ left → test left ≡ false → (j : ℕ) → after test (left - 1) j → after test left j
none_fewer test left first fails_here j h =
    let d : j ≢ left = λ e. both_ways (test left) fails_here (ap test (sym e) ∙ h.1) in
    (omega (arith, h.0, d, first), h.1)

one_further : (all test : ℕ → Bool) (root passed : ℕ) → ((j : ℕ) → all j ≡ true → j ≢ root) → ((j : ℕ) → test j ≡ true → j ≢ root) → (j : ℕ) → up_to all test (passed + 1) j
    → (j ≡ passed + 1) ⊎ ((j ≢ root) × up_to all test passed j)
one_further all test root passed before apart j (inl h) = inr (before j h, inl h)
one_further all test root passed before apart j (inr h) = at (cases_eq j (passed + 1))
  where
    at : ((j ≡ passed + 1) ⊎ (j ≡ passed + 1 → ⊥)) → (j ≡ passed + 1) ⊎ ((j ≢ root) × up_to all test passed j)
    at (inl e) = inl e
    at (inr d) = inr (apart j h.1, inr (omega (arith, h.0, d), h.1))

none_further : (all test : ℕ → Bool) (passed : ℕ) → test (passed + 1) ≡ false → (j : ℕ) → up_to all test (passed + 1) j → up_to all test passed j
none_further all test passed fails_here j (inl h) = inl h
none_further all test passed fails_here j (inr h) =
    let d : j ≢ passed + 1 = λ e. both_ways (test (passed + 1)) fails_here (ap test (sym e) ∙ h.1) in
    inr (omega (arith, h.0, d), h.1)

fewer_left : (test : ℕ → Bool) (left made all : ℕ) → 1 ≤ left → test left ≡ true → made + count_of test left ≡ all → made + 1 + count_of test (left - 1) ≡ all
fewer_left test left made all first holds_here e =
    let n : left - 1 + 1 ≡ left = omega arith in
    let c = count_more test (left - 1) (ap test n ∙ holds_here) in
    let f = ap (count_of test) n in
    omega (arith, e, c, f)

same_left : (test : ℕ → Bool) (left made all : ℕ) → 1 ≤ left → test left ≡ false → made + count_of test left ≡ all → made + count_of test (left - 1) ≡ all
same_left test left made all first fails_here e =
    let n : left - 1 + 1 ≡ left = omega arith in
    let c = count_same test (left - 1) (ap test n ∙ fails_here) in
    let f = ap (count_of test) n in
    omega (arith, e, c, f)

unmoved : (plus : ℕ → ℕ → ℕ) (flow : FlowOf) → KeepsTables plus flow flow
unmoved plus flow = record { same_shape = refl; same_tables = refl; same_factors = refl; placed = λ p h. h }

-- a pass over the cliques from the last to the first, of which those up to `left` are not passed yet
pub record CollectsBack (plus : ℕ → ℕ → ℕ) (start now : FlowOf) (root left : ℕ) : Type 0 where
  pub made : ℕ
  pub counts : made + count_of (leads_up start.shape.tree root) left ≡ count_of (leads_up start.shape.tree root) (length start.shape.tree.cliques)
  pub so_far : IsCollecting plus start now Always root (after (leads_up start.shape.tree root) left) made

-- one from the first to the last
abbrev pub CollectsOn : (ℕ → ℕ → ℕ) → FlowOf → FlowOf → ℕ → ℕ → Type 0
CollectsOn plus start now root passed =
    IsCollecting plus start now (λ p. AreRightFrom plus start p root (λ k. leads_up start.shape.tree root k ≡ true)) root
    (up_to (leads_up start.shape.tree root) (leads_down start.shape.tree root) passed) (count_of (leads_down start.shape.tree root) passed)

pub record DistributesBack (plus : ℕ → ℕ → ℕ) (start now : FlowOf) (root left : ℕ) : Type 0 where
  pub made : ℕ
  pub counts : made + count_of (leads_down start.shape.tree root) left ≡ count_of (leads_down start.shape.tree root) (length start.shape.tree.cliques)
  pub so_far : IsDistributing plus start now (λ p. AreRightTowards plus start p root) root (after (leads_down start.shape.tree root) left) made

abbrev pub DistributesOn : (ℕ → ℕ → ℕ) → FlowOf → FlowOf → ℕ → ℕ → Type 0
DistributesOn plus start now root passed =
    IsDistributing plus start now (λ p. AreRightTowards plus start p root × AreRightTo plus start p root (λ k. leads_down start.shape.tree root k ≡ true)) root
    (up_to (leads_down start.shape.tree root) (leads_up start.shape.tree root) passed) (count_of (leads_up start.shape.tree root) passed)

module _ (plus : ℕ → ℕ → ℕ) (start : FlowOf) (tied : given.AreLinked start.shape.tree) (root : ℕ) (at_root : IsClique start.shape.tree root) where
  up_apart : (j : ℕ) → leads_up start.shape.tree root j ≡ true → j ≢ root
  up_apart j h = (up_parts start.shape.tree tied root at_root j h).0

  down_apart : (j : ℕ) → leads_down start.shape.tree root j ≡ true → j ≢ root
  down_apart j h = (down_parts start.shape.tree tied root at_root j h).0

  -- ---- the first pass of a collection

  pub collect_back_begins : start.computed < 18446744073709551616 → (left : ℕ) → left ≡ length start.shape.tree.cliques → CollectsBack plus start start root left
  collect_back_begins fits left e = record {
    made = 0;
    counts = let f = ap (count_of (leads_up start.shape.tree root)) e in omega (arith, f);
    so_far = record { kept = unmoved plus start; right = λ p has b j at h. absurd (omega (arith, h.0, at.last, e)); counted = counted_none start.computed fits };
  }

  module _ (now : FlowOf) (left : ℕ) (h : CollectsBack plus start now root left) (is : IsClique start.shape.tree left) where
    pub collect_back_skips : leads_up start.shape.tree root left ≡ false → CollectsBack plus start now root (left - 1)
    collect_back_skips fails_here = record {
      made = h.made;
      counts = same_left (leads_up start.shape.tree root) left h.made (count_of (leads_up start.shape.tree root) (length start.shape.tree.cliques)) is.first fails_here h.counts;
      so_far = record {
        kept = h.so_far.kept;
        right = λ p has b j at m. h.so_far.right p has b j at (none_fewer
            (leads_up start.shape.tree root) left is.first fails_here j m);
        counted = h.so_far.counted;
      };
    }

    module _ (holds_here : leads_up start.shape.tree root left ≡ true) (to : ℕ) (to_is : to ≡ next_on_way start.shape.tree left root) where
      pub collect_back_can : (p : Placing) → HasPlaced plus start p → CanSend plus now left to
      collect_back_can p has =
          can_collect plus start now Always root (after (leads_up start.shape.tree root) left) h.made h.so_far tied at_root left is (up_apart left holds_here)
          (λ i o. input_up start.shape.tree tied root at_root left i is holds_here o) to to_is p has tt

      pub collect_back_sent : (new : FlowOf) → IsSent plus now new left to → CollectsBack plus start new root (left - 1)
      collect_back_sent new sent = record {
        made = h.made + 1;
        counts = fewer_left (leads_up start.shape.tree root) left h.made (count_of (leads_up start.shape.tree root) (length start.shape.tree.cliques)) is.first holds_here h.counts;
        so_far =
            collecting_more plus start now Always root (after (leads_up start.shape.tree root) left) h.made h.so_far tied at_root left is
            (up_apart left holds_here) (λ i o. input_up start.shape.tree tied root at_root left i is holds_here o) to to_is new sent
            (after (leads_up start.shape.tree root) (left - 1)) (one_fewer (leads_up start.shape.tree root) root left is.first up_apart);
      }

  pub collect_back_right : (now : FlowOf) (left : ℕ) → left ≡ 0 → CollectsBack plus start now root left → (p : Placing) → HasPlaced plus start p
      → AreRightFrom plus now p root (λ k. leads_up now.shape.tree root k ≡ true)
  collect_back_right now left e h p has =
      subst (λ (t : GivenTree). (k : ℕ) → IsClique t k → leads_up t root k ≡ true → IsRight plus now p k (next_on_way t k root)) (sym (tree_kept plus start now h.so_far.kept))
      (λ k at u. h.so_far.right p has tt k at (omega (arith, e, at.first), u))

  -- ---- its second

  pub collect_on_begins : start.computed < 18446744073709551616 → CollectsOn plus start start root 0
  collect_on_begins fits = record { kept = unmoved plus start; right = λ p has b j at h. from p b j at h; counted = counted_none start.computed fits }
    where
      from : (p : Placing) → AreRightFrom plus start p root (λ k. leads_up start.shape.tree root k ≡ true) → (j : ℕ) → IsClique start.shape.tree j
          → up_to (leads_up start.shape.tree root) (leads_down start.shape.tree root) 0 j → IsRight plus start p j (next_on_way start.shape.tree j root)
      from p b j at (inl u) = b j at u
      from p b j at (inr o) = absurd (omega (arith, o.0, at.first))

  module _ (now : FlowOf) (passed : ℕ) (h : CollectsOn plus start now root passed) (is : IsClique start.shape.tree (passed + 1)) where
    pub collect_on_skips : leads_down start.shape.tree root (passed + 1) ≡ false → CollectsOn plus start now root (passed + 1)
    collect_on_skips fails_here = record {
      kept = h.kept;
      right = λ p has b j at m. h.right p has b j at (none_further (leads_up start.shape.tree root) (leads_down start.shape.tree root) passed fails_here j m);
      counted = h.counted ∙ ap (counted_on start.computed) (sym (count_same (leads_down start.shape.tree root) passed fails_here));
    }

    module _ (holds_here : leads_down start.shape.tree root (passed + 1) ≡ true) (to : ℕ) (to_is : to ≡ next_on_way start.shape.tree (passed + 1) root) where
      inputs_on : (i : ℕ) → IsInput start.shape.tree tied root at_root (passed + 1) i → up_to (leads_up start.shape.tree root) (leads_down start.shape.tree root) passed i
      inputs_on i o = at (input_down start.shape.tree tied root at_root (passed + 1) i o)
        where
          at : ((leads_up start.shape.tree root i ≡ true) ⊎ ((i < passed + 1) × (leads_down start.shape.tree root i ≡ true)))
              → up_to (leads_up start.shape.tree root) (leads_down start.shape.tree root) passed i
          at (inl u) = inl u
          at (inr v) = inr (omega (arith, v.0), v.1)

      pub collect_on_can : (p : Placing) → HasPlaced plus start p → AreRightFrom plus start p root (λ k. leads_up start.shape.tree root k ≡ true) → CanSend plus now (passed + 1) to
      collect_on_can p has b =
          can_collect plus start now (λ p. AreRightFrom plus start p root (λ k. leads_up start.shape.tree root k ≡ true)) root (up_to
          (leads_up start.shape.tree root) (leads_down start.shape.tree root) passed) (count_of (leads_down start.shape.tree root) passed) h
          tied at_root (passed + 1) is (down_apart (passed + 1) holds_here) inputs_on to to_is p has b

      pub collect_on_sent : (new : FlowOf) → IsSent plus now new (passed + 1) to → CollectsOn plus start new root (passed + 1)
      collect_on_sent new sent =
          subst (IsCollecting plus start new (λ p. AreRightFrom plus start p root (λ k. leads_up start.shape.tree root k ≡ true)) root (up_to
          (leads_up start.shape.tree root) (leads_down start.shape.tree root) (passed + 1)))
          (sym (count_more (leads_down start.shape.tree root) passed holds_here))
          (collecting_more plus start now (λ p. AreRightFrom plus start p root (λ k. leads_up start.shape.tree root k ≡ true)) root (up_to
          (leads_up start.shape.tree root) (leads_down start.shape.tree root) passed) (count_of (leads_down start.shape.tree root) passed) h
          tied at_root (passed + 1) is (down_apart (passed + 1) holds_here) inputs_on to to_is new sent (up_to (leads_up start.shape.tree root) (leads_down start.shape.tree root) (passed + 1))
          (one_further (leads_up start.shape.tree root) (leads_down start.shape.tree root) root passed up_apart down_apart))

  pub collect_on_right : (now : FlowOf) (passed : ℕ) → length start.shape.tree.cliques ≤ passed → CollectsOn plus start now root passed
      → (p : Placing) → HasPlaced plus start p → AreRightFrom plus start p root (λ k. leads_up start.shape.tree root k ≡ true) → AreRightTowards plus now p root
  collect_on_right now passed all h p has b =
      subst (λ (t : GivenTree). (k : ℕ) → IsClique t k → k ≢ root → IsRight plus now p k (next_on_way t k root)) (sym (tree_kept plus start now h.kept))
      (λ k at d. h.right p has b k at (either k at (up_or_down start.shape.tree tied root at_root k at d)))
    where
      either : (k : ℕ) → IsClique start.shape.tree k → ((leads_up start.shape.tree root k ≡ true) ⊎ (leads_down start.shape.tree root k ≡ true))
          → up_to (leads_up start.shape.tree root) (leads_down start.shape.tree root) passed k
      either k at (inl u) = inl u
      either k at (inr v) = inr (omega (arith, at.last, all), v)

  -- ---- the first pass of a distribution

  pub distribute_back_begins : start.computed < 18446744073709551616 → (left : ℕ) → left ≡ length start.shape.tree.cliques → DistributesBack plus start start root left
  distribute_back_begins fits left e = record {
    made = 0;
    counts = let f = ap (count_of (leads_down start.shape.tree root)) e in omega (arith, f);
    so_far = record { kept = unmoved plus start; towards = λ p has b. b; right = λ p has b j at h. absurd (omega (arith, h.0, at.last, e)); counted = counted_none start.computed fits };
  }

  module _ (now : FlowOf) (left : ℕ) (h : DistributesBack plus start now root left) (is : IsClique start.shape.tree left) where
    pub distribute_back_skips : leads_down start.shape.tree root left ≡ false → DistributesBack plus start now root (left - 1)
    distribute_back_skips fails_here = record {
      made = h.made;
      counts = same_left (leads_down start.shape.tree root) left h.made (count_of (leads_down start.shape.tree root) (length start.shape.tree.cliques)) is.first fails_here h.counts;
      so_far = record {
        kept = h.so_far.kept;
        towards = h.so_far.towards;
        right = λ p has b j at m. h.so_far.right p has b j at (none_fewer
            (leads_down start.shape.tree root) left is.first fails_here j m);
        counted = h.so_far.counted;
      };
    }

    module _ (holds_here : leads_down start.shape.tree root left ≡ true) (from : ℕ) (from_is : from ≡ next_on_way start.shape.tree left root) where
      pub distribute_back_can : (p : Placing) → HasPlaced plus start p → AreRightTowards plus start p root → CanSend plus now from left
      distribute_back_can p has b =
          can_distribute plus start now (λ p. AreRightTowards plus start p root) root (after (leads_down start.shape.tree root) left) h.made h.so_far tied at_root left is (down_apart left holds_here)
          (away_down start.shape.tree tied root at_root left is holds_here) from from_is p has b

      pub distribute_back_sent : (new : FlowOf) → IsSent plus now new from left → DistributesBack plus start new root (left - 1)
      distribute_back_sent new sent = record {
        made = h.made + 1;
        counts = fewer_left (leads_down start.shape.tree root) left h.made (count_of (leads_down start.shape.tree root) (length start.shape.tree.cliques)) is.first holds_here h.counts;
        so_far =
            distributing_more plus start now (λ p. AreRightTowards plus start p root) root (after
            (leads_down start.shape.tree root) left) h.made h.so_far tied at_root left is (down_apart left holds_here)
            (away_down start.shape.tree tied root at_root left is holds_here) from from_is new sent (after (leads_down start.shape.tree root) (left - 1))
            (one_fewer (leads_down start.shape.tree root) root left is.first down_apart);
      }

  pub distribute_back_right : (now : FlowOf) (left : ℕ) → left ≡ 0 → DistributesBack plus start now root left → (p : Placing) → HasPlaced plus start p → AreRightTowards plus start p root
      → AreRightTo plus now p root (λ k. leads_down now.shape.tree root k ≡ true)
  distribute_back_right now left e h p has b =
      subst (λ (t : GivenTree). (k : ℕ) → IsClique t k → leads_down t root k ≡ true → IsRight plus now p (next_on_way t k root) k) (sym (tree_kept plus start now h.so_far.kept))
      (λ k at u. h.so_far.right p has b k at (omega (arith, e, at.first), u))

  pub still_towards : (now : FlowOf) (left : ℕ) → DistributesBack plus start now root left → (p : Placing) → HasPlaced plus start p → AreRightTowards plus start p root → AreRightTowards plus now p root
  still_towards now left h p has b =
      subst (λ (t : GivenTree). (k : ℕ) → IsClique t k → k ≢ root → IsRight plus now p k (next_on_way t k root)) (sym (tree_kept plus start now h.so_far.kept)) (h.so_far.towards p has b)

  -- ---- its second

  abbrev Distributed : Placing → Type 0
  Distributed p = AreRightTowards plus start p root × AreRightTo plus start p root (λ k. leads_down start.shape.tree root k ≡ true)

  pub distribute_on_begins : start.computed < 18446744073709551616 → DistributesOn plus start start root 0
  distribute_on_begins fits = record { kept = unmoved plus start; towards = λ p has b. b.0; right = λ p has b j at h. from p b.1 j at h; counted = counted_none start.computed fits }
    where
      from : (p : Placing) → AreRightTo plus start p root (λ k. leads_down start.shape.tree root k ≡ true) → (j : ℕ) → IsClique start.shape.tree j
          → up_to (leads_down start.shape.tree root) (leads_up start.shape.tree root) 0 j → IsRight plus start p (next_on_way start.shape.tree j root) j
      from p b j at (inl u) = b j at u
      from p b j at (inr o) = absurd (omega (arith, o.0, at.first))

  module _ (now : FlowOf) (passed : ℕ) (h : DistributesOn plus start now root passed) (is : IsClique start.shape.tree (passed + 1)) where
    pub distribute_on_skips : leads_up start.shape.tree root (passed + 1) ≡ false → DistributesOn plus start now root (passed + 1)
    distribute_on_skips fails_here = record {
      kept = h.kept;
      towards = h.towards;
      right = λ p has b j at m. h.right p has b j at (none_further (leads_down start.shape.tree root) (leads_up start.shape.tree root) passed fails_here j m);
      counted = h.counted ∙ ap (counted_on start.computed) (sym (count_same (leads_up start.shape.tree root) passed fails_here));
    }

    module _ (holds_here : leads_up start.shape.tree root (passed + 1) ≡ true) (from : ℕ) (from_is : from ≡ next_on_way start.shape.tree (passed + 1) root) where
      sender_done : next_on_way start.shape.tree (passed + 1) root ≢ root
          → up_to (leads_down start.shape.tree root) (leads_up start.shape.tree root) passed (next_on_way start.shape.tree (passed + 1) root)
      sender_done f = at (away_up start.shape.tree tied root at_root (passed + 1) is holds_here f)
        where
          at : ((leads_down start.shape.tree root (next_on_way start.shape.tree (passed + 1) root) ≡ true) ⊎ ((next_on_way start.shape.tree
              (passed + 1) root < passed + 1) × (leads_up start.shape.tree root (next_on_way start.shape.tree (passed + 1) root) ≡ true)))
              → up_to (leads_down start.shape.tree root) (leads_up start.shape.tree root) passed (next_on_way start.shape.tree (passed + 1) root)
          at (inl u) = inl u
          at (inr v) = inr (omega (arith, v.0), v.1)

      pub distribute_on_can : (p : Placing) → HasPlaced plus start p → Distributed p → CanSend plus now from (passed + 1)
      distribute_on_can p has b =
          can_distribute plus start now Distributed root (up_to (leads_down start.shape.tree root) (leads_up start.shape.tree root) passed) (count_of (leads_up start.shape.tree root) passed) h
          tied at_root (passed + 1) is (up_apart (passed + 1) holds_here) sender_done from from_is p has b

      pub distribute_on_sent : (new : FlowOf) → IsSent plus now new from (passed + 1) → DistributesOn plus start new root (passed + 1)
      distribute_on_sent new sent =
          subst (IsDistributing plus start new Distributed root (up_to (leads_down start.shape.tree root) (leads_up start.shape.tree root) (passed + 1))) (sym
          (count_more (leads_up start.shape.tree root) passed holds_here))
          (distributing_more plus start now Distributed root (up_to (leads_down start.shape.tree root) (leads_up start.shape.tree root) passed) (count_of (leads_up start.shape.tree root) passed) h
          tied at_root (passed + 1) is (up_apart (passed + 1) holds_here) sender_done from from_is new sent (up_to (leads_down start.shape.tree root) (leads_up start.shape.tree root) (passed + 1))
          (one_further (leads_down start.shape.tree root) (leads_up start.shape.tree root) root passed down_apart up_apart))

  pub distribute_on_right : (now : FlowOf) (passed : ℕ) → length start.shape.tree.cliques ≤ passed → DistributesOn plus start now root passed
      → (p : Placing) → HasPlaced plus start p → AreRightTowards plus start p root → AreRightTo plus start p root (λ k. leads_down start.shape.tree root k ≡ true) → AreAllRight plus now p
  distribute_on_right now passed all h p has b b2 =
      subst (λ (t : GivenTree). (i j : ℕ) → are_linked t i j ≡ true → IsRight plus now p i j) (sym (tree_kept plus start now h.kept)) (λ i j l. way i j (one_way start.shape.tree tied root at_root i j l))
    where
      either : (k : ℕ) → IsClique start.shape.tree k → ((leads_up start.shape.tree root k ≡ true) ⊎ (leads_down start.shape.tree root k ≡ true))
          → up_to (leads_down start.shape.tree root) (leads_up start.shape.tree root) passed k
      either k at (inl u) = inr (omega (arith, at.last, all), u)
      either k at (inr v) = inl v

      way : (i j : ℕ) → (IsClique start.shape.tree i × (i ≢ root) × (j ≡ next_on_way start.shape.tree i root)) ⊎ (IsClique start.shape.tree j × (j ≢ root) ×
          (i ≡ next_on_way start.shape.tree j root)) → IsRight plus now p i j
      way i j (inl o) = subst (λ (t : ℕ). IsRight plus now p i t) (sym o.2) (h.towards p has (b, b2) i o.0 o.1)
      way i j (inr o) = subst (λ (t : ℕ). IsRight plus now p t j) (sym o.2) (h.right p has (b, b2) j o.0 (either j o.0 (up_or_down start.shape.tree tied root at_root j o.0 o.1)))
