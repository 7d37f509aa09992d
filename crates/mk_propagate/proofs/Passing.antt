-- The four passes as one, and what two of them count.
use Rattle.std.proofs.Common.{◌≡◌, ℕ, ◌+◌, ◌-◌, ◌<◌, Bool, true, false, length, sym, ap, subst, ◌∙◌, arith}
use Rattle.mk_tree.specs.Given.{GivenTree}
use Rattle.mk_tree.specs.Given as given
use Rattle.mk_plan.specs.Shapes.{ShapeOf, IsClique, next_on_way}
use Rattle.mk_propagate.specs.declared.pass.Pass.{Pass}
use Rattle.mk_propagate.specs.declared.pass.Pass.TheVariants.{CollectUp, CollectDown, DistributeUp, DistributeDown}
use Rattle.mk_propagate.specs.Placings.{Placing}
use Rattle.mk_propagate.specs.Flows.{FlowOf, HasPlaced, KeepsTables, CanSend, counted_on, separators_of}
use Rattle.mk_propagate.specs.inner.Passes.{leads_up, leads_down, count_of, leads_in, ends_in, clique_in, IsBefore, IsAfter}
use Rattle.mk_propagate.proofs.Passed.{IsSent, tree_kept, counted_both}
use Rattle.mk_propagate.proofs.Passes.{CollectsBack, CollectsOn, DistributesBack, DistributesOn, collect_back_begins, collect_back_skips, collect_back_can, collect_back_sent, collect_back_right}
use Rattle.mk_propagate.proofs.Passes.{collect_on_begins, collect_on_skips, collect_on_can, collect_on_sent, collect_on_right}
use Rattle.mk_propagate.proofs.Passes.{distribute_back_begins, distribute_back_skips, distribute_back_can, distribute_back_sent, distribute_back_right, still_towards}
use Rattle.mk_propagate.proofs.Passes.{distribute_on_begins, distribute_on_skips, distribute_on_can, distribute_on_sent, distribute_on_right}

-- a pass over `count` cliques has come past some
abbrev pub IsPassing : (ℕ → ℕ → ℕ) → Pass → FlowOf → FlowOf → ℕ → ℕ → ℕ → Type 0
IsPassing plus CollectUp start now root count passed = CollectsBack plus start now root (count - passed)
IsPassing plus CollectDown start now root count passed = CollectsOn plus start now root passed
IsPassing plus DistributeUp start now root count passed = DistributesBack plus start now root (count - passed)
IsPassing plus DistributeDown start now root count passed = DistributesOn plus start now root passed

pub still_kept : (plus : ℕ → ℕ → ℕ) (pass : Pass) (start now : FlowOf) (root count passed : ℕ) → IsPassing plus pass start now root count passed → KeepsTables plus start now
still_kept plus CollectUp start now root count passed h = h.so_far.kept
still_kept plus CollectDown start now root count passed h = h.kept
still_kept plus DistributeUp start now root count passed h = h.so_far.kept
still_kept plus DistributeDown start now root count passed h = h.kept

-- the clique that it comes to
pub clique_there : (pass : Pass) (tree : GivenTree) (count passed : ℕ) → count ≡ length tree.cliques → passed < count → IsClique tree (clique_in pass count passed)
clique_there CollectUp tree count passed many more = record { first = omega (arith, more); last = omega (arith, more, many) }
clique_there CollectDown tree count passed many more = record { first = omega arith; last = omega (arith, more, many) }
clique_there DistributeUp tree count passed many more = record { first = omega (arith, more); last = omega (arith, more, many) }
clique_there DistributeDown tree count passed many more = record { first = omega arith; last = omega (arith, more, many) }

module _ (plus : ℕ → ℕ → ℕ) (start : FlowOf) (tied : given.AreLinked start.shape.tree) (root : ℕ) (at_root : IsClique start.shape.tree root)
    (count : ℕ) (many : count ≡ length start.shape.tree.cliques) where
  pub begins : (pass : Pass) → start.computed < 18446744073709551616 → IsPassing plus pass start start root count 0
  begins CollectUp fits = collect_back_begins plus start tied root at_root fits (count - 0) (omega (arith, many))
  begins CollectDown fits = collect_on_begins plus start tied root at_root fits
  begins DistributeUp fits = distribute_back_begins plus start tied root at_root fits (count - 0) (omega (arith, many))
  begins DistributeDown fits = distribute_on_begins plus start tied root at_root fits

  module _ (now : FlowOf) (passed : ℕ) (more : passed < count) where
    less : (count - passed) - 1 ≡ count - (passed + 1)
    less = omega (arith, more)

    pub skips : (pass : Pass) → IsPassing plus pass start now root count passed → leads_in pass start.shape.tree root (clique_in pass count passed) ≡ false
        → IsPassing plus pass start now root count (passed + 1)
    skips CollectUp h fails_here =
        subst (CollectsBack plus start now root) less
        (collect_back_skips plus start tied root at_root now (count - passed) h (clique_there CollectUp start.shape.tree count passed many more) fails_here)
    skips CollectDown h fails_here =
        collect_on_skips plus start tied root at_root now passed h (clique_there CollectDown start.shape.tree count passed many more) fails_here
    skips DistributeUp h fails_here =
        subst (DistributesBack plus start now root) less
        (distribute_back_skips plus start tied root at_root now (count - passed) h (clique_there DistributeUp start.shape.tree count passed many more) fails_here)
    skips DistributeDown h fails_here =
        distribute_on_skips plus start tied root at_root now passed h (clique_there DistributeDown start.shape.tree count passed many more) fails_here

    pub can : (pass : Pass) → IsPassing plus pass start now root count passed → leads_in pass start.shape.tree root (clique_in pass count passed) ≡ true
        → (next : ℕ) → next ≡ next_on_way start.shape.tree (clique_in pass count passed) root → (p : Placing) → HasPlaced plus start p → IsBefore plus pass start p root
        → CanSend plus now (ends_in pass (clique_in pass count passed) next).0 (ends_in pass (clique_in pass count passed) next).1
    can CollectUp h holds_here next is p has before =
        collect_back_can plus start tied root at_root now (count - passed) h (clique_there CollectUp start.shape.tree count passed many more) holds_here next is p has
    can CollectDown h holds_here next is p has before =
        collect_on_can plus start tied root at_root now passed h (clique_there CollectDown start.shape.tree count passed many more) holds_here next is p has before
    can DistributeUp h holds_here next is p has before =
        distribute_back_can plus start tied root at_root now (count - passed) h (clique_there DistributeUp start.shape.tree count passed many more) holds_here next is p has before
    can DistributeDown h holds_here next is p has before =
        distribute_on_can plus start tied root at_root now passed h (clique_there DistributeDown start.shape.tree count passed many more) holds_here next is p has before

    pub sends : (pass : Pass) → IsPassing plus pass start now root count passed → leads_in pass start.shape.tree root (clique_in pass count passed) ≡ true
        → (next : ℕ) → next ≡ next_on_way start.shape.tree (clique_in pass count passed) root → (new : FlowOf)
        → IsSent plus now new (ends_in pass (clique_in pass count passed) next).0 (ends_in pass (clique_in pass count passed) next).1
        → IsPassing plus pass start new root count (passed + 1)
    sends CollectUp h holds_here next is new sent =
        subst (CollectsBack plus start new root) less
        (collect_back_sent plus start tied root at_root now (count - passed) h (clique_there CollectUp start.shape.tree count passed many more) holds_here next is new sent)
    sends CollectDown h holds_here next is new sent =
        collect_on_sent plus start tied root at_root now passed h (clique_there CollectDown start.shape.tree count passed many more) holds_here next is new sent
    sends DistributeUp h holds_here next is new sent =
        subst (DistributesBack plus start new root) less
        (distribute_back_sent plus start tied root at_root now (count - passed) h (clique_there DistributeUp start.shape.tree count passed many more) holds_here next is new sent)
    sends DistributeDown h holds_here next is new sent =
        distribute_on_sent plus start tied root at_root now passed h (clique_there DistributeDown start.shape.tree count passed many more) holds_here next is new sent

  -- all cliques are passed
  module _ (now : FlowOf) (passed : ℕ) (all : passed ≡ count) where
    pub right_after : (pass : Pass) → IsPassing plus pass start now root count passed → (p : Placing) → HasPlaced plus start p → IsBefore plus pass start p root → IsAfter plus pass now p root
    right_after CollectUp h p has before = collect_back_right plus start tied root at_root now (count - passed) (omega (arith, all)) h p has
    right_after CollectDown h p has before = collect_on_right plus start tied root at_root now passed (omega (arith, all, many)) h p has before
    right_after DistributeUp h p has before = (
      still_towards plus start tied root at_root now (count - passed) h p has before,
      distribute_back_right plus start tied root at_root now (count - passed) (omega (arith, all)) h p has before,
    )
    right_after DistributeDown h p has before = distribute_on_right plus start tied root at_root now passed (omega (arith, all, many)) h p has before.0 before.1

    none_left : (set : ℕ → Bool) (made : ℕ) → made + count_of set (count - passed) ≡ count_of set (length start.shape.tree.cliques)
        → made ≡ count_of set (length start.shape.tree.cliques)
    none_left set made counts =
        let none : count - passed ≡ 0 = omega (arith, all) in
        let e = ap (count_of set) none in omega (arith, counts, e)

    pub counted_after : (pass : Pass) → IsPassing plus pass start now root count passed
        → now.computed ≡ counted_on start.computed (count_of (leads_in pass start.shape.tree root) (length start.shape.tree.cliques))
    counted_after CollectUp h = h.so_far.counted ∙ ap (counted_on start.computed) (none_left (leads_up start.shape.tree root) h.made h.counts)
    counted_after CollectDown h = h.counted ∙ ap (λ (n : ℕ). counted_on start.computed (count_of (leads_down start.shape.tree root) n)) (all ∙ many)
    counted_after DistributeUp h = h.so_far.counted ∙ ap (counted_on start.computed) (none_left (leads_down start.shape.tree root) h.made h.counts)
    counted_after DistributeDown h = h.counted ∙ ap (λ (n : ℕ). counted_on start.computed (count_of (leads_up start.shape.tree root) n)) (all ∙ many)

-- what is read of a shape that is equal to the one at the start
module _ (pass : Pass) (start seen : ShapeOf) (same : seen ≡ start) (root count passed k : ℕ) (k_is : k ≡ clique_in pass count passed) where
  pub clique_seen : IsClique start.tree (clique_in pass count passed) → IsClique seen.tree k
  clique_seen is = subst (λ (s : ShapeOf). IsClique s.tree k) (sym same) (subst (IsClique start.tree) (sym k_is) is)

  pub leads_seen : (test value : Bool) → test ≡ leads_in pass seen.tree root k → test ≡ value → leads_in pass start.tree root (clique_in pass count passed) ≡ value
  leads_seen test value h e =
      ap (leads_in pass start.tree root) (sym k_is) ∙ ap (λ (s : ShapeOf). leads_in pass s.tree root k) (sym same) ∙ sym h ∙ e

  pub next_seen : (next : ℕ) → next ≡ next_on_way seen.tree k root → next ≡ next_on_way start.tree (clique_in pass count passed) root
  next_seen next h = h ∙ ap (λ (s : ShapeOf). next_on_way s.tree k root) same ∙ ap (λ (j : ℕ). next_on_way start.tree j root) k_is

  pub ends_seen : (next : ℕ) (ends : ℕ × ℕ) → ends ≡ ends_in pass k next → ends ≡ ends_in pass (clique_in pass count passed) next
  ends_seen next ends h = h ∙ ap (λ (j : ℕ). ends_in pass j next) k_is

-- two passes make a message over each link
pub counted_twice : (plus : ℕ → ℕ → ℕ) (old mid : FlowOf) → KeepsTables plus old mid → (first then : Pass) (root computed : ℕ)
    → count_of (leads_in first old.shape.tree root) (length old.shape.tree.cliques) + count_of (leads_in then old.shape.tree root) (length old.shape.tree.cliques) ≡ length old.shape.tree.cliques - 1
    → mid.computed ≡ counted_on old.computed (count_of (leads_in first old.shape.tree root) (length old.shape.tree.cliques))
    → computed ≡ counted_on mid.computed (count_of (leads_in then mid.shape.tree root) (length mid.shape.tree.cliques)) → computed ≡ counted_on old.computed (separators_of old.shape.tree)
counted_twice plus old mid kept first then root computed one_less e f =
    counted_both old.computed mid.computed computed (count_of (leads_in first old.shape.tree root) (length old.shape.tree.cliques)) (count_of
    (leads_in then old.shape.tree root) (length old.shape.tree.cliques)) e
    (f ∙ ap (λ (t : GivenTree). counted_on mid.computed (count_of (leads_in then t root) (length t.cliques))) (tree_kept plus old mid kept))
    ∙ ap (counted_on old.computed) one_less
