use Rattle.std.proofs.Common.{◌≡◌, ◌<◌, List, length, slice_index_or, sym, ap, ◌∙◌, subst, take}
use Rattle.std.proofs.Common.{arith}
use Rattle.std.proofs.lemmas.List.{take_all}
use Rattle.mk_cell.specs.Least.{least}
use Rattle.mk_engine.specs.Meaning.{Factor}
use Rattle.mk_tree_engine.specs.Engines.{HasTree}
use Rattle.mk_user_engine.specs.declared.narrow.PlacedRatio.{PlacedRatio}
use Rattle.mk_user_engine.specs.Narrow.{factors_of}
use Rattle.mk_user_engine.specs.GroupedNarrow.{IsGroupedRatio}
use Rattle.mk_user_engine.proofs.Over.{that_has, can_multiply, factors_push, taken_next, few_taken}
use Rattle.mk_user_engine.proofs.engine.pass_ratios.Goals as goal

pub multiply-requires-clause-range : goal.multiply-requires-clause-range
multiply-requires-clause-range c =
    let a = c.requires in let n = c.args.narrow.now in let i = c.loop-placed.placed-index
    in let stands = a.1 in let is = stands.grouped in
    let t = c.placed-item.result in
    let l = subst (λ (ts : List PlacedRatio). i < length ts) c.deref-placed-items.ensures.value
    c.loop-placed-test.true in
    let e = subst (λ (ts : List PlacedRatio). t ≡ slice_index_or ts i t)
    c.deref-placed-items.ensures.value c.placed-item.is in
    can_multiply n a.0 stands c.loop-placed.tree (take i n.trades.items)
    (c.loop-placed.invariant a.0 stands a.2) (few_taken n.trades.items i l is.few_trades) t
    (subst (λ (s : PlacedRatio). IsGroupedRatio (a.0).network (a.0).tree n.groups.list.items s)
    (sym e) (is.trades i t l))

pub loop-placed-preserved : goal.loop-placed-preserved
loop-placed-preserved c = λ m is has.
    let ts = c.args.narrow.now.trades.items in let i = c.loop-placed.placed-index
    in let t = c.placed-item.result in
    let l = subst (λ (ys : List PlacedRatio). i < length ys) c.deref-placed-items.ensures.value
    c.loop-placed-test.true in
    let e = subst (λ (ys : List PlacedRatio). t ≡ slice_index_or ys i t)
    c.deref-placed-items.ensures.value c.placed-item.is in
    subst (λ (fs : List Factor). HasTree least c.multiply.new.self (record {
      network = m.network;
      tree = m.tree;
      factors = fs;
      known = m.known;
    }))
    (factors_push (take i ts) t ∙ ap factors_of (taken_next ts i t l e))
    (c.multiply.ensures.stands (that_has m (take i ts)) (c.loop-placed.invariant m is has))

pub returns : goal.returns
returns c = λ m is has.
    let ts = c.args.narrow.now.trades.items in let i = c.loop-placed.placed-index in
    subst (λ (fs : List Factor). HasTree least c.loop-placed.tree (record {
      network = m.network;
      tree = m.tree;
      factors = fs;
      known = m.known;
    }))
    (ap factors_of (take_all i ts (omega (
      arith,
      c.loop-placed-test.false,
      ap (λ (ys : List PlacedRatio). length ys) c.deref-placed-items.ensures.value,
    )))
    ∙ sym (let g = is.grouped in g.factors_are))
    (c.loop-placed.invariant m is has)
