use Rattle.std.proofs.Common.{◌≡◌, ◌≤◌, List, length, slice_index, subst, arith}
use Rattle.mk_net.specs.Bounds.{max_market_trades}
use Rattle.mk_net.specs.Network.{sizes}
use Rattle.mk_net.specs.Named.{nobody}
use Rattle.mk_exact.specs.History.{Entry, trades}
use Rattle.mk_exact.specs.Weight.{IsSmall}
use Rattle.mk_states.proofs.Shares.{size_at}
use Rattle.mk_engine.specs.Meaning.{Meaning}
use Rattle.mk_beliefs.specs.Meanings.{weights_of}
use Rattle.mk_best.specs.inner.Picks.{low_of, greatest_with, IsPickOf}
use Rattle.mk_best.proofs.Picked.{pick_none, pick_more}
use Rattle.mk_best.proofs.picks.best_value.Goals as goal
use Rattle.mk_best.proofs.picks.best_value.Goals.{then-is_above, else-is_above}

pub loop-value-init : goal.loop-value-init
loop-value-init g c = record {
  kept = λ m h. h;
  found = λ H h few. pick_none (greatest_with c.args.net.now H c.args.variable)
      (IsSmall c.args.net.now H);
}

pub belief_in-belief-requires : goal.belief_in-belief-requires
belief_in-belief-requires g c =
    let a = c.requires.search in
    record {
      network = c.args.net.now;
      history = a.history;
      stands = c.loop-value.invariant.kept (weights_of c.args.net.now c.args.tree.now a.history)
          a.stands;
      legal = a.legal;
      tree_of_it = a.tree_of_it;
      in_range = record {
        variable = c.requires.variable;
        value = omega (arith, c.loop-value-test.true, c.values-values.ensures);
      };
    }

pub loop-value-preserved : goal.loop-value-preserved
loop-value-preserved g c =
    let net = c.args.net.now in let tree = c.args.tree.now in
    let kept = λ (m : Meaning) (h : g.E.Engine.stands_for c.args.engine.now m).
    c.belief_in-belief.ensures.kept m (c.loop-value.invariant.kept m h) in
    let more = λ (H : List Entry)
    (h : g.E.Engine.stands_for c.args.engine.now (weights_of net tree H))
    (few : length (trades H) ≤ max_market_trades).
    pick_more (greatest_with net H c.args.variable) (IsSmall net H) c.loop-value.value
    c.loop-value.best (low_of c.loop-value.most) c.belief_in-belief.result
    (c.loop-value.invariant.found H h few)
    (c.belief_in-belief.ensures.belief net H c.requires.search.legal
    (c.loop-value.invariant.kept (weights_of net tree H) h) few) c.is_above.result
    c.is_above.ensures in
    elim c.if-is_above.branch [
      | then-is_above w ↦ rw (w.best-is, w.most-is)
          (record { kept = kept; found = λ H h few. (more H h few).0 w.if-is_above.true })
      | else-is_above w ↦ rw (w.best-is, w.most-is)
          (record { kept = kept; found = λ H h few. (more H h few).1 w.if-is_above.false })
    ]

pub returns-clause-within : goal.returns-clause-within
returns-clause-within g c =
    let a = c.requires.search in let net = c.args.net.now in let v = c.args.variable in
    let p = c.loop-value.invariant.found a.history a.stands a.few_trades in
    let w = p.within in
    let two = (a.legal.each v nobody c.requires.variable).two_values in
    omega (
      arith,
      w,
      two,
      size_at net a.legal v c.requires.variable,
      c.loop-value-test.false,
      c.loop-value.auto.value-end,
      c.values-values.ensures,
    )

pub returns-clause-pick : goal.returns-clause-pick
returns-clause-pick g c = λ H h few.
    let net = c.args.net.now in
    let done : c.loop-value.value ≡ slice_index (sizes net) c.args.variable =
    omega (
      arith,
      c.loop-value-test.false,
      c.loop-value.auto.value-end,
      c.values-values.ensures,
    ) in (
      low_of c.loop-value.most,
      subst (λ n. IsPickOf n (greatest_with net H c.args.variable) (IsSmall net H)
          c.loop-value.best (low_of c.loop-value.most)) done
          (c.loop-value.invariant.found H h few),
    )
