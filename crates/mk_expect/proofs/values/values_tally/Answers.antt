use Rattle.std.proofs.Common.{◌≡◌, ℕ, ◌+◌, ◌*◌, ◌^◌, length, sym, subst, arith}
use Rattle.mk_net.specs.Trades.{trade_ratio}
use Rattle.mk_states.specs.Events.{always}
use Rattle.mk_exact.specs.Weight.{total}
use Rattle.mk_expect.specs.declared.tally.Tally.{Tally}
use Rattle.mk_expect.specs.inner.Parts.{values_gained, values_owed}
use Rattle.mk_expect.specs.inner.Tallies.{IsTally, IsWithin, IsThin}
use Rattle.mk_expect.proofs.Shares.{has_kept}
use Rattle.mk_expect.proofs.Tallied.{none_tallied, none_within, none_thin, value_more, withins_add}
use Rattle.mk_expect.proofs.Tallied.{within_same, thins_add}
use Rattle.mk_expect.proofs.values.values_tally.Goals as goal

pub loop-value-init : goal.loop-value-init
loop-value-init g c = record {
  kept = λ m h. h;
  tallied = λ network tree H has bits are.
      subst (λ (t : Tally). IsTally t (total network H always) 0 0 0)
      (sym c.no_tally-tally.ensures) (none_tallied (total network H always));
  within = subst (λ (t : Tally). IsWithin t 0 0) (sym c.no_tally-tally.ensures) none_within;
  thin = subst (λ (t : Tally). IsThin t 0) (sym c.no_tally-tally.ensures) none_thin;
}

pub value_tally-requires-clause-asked : goal.value_tally-requires-clause-asked
value_tally-requires-clause-asked g c =
    let a = c.requires in
    record {
      network = a.network;
      tree = a.tree;
      history = a.history;
      has = has_kept g.E.Engine.stands_for c.args.engine.now c.loop-value.engine
          c.loop-value.invariant.kept a.network a.tree a.history c.args.whole.now a.has;
      in_range = a.in_range;
      held = a.held;
    }

pub loop-value-preserved : goal.loop-value-preserved
loop-value-preserved g c =
    let before = c.loop-value.invariant in let n = c.loop-value.value in
    let r = trade_ratio c.args.ratio.now in
    record {
      kept = λ m h. c.value_tally.ensures.kept m (before.kept m h);
      tallied = λ network tree H has bits are.
          subst (λ (t : Tally). IsTally t (total network H always)
          (values_gained network H bits r (n + 1)) 0 (values_owed network H r (n + 1)))
          (sym c.sum_of-tally.ensures)
          (value_more network H bits r n c.loop-value.tally c.value_tally.result
          (total network H always) (before.tallied network tree H has bits are)
          (c.value_tally.ensures.tally network tree H
          (has_kept g.E.Engine.stands_for c.args.engine.now c.loop-value.engine before.kept network
          tree H c.args.whole.now has) bits are));
      within = subst (λ (t : Tally). IsWithin t ((n + 1) * 2 ^ 60) ((n + 1) * 2 ^ 60))
          (sym c.sum_of-tally.ensures)
          (within_same _ _ _ _ _ (withins_add c.loop-value.tally c.value_tally.result (n * 2 ^ 60)
          (2 ^ 60) (n * 2 ^ 60) (2 ^ 60) before.within c.value_tally.ensures.within)
          (omega arith) (omega arith));
      thin = subst (λ (t : Tally). IsThin t (n + 1)) (sym c.sum_of-tally.ensures)
          (thins_add c.loop-value.tally c.value_tally.result n 1 before.thin
          c.value_tally.ensures.thin);
    }

pub returns-clause-tally : goal.returns-clause-tally
returns-clause-tally g c = λ network tree H has bits are.
    let r = trade_ratio c.args.ratio.now in
    let done : c.loop-value.value ≡ length c.args.ratio.now.factors.items =
    omega (
      arith,
      c.loop-value-test.false,
      c.loop-value.auto.value-end,
      c.len-value-end.ensures.value,
    ) in
    subst (λ (n : ℕ). IsTally c.loop-value.tally (total network H always)
    (values_gained network H bits r n) 0 (values_owed network H r n)) done
    (c.loop-value.invariant.tallied network tree H has bits are)
