use Rattle.std.proofs.Common.{◌+◌, List, [], take, sym, subst, arith}
use Rattle.std.proofs.lemmas.List.{take_all}
use Rattle.mk_exact.specs.History as history
use Rattle.mk_history.specs.Entries.{change_of}
use Rattle.mk_expect.specs.inner.Added.{AddsEntries}
use Rattle.mk_expect.specs.inner.Shares.{FitsEntry}
use Rattle.mk_expect.proofs.Added.{none_add}
use Rattle.mk_expect.proofs.Covered.{some_bits, some_are_bits}
use Rattle.mk_expect.proofs.Prefixes.{each_at, first_have_room, one_has_room, one_more}
use Rattle.mk_expect.proofs.Shares.{has_kept}
use Rattle.mk_expect.proofs.entries.entries_tally.Goals as goal

pub loop-number-init : goal.loop-number-init
loop-number-init g c = record {
  kept = λ m h. h;
  adds = λ network has bits are.
      subst (AddsEntries network c.args.history.now.history bits c.args.user [])
      (sym c.no_tally-tally.ensures)
      (none_add network c.args.history.now.history bits c.args.user);
}

pub entry_tally-requires : goal.entry_tally-requires
entry_tally-requires g c =
    let a = c.requires in let tree = c.args.tree.now in let H = c.args.history.now.history in
    record {
      network = a.network;
      history = H;
      has = has_kept g.E.Engine.stands_for c.args.engine.now c.loop-number.engine
          c.loop-number.invariant.kept a.network tree H c.args.whole.now a.has;
      fits = each_at (FitsEntry a.network tree) H (change_of c.entry-entry.result)
          c.loop-number.number c.entry-entry.ensures.next a.fits;
    }

pub sum_of-tally-requires-clause-one : goal.sum_of-tally-requires-clause-one
sum_of-tally-requires-clause-one g c =
    let a = c.requires in
    first_have_room a.network c.args.history.now.history some_bits c.args.user
    c.loop-number.number c.loop-number.tally a.few_bits a.has.few_trades
    (c.loop-number.invariant.adds a.network a.has some_bits some_are_bits)

pub sum_of-tally-requires-clause-other : goal.sum_of-tally-requires-clause-other
sum_of-tally-requires-clause-other g c =
    let a = c.requires in let tree = c.args.tree.now in let H = c.args.history.now.history in
    one_has_room a.network H some_bits c.args.user (change_of c.entry-entry.result)
    c.loop-number.number c.entry-entry.ensures.next c.entry_tally.result a.few_bits a.has.few_trades
    (c.entry_tally.ensures.adds a.network H
    (has_kept g.E.Engine.stands_for c.args.engine.now c.loop-number.engine
    c.loop-number.invariant.kept a.network tree H c.args.whole.now a.has)
    some_bits some_are_bits)

pub loop-number-preserved : goal.loop-number-preserved
loop-number-preserved g c =
    let tree = c.args.tree.now in let H = c.args.history.now.history in
    let i = c.loop-number.number in
    record {
      kept = λ m h. c.entry_tally.ensures.kept m (c.loop-number.invariant.kept m h);
      adds = λ network has bits are.
          subst (AddsEntries network H bits c.args.user (take (i + 1) H))
          (sym c.sum_of-tally.ensures)
          (one_more network H bits c.args.user (change_of c.entry-entry.result) i
          c.entry-entry.ensures.next c.loop-number.tally c.entry_tally.result
          (c.loop-number.invariant.adds network has bits are)
          (c.entry_tally.ensures.adds network H
          (has_kept g.E.Engine.stands_for c.args.engine.now c.loop-number.engine
          c.loop-number.invariant.kept network tree H c.args.whole.now has) bits are));
    }

pub returns : goal.returns
returns g c = λ network has bits are.
    let H = c.args.history.now.history in
    subst (λ (first : List history.Entry). AddsEntries network H bits c.args.user first
    c.loop-number.tally)
    (take_all c.loop-number.number H
    (omega (arith, c.loop-number-test.false, c.length-number-end.ensures)))
    (c.loop-number.invariant.adds network has bits are)
