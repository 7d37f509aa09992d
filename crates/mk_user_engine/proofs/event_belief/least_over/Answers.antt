use Rattle.std.proofs.Common.{◌++◌, false, take, List, slice_index_or, sym, ap, subst, arith}
use Rattle.std.proofs.lemmas.List.Sums.{sum_by_more_le}
use Rattle.mk_user_engine.specs.declared.group.Group.{Group}
use Rattle.mk_user_engine.specs.declared.kept.KeptLeast.{KeptLeast}
use Rattle.mk_user_engine.specs.Kept.{HasGroupLeast, trades_in}
use Rattle.mk_user_engine.specs.GroupBelief.{HasLeastOver}
use Rattle.mk_user_engine.proofs.Over.{taken_next}
use Rattle.mk_user_engine.proofs.event_belief.least_over.Goals as goal

pub least_for-least-requires-clause-kept : goal.least_for-least-requires-clause-kept
least_for-least-requires-clause-kept c =
    let k = c.loop-place.place in let g = c.index-groups-place.result in
    let none : KeptLeast = record { least = record { digits = 0; exponent = 0 }; met = false } in
    subst (λ (h : Group). HasGroupLeast c.args.trades.now c.args.known.now h
    (slice_index_or c.args.kept.now k none)) (sym c.index-groups-place.is)
    (c.requires.kept.each k g none c.loop-place-test.true)

pub times-product-requires-clause-range : goal.times-product-requires-clause-range
times-product-requires-clause-range c =
    let ts = c.args.trades.now in let gs = c.args.groups.now in let k = c.loop-place.place in
    let g = c.index-groups-place.result in
    let within = sum_by_more_le (trades_in ts) gs k g c.loop-place-test.true in
    let same = ap (trades_in ts) c.index-groups-place.is in
    record {
      trades = ts;
      pairs = c.args.known.now ++ c.args.event.now;
      groups = take k gs;
      group = g;
      so_far = c.loop-place.invariant;
      has_one = c.least_for-least.ensures;
      few = omega (arith, within, same, c.requires.once);
    }

pub loop-place-preserved : goal.loop-place-preserved
loop-place-preserved c =
    let ts = c.args.trades.now in let gs = c.args.groups.now in let k = c.loop-place.place in
    let g = c.index-groups-place.result in
    let ps = c.args.known.now ++ c.args.event.now in
    subst (λ (hs : List Group). HasLeastOver ts ps hs c.times-product.result)
    (taken_next gs k g c.loop-place-test.true c.index-groups-place.is)
    (c.times-product.ensures ts ps (take k gs) g c.loop-place.invariant c.least_for-least.ensures)
