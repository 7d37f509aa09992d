use Rattle.std.specs.Prelude.{◌++◌, length}
use Rattle.std.proofs.Common.{refl, ap, ◌∙◌}
use Rattle.mk_net.specs.Trades.{trade_ratio}
use Rattle.mk_exact.specs.History as history
use Rattle.mk_history.specs.declared.change.Change.TheVariants.{Trade}
use Rattle.mk_history.specs.declared.change.KeptTrade.{KeptTrade}
use Rattle.mk_history.specs.inner.Kept.{IsRatio}
use Rattle.mk_history.specs.inner.Stored.{lists_of}
use Rattle.mk_history.proofs.Rooms.{room_for_one}
use Rattle.mk_history.proofs.Added.{trade_added, IsAdded, IsPlacedAt}
use Rattle.mk_history.proofs.history.History.trade.Goals.{After-append-2}
use Rattle.mk_history.proofs.history.History.trade.Goals as goal

pub push_reserved-requires : goal.push_reserved-requires
push_reserved-requires c =
    let h : _ = c.self.inside in
    room_for_one (lists_of h) h.changes.items h.limits _ c.self.invariant.0 h.changes.ok.0
    (history.Trade c.args.user (trade_ratio c.args.ratio.now)) _ _ _ _ _ (rw (← c.self.view_is) at c.requires) c.self.invariant.1

-- the trade as it is kept
abbrev trade_kept : After-append-2 → KeptTrade
trade_kept c = record {
  user = c.args.user;
  variable = c.args.ratio.now.variable;
  first_pair = c.len.result;
  first_factor = c.len-2.result;
  pairs = length c.pairs.result.now;
  factors = c.len-3.result;
}

-- the lists hold it behind all others
added : (c : After-append-2)
    → IsAdded (lists_of c.self.inside)
    (record (lists_of c.self.inside) {
      pairs = c.append.new.list.items;
      factors =
          c.append-2.new.list.items;
    })
    c.self.inside.changes.items c.self.inside.limits (Trade (trade_kept c))
    (history.Trade c.args.user (trade_ratio c.args.ratio.now))
added c =
    let h : _ = c.self.inside in
    let r : _ = c.args.ratio.now in
    let at : IsPlacedAt (lists_of h) (trade_ratio r) (trade_kept c) = record {
      variable = refl;
      first_pair = c.len.ensures ∙ h.pairs.ok.0;
      first_factor = c.len-2.ensures ∙ h.factors.ok.0;
      pairs = ap length c.pairs.ensures.pairs;
      factors = c.len-3.ensures.value;
    } in
    let lawful : IsRatio (trade_ratio r) = record {
      few_pairs = r.few_pairs;
      apart = c.pairs.ensures.event.apart;
      target_apart = r.apart;
      two_factors = r.two_factors;
      few_factors = rw c.as_slice.ensures.value at c.as_slice.ensures.fits;
      are_units = r.are_units;
    } in
    trade_added (lists_of h) h.changes.items h.limits c.self.invariant.0 c.append.new.list.items
    c.append-2.new.list.items
    (trade_kept c) (trade_ratio r)
    (c.append.ensures.items ∙ ap (λ xs. h.pairs.items ++ xs) c.pairs-2.ensures.pairs)
    (c.append-2.ensures.items ∙ ap (λ xs. h.factors.items ++ xs) c.as_slice.ensures.value)
    at lawful (rw (← c.self.view_is) at c.requires)

pub invariant_of-self : goal.invariant_of-self
invariant_of-self c =
    rw (c.push_reserved.ensures.items, c.push_reserved.ensures.capacity, c.append.ensures.capacity, c.append-2.ensures.capacity)
    ((added (goal.at.invariant_of-self c).After-append-2).kept, c.self.invariant.1)

pub returns-clause-history : goal.returns-clause-history
returns-clause-history c =
    rw (c.push_reserved.ensures.items, ← c.self.view_is)
    (added (goal.at.returns-clause-history c).After-append-2).same
