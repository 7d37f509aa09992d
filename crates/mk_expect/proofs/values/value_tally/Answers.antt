use Rattle.std.proofs.Common.{List, sym, subst}
use Rattle.mk_net.specs.declared.words.Pair.{Pair}
use Rattle.mk_net.specs.Trades.{trade_ratio}
use Rattle.mk_states.specs.Events.{holds, always}
use Rattle.mk_states.specs.Ratios.{units_of}
use Rattle.mk_exact.specs.Weight.{total}
use Rattle.mk_tree.specs.Held.{IsHeldAt}
use Rattle.mk_engine.specs.Meaning.{ArePairsOf}
use Rattle.mk_expect.specs.inner.Parts.{weight_at}
use Rattle.mk_expect.specs.inner.Shares.{IsShare}
use Rattle.mk_expect.proofs.Shares.{event_fits, event_held}
use Rattle.mk_expect.proofs.values.value_tally.Goals as goal

pub share_of-share-requires : goal.share_of-share-requires
share_of-share-requires g c =
    let a = c.requires.asked in let r = trade_ratio c.args.ratio.now in let k = c.args.value in
    record {
      network = a.network;
      tree = a.tree;
      history = a.history;
      has = a.has;
      in_range =
          subst (λ (ps : List Pair). ArePairsOf a.network ps) (sym c.event_at-event.ensures)
          (event_fits a.network r k a.in_range c.requires.value);
      held = subst (λ (ps : List Pair). IsHeldAt a.tree c.args.home ps)
          (sym c.event_at-event.ensures) (event_held a.tree c.args.home r k a.held);
    }

pub returns-clause-tally : goal.returns-clause-tally
returns-clause-tally g c = λ network tree H has bits are.
    let r = trade_ratio c.args.ratio.now in let k = c.args.value in
    c.tally_of.ensures.tally (weight_at network H r k) (total network H always)
    (bits (units_of r k))
    (subst (λ (ps : List Pair). IsShare c.share_of-share.result (total network H (holds ps))
    (total network H always)) c.event_at-event.ensures
    (c.share_of-share.ensures.share network tree H has))
    (c.bits_at.ensures.covers bits are)
