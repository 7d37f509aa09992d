use Rattle.std.proofs.Common.{List, ◌∷◌, ◌++◌, [], sym, ap₂, ◌∙◌, arith}
use Rattle.mk_cash.specs.Dues.{DueOf}
use Rattle.mk_replay.proofs.PaidDues.{no_dues_more}
use Rattle.mk_replay.proofs.by_rule.start_dues.Goals as goal

pub loop-preserved : goal.loop-preserved
loop-preserved c = record {
  count = omega (arith, c.push_reserved.ensures.len, c.loop.invariant.count);
  room = c.push_reserved.ensures.capacity ∙ c.loop.invariant.room;
  none = c.push_reserved.ensures.items
      ∙ ap₂ (λ (ds : List DueOf) (d : DueOf). ds ++ d ∷ []) c.loop.invariant.none c.none.ensures
      ∙ sym (no_dues_more c.loop.counter);
}
