use Rattle.mk_table.proofs.Untouched.{part_holds}
use Rattle.mk_table.proofs.Taken.{within_keeps}
use Rattle.mk_table.proofs.touched.put_pairs.Goals as goal

pub returns : goal.returns
returns c = record {
  holds = λ a h. part_holds c.pairs_within.result c.args.event.now a c.pairs_within.ensures.part h;
  there = c.pairs_within.ensures.there;
  kept = within_keeps c.args.scope.now c.args.event.now c.pairs_within.result c.pairs_within.ensures.all;
}
