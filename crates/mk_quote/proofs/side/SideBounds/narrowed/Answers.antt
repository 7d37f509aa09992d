use Rattle.std.proofs.Common.{refl, arith}
use Rattle.std.proofs.lemmas.Bool.{false≢true}
use Rattle.mk_quote.proofs.Reaching.{reaches_later}
use Rattle.mk_quote.proofs.side.SideBounds.narrowed.Goals as goal

pub returns-then-reaches-clause-holds : goal.returns-then-reaches-clause-holds
returns-then-reaches-clause-holds c = record {
  positive = c.requires.positive;
  ordered = omega arith;
  at_most = omega arith;
  before = c.requires.before;
  later =
      let tried = c.if-reaches.ensures.0 refl in
      λ X above in_range. reaches_later c.args.self.now c.args.bound c.args.share X above tried;
}

pub returns-else-reaches-clause-holds : goal.returns-else-reaches-clause-holds
returns-else-reaches-clause-holds c = record {
  positive = omega arith;
  ordered = omega arith;
  at_most = c.requires.at_most;
  before = λ X below positive reached.
      let later = reaches_later c.args.self.now c.args.bound X c.args.share (omega arith) reached in
      false≢true (c.if-reaches.ensures.1 later);
  later = c.requires.later;
}
