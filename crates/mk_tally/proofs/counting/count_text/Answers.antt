use Rattle.std.proofs.Common.{[], ◌∷◌, refl, sym, ◌∙◌}
use Rattle.std.proofs.lemmas.List.Elements.{All-nil}
use Rattle.mk_io.specs.Stream.{text}
use Rattle.mk_session.proofs.Answering.{blank_replied}
use Rattle.mk_tally.specs.Tally.{IsRemembered}
use Rattle.mk_tally.proofs.Counted.{counts_none, remembered_one}
use Rattle.mk_tally.proofs.counting.count_text.Goals as goal

pub returns-then-is_blank-clause-counted : goal.returns-then-is_blank-clause-counted
returns-then-is_blank-clause-counted c = λ start here. record {
  replies = [];
  replied = λ sound. blank_replied start c.args.market.now.standing (text c.args.line.now)
      (rw (sym c.is_blank.ensures ∙ c.if-is_blank.true) refl);
  remembered = All-nil IsRemembered;
  counts = λ earlier counts. counts_none earlier c.args.tally.now counts;
}

pub returns-clause-counted : goal.returns-clause-counted
returns-clause-counted c = λ start here. record {
  replies = c.reply_to-reply.result ∷ [];
  replied = c.reply_to-reply.ensures.replied start here;
  remembered = remembered_one c.reply_to-reply.result (sym c.is_want_of_memory.ensures
      ∙ c.if-is_want_of_memory.false);
  counts = c.add.ensures.counts;
}
