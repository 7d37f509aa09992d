use Rattle.std.proofs.Common.{ℕ, ◌≤◌, sym, subst, ◌∙◌}
use Rattle.mk_net.specs.Bounds.{max_values}
use Rattle.mk_states.proofs.Shares.{few_values_at}
use Rattle.mk_quote.specs.Questions.{spread_in}
use Rattle.mk_answers.proofs.Told.{only_none}
use Rattle.mk_evidence.proofs.EvidencedSpreads.{decided_is_anew}
use Rattle.mk_evidence.proofs.evidence_of_spreads.placed_bounds.Goals as goal

pub returns-in-Err-clause-placed : goal.returns-in-Err-clause-placed
returns-in-Err-clause-placed g c = decided_is_anew c.args.file.now.net c.args.file.now.tree
    c.args.journal.now.history c.args.request.now.user (spread_in c.args.request.now.question)
    c.args.shares.now c.in-Err.why c.in-Err.ensures.bounds

pub impossible_share-requires : goal.impossible_share-requires
impossible_share-requires g c =
    let a = c.requires in let of = a.found.users in let net = c.args.file.now.net in
    record {
      few = subst (λ (n : ℕ). n ≤ max_values) (sym a.one_each)
          (few_values_at net of.is_open.legal c.args.request.now.question.variable
          of.answered.in_order.in_range.variable);
    }

pub returns-in-Some-clause-placed : goal.returns-in-Some-clause-placed
returns-in-Some-clause-placed g c = record {
  quote = c.quote_of-quote.result;
  its = c.quote_of-quote.ensures _ _ _ c.requires.found.users.answered c.in-Ok.ensures.bounds;
  meets = sym c.in-Some.ensures;
}

pub returns-then-misses_share-clause-placed : goal.returns-then-misses_share-clause-placed
returns-then-misses_share-clause-placed g c = record {
  quote = c.quote_of-quote.result;
  its = c.quote_of-quote.ensures _ _ _ c.requires.found.users.answered c.in-Ok.ensures.bounds;
  meets = (
    sym c.impossible_share.ensures ∙ only_none c.impossible_share.result c.in_default.not-Some,
    sym c.misses_share.ensures ∙ c.if-misses_share.true,
  );
}

pub returns-clause-placed : goal.returns-clause-placed
returns-clause-placed g c = record {
  found = c.in-Ok.ensures.bounds;
  placed = record {
    quote = c.quote_of-quote.result;
    its = c.quote_of-quote.ensures _ _ _ c.requires.found.users.answered c.in-Ok.ensures.bounds;
    meets = (
      sym c.impossible_share.ensures ∙ only_none c.impossible_share.result c.in_default.not-Some,
      sym c.misses_share.ensures ∙ c.if-misses_share.false,
    );
  };
}
