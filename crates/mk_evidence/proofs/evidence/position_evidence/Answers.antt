use Rattle.std.proofs.Common.{sym}
use Rattle.mk_command.specs.declared.command.Command.TheVariants.{Position}
use Rattle.mk_file.specs.MarketOf.{market_of}
use Rattle.mk_quote.specs.Questions.{spread_in}
use Rattle.mk_rules.specs.Refusals.{refusals_by_record}
use Rattle.mk_rules.proofs.Unrefused.{none_applies}
use Rattle.mk_market.proofs.Spreads.{question_for}
use Rattle.mk_market.proofs.Growing.{open_by}
use Rattle.mk_evidence.proofs.Asked.{asked_kept, asked_only, can_ask_each}
use Rattle.mk_evidence.proofs.Asked.{refused_by_record, can_refuse_under, refused_under}
use Rattle.mk_evidence.proofs.Evidenced.{position_found, position_stopped}
use Rattle.mk_evidence.proofs.evidence.position_evidence.Goals as goal

pub returns-in_err-request-clause-evidence : goal.returns-in_err-request-clause-evidence
returns-in_err-request-clause-evidence g c = refused_by_record c.market.invariant c.market.view_is
    (Position c.args.name.now c.args.variable.now c.args.condition.now) c.from_residual.result _
    c.from_residual.ensures.1
    (c.in_err-request.ensures.refusal c.args.condition.now (sym c.as_slice-words.ensures.value))

pub sure_factors-requires : goal.sure_factors-requires
sure_factors-requires g c =
    let its = c.in_ok-request.ensures in
    can_ask_each c.market.invariant c.in_ok-request.request its.user.within its.question.answered
    its.home

pub invariant_of-market : goal.invariant_of-market
invariant_of-market g c =
    asked_kept c.market.invariant (λ m stands. stands) c.sure_factors.ensures.users

pub refuse_condition-requires : goal.refuse_condition-requires
refuse_condition-requires g c =
    let i = c.market.inside in let its = c.in_ok-request.ensures in
    let command = Position c.args.name.now c.args.variable.now c.args.condition.now in
    let none = its.refusal c.args.condition.now (sym c.as_slice-words.ensures.value) in
    can_refuse_under c.market.invariant c.args.variable.now c.args.condition.now
    c.as_slice-words.result.now c.as_slice-words.ensures.value
    (spread_in c.in_ok-request.request.question) its.question
    (none_applies (refusals_by_record (market_of i.file) i.journal.history command)
    (sym none)).1.1.1.0
    c.in-None.ensures.factors i.prices c.market.invariant.prices_stand
    c.in_ok-request.request.home its.home

pub invariant_of-market-in-None : goal.invariant_of-market-in-None
invariant_of-market-in-None g c =
    asked_kept c.market.invariant c.refuse_condition.ensures.kept c.sure_factors.ensures.users

pub returns-in-Some : goal.returns-in-Some
returns-in-Some g c =
    let i = c.market.inside in let H = i.journal.history in let its = c.in_ok-request.ensures in
    let spread = spread_in c.in_ok-request.request.question in
    record {
      same = asked_only c.market.invariant c.market.view_is c.sure_factors.ensures.users;
      evidence = rw (← c.market.view_is) (position_found i.file H c.args.variable.now
          c.args.condition.now spread
          (question_for i.file H c.args.variable.now c.as_slice-words.result.now
          c.args.condition.now spread c.as_slice-words.ensures.value its.question) c.args.name.now
          (its.refusal c.args.condition.now (sym c.as_slice-words.ensures.value))
          c.in_ok-request.request.user its.user c.in-Some.factors c.in-Some.ensures.factors);
    }

pub returns-in-None : goal.returns-in-None
returns-in-None g c =
    let i = c.market.inside in let H = i.journal.history in let its = c.in_ok-request.ensures in
    let spread = spread_in c.in_ok-request.request.question in
    let command = Position c.args.name.now c.args.variable.now c.args.condition.now in
    let none = its.refusal c.args.condition.now (sym c.as_slice-words.ensures.value) in
    record {
      same = asked_only c.market.invariant c.market.view_is c.sure_factors.ensures.users;
      evidence = rw (← c.market.view_is) (position_stopped i.file H c.args.variable.now
          c.args.condition.now spread (question_for i.file H c.args.variable.now
          c.as_slice-words.result.now c.args.condition.now spread c.as_slice-words.ensures.value
          its.question) c.args.name.now none c.refuse_condition.result
          (refused_under c.market.invariant c.args.variable.now c.args.condition.now
          c.as_slice-words.result.now c.as_slice-words.ensures.value spread its.question
          (none_applies (refusals_by_record (market_of i.file) H command) (sym none)).1.1.1.0
          c.in-None.ensures.factors c.refuse_condition.result (c.refuse_condition.ensures.refusal
          i.file.net i.file.tree H c.market.invariant.prices_stand (open_by c.market.invariant))));
    }
