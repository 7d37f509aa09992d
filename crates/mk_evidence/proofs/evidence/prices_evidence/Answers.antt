use Rattle.std.proofs.Common.{le_refl, sym}
use Rattle.mk_command.specs.declared.command.Command.TheVariants.{Prices}
use Rattle.mk_file.specs.MarketOf.{market_of}
use Rattle.mk_beliefs.specs.Meanings.{weights_of}
use Rattle.mk_quote.specs.Questions.{spread_in}
use Rattle.mk_rules.specs.Refusals.{refusals_by_record}
use Rattle.mk_rules.proofs.Unrefused.{none_applies}
use Rattle.mk_answers.specs.Evidence.{grade_together}
use Rattle.mk_market.proofs.Spreads.{question_for}
use Rattle.mk_evidence.specs.Grades.{evidence_grade}
use Rattle.mk_evidence.proofs.Grading.{weights_within}
use Rattle.mk_market.proofs.Growing.{open_by}
use Rattle.mk_evidence.proofs.Asked.{refused_by_record, can_refuse_under}
use Rattle.mk_evidence.proofs.Asked.{can_tell_prices, refused_under}
use Rattle.mk_evidence.proofs.Evidenced.{prices_found, prices_stopped}
use Rattle.mk_evidence.proofs.evidence.prices_evidence.Goals as goal

pub returns-in_err-asked-clause-evidence : goal.returns-in_err-asked-clause-evidence
returns-in_err-asked-clause-evidence g c = refused_by_record c.market.invariant c.market.view_is
    (Prices c.args.variable.now c.args.condition.now) c.from_residual.result _
    c.from_residual.ensures.1
    (c.in_err-asked.ensures.refusal c.args.condition.now (sym c.as_slice-words.ensures.value))

pub value_price_bounds_of-requires : goal.value_price_bounds_of-requires
value_price_bounds_of-requires g c =
    let found = c.in_ok-asked in
    can_tell_prices c.market.invariant found.home (spread_in found.asked)
    found.ensures.question.answered found.ensures.home

pub refuse_condition-requires : goal.refuse_condition-requires
refuse_condition-requires g c =
    let i = c.market.inside in let found = c.in_ok-asked in let H = i.journal.history in
    let m = weights_of i.file.net i.file.tree H in
    let command = Prices c.args.variable.now c.args.condition.now in
    let none = found.ensures.refusal c.args.condition.now (sym c.as_slice-words.ensures.value) in
    can_refuse_under c.market.invariant c.args.variable.now c.args.condition.now
    c.as_slice-words.result.now c.as_slice-words.ensures.value (spread_in found.asked)
    found.ensures.question
    (none_applies (refusals_by_record (market_of i.file) H command) (sym none)).1.1.0
    (c.in-None.ensures.bounds i.file.tree H (grade_together (g.P.Engine.grade_of m))
    c.market.invariant.prices_stand (open_by c.market.invariant)
    found.ensures.question.answered (le_refl (grade_together (g.P.Engine.grade_of m))))
    c.value_price_bounds_of.new.prices
    (c.value_price_bounds_of.ensures.kept m c.market.invariant.prices_stand) found.home
    found.ensures.home

pub returns-in-Some-clause-evidence : goal.returns-in-Some-clause-evidence
returns-in-Some-clause-evidence g c =
    let i = c.market.inside in let found = c.in_ok-asked in let H = i.journal.history in
    let m = weights_of i.file.net i.file.tree H in let spread = spread_in found.asked in
    rw (← c.market.view_is) (prices_found i.file H c.args.variable.now c.args.condition.now spread
    (question_for i.file H c.args.variable.now c.as_slice-words.result.now c.args.condition.now
    spread c.as_slice-words.ensures.value found.ensures.question)
    (found.ensures.refusal c.args.condition.now (sym c.as_slice-words.ensures.value))
    c.in-Some.bounds (c.in-Some.ensures.bounds i.file.tree H (evidence_grade (market_of i.file) H)
    c.market.invariant.prices_stand (open_by c.market.invariant) found.ensures.question.answered
    (weights_within i.file H (g.P.Engine.grade_of m) (g.met.P.TreeGraded.within_tree m))))

pub returns-in-None-clause-evidence : goal.returns-in-None-clause-evidence
returns-in-None-clause-evidence g c =
    let i = c.market.inside in let found = c.in_ok-asked in let H = i.journal.history in
    let m = weights_of i.file.net i.file.tree H in let spread = spread_in found.asked in
    let command = Prices c.args.variable.now c.args.condition.now in
    let none = found.ensures.refusal c.args.condition.now (sym c.as_slice-words.ensures.value) in
    rw (← c.market.view_is) (prices_stopped i.file H c.args.variable.now c.args.condition.now spread
    (question_for i.file H c.args.variable.now c.as_slice-words.result.now c.args.condition.now
    spread c.as_slice-words.ensures.value found.ensures.question) none c.refuse_condition.result
    (refused_under c.market.invariant c.args.variable.now c.args.condition.now
    c.as_slice-words.result.now c.as_slice-words.ensures.value spread found.ensures.question
    (none_applies (refusals_by_record (market_of i.file) H command) (sym none)).1.1.0
    (c.in-None.ensures.bounds i.file.tree H (grade_together (g.P.Engine.grade_of m))
    c.market.invariant.prices_stand (open_by c.market.invariant)
    found.ensures.question.answered (le_refl (grade_together (g.P.Engine.grade_of m))))
    c.refuse_condition.result (c.refuse_condition.ensures.refusal i.file.net i.file.tree H
    (c.value_price_bounds_of.ensures.kept m c.market.invariant.prices_stand)
    (open_by c.market.invariant))))
