use Rattle.std.proofs.Common.{le_refl, List, Some, refl}
use Rattle.std.specs.Prelude.{Ok}
use Rattle.mk_exact.specs.History.{Entry}
use Rattle.mk_exact.specs.Market.{Market}
use Rattle.mk_command.specs.declared.command.Command.TheVariants.{Price}
use Rattle.mk_file.specs.MarketOf.{market_of}
use Rattle.mk_beliefs.specs.Meanings.{weights_of}
use Rattle.mk_answers.specs.Evidence.{grade_together}
use Rattle.mk_evidence.specs.Grades.{evidence_grade}
use Rattle.mk_evidence.specs.Evidence.{IsPriceEvidence}
use Rattle.mk_evidence.proofs.Grading.{weights_within}
use Rattle.mk_market.proofs.Answers.{can_price}
use Rattle.mk_market.proofs.Growing.{open_by}
use Rattle.mk_evidence.proofs.Asked.{refused_by_record}
use Rattle.mk_evidence.proofs.Evidenced.{asked_in, stopped_in, price_found, price_stopped}
use Rattle.mk_asking.proofs.Stopping.{can_refuse_condition, impossible_by}
use Rattle.mk_market.proofs.Stopping.{price_known}
use Rattle.mk_evidence.proofs.evidence.price_evidence.Goals as goal

pub returns-in_err-asked-clause-evidence : goal.returns-in_err-asked-clause-evidence
returns-in_err-asked-clause-evidence g c = refused_by_record c.market.invariant c.market.view_is
    (Price c.args.question.now) c.from_residual.result _ c.from_residual.ensures.1
    c.in_err-asked.ensures.refusal

pub price_bounds_of-requires : goal.price_bounds_of-requires
price_bounds_of-requires g c =
    can_price c.market.invariant c.in_ok-asked.ensures.question c.in_ok-asked.ensures.home

pub refuse_condition-requires : goal.refuse_condition-requires
refuse_condition-requires g c =
    let i = c.market.inside in let found = c.in_ok-asked in let H = i.journal.history in
    let of = grade_together (g.P.Engine.grade_of (weights_of i.file.net i.file.tree H)) in
    let opened = open_by c.market.invariant in
    let bounds = c.in-None.ensures.bounds i.file.tree H of c.market.invariant.prices_stand opened
    found.ensures.question.answered (le_refl of) in
    can_refuse_condition g.P.Engine.stands_for c.price_bounds_of.new.prices i.file.net i.file.tree H
    (c.price_bounds_of.ensures.kept (weights_of i.file.net i.file.tree H)
    c.market.invariant.prices_stand) opened c.args.question.now found.asked
    found.ensures.question.named
    (price_known i.file H c.args.question.now found.ensures.refusal)
    found.ensures.question.answered found.home found.ensures.home c.condition.result
    c.as_slice.result.now c.condition.ensures.condition c.as_slice.ensures.value
    (bounds.none.0 refl)

pub returns-in-Some-clause-evidence : goal.returns-in-Some-clause-evidence
returns-in-Some-clause-evidence g c =
    let i = c.market.inside in let found = c.in_ok-asked in let H = i.journal.history in
    let m = weights_of i.file.net i.file.tree H in
    let opened = open_by c.market.invariant in
    asked_in c.args.market.now _ c.market.view_is (Price c.args.question.now) (Ok c.in-Some.bounds)
    (λ (market : Market) (history : List Entry). IsPriceEvidence market history
    c.args.question.now)
    (price_found i.file H c.args.question.now found.ensures.refusal
    found.asked found.ensures.question c.in-Some.bounds
    (c.in-Some.ensures.bounds i.file.tree H (evidence_grade (market_of i.file) H)
    c.market.invariant.prices_stand opened found.ensures.question.answered
    (weights_within i.file H (g.P.Engine.grade_of m) (g.met.P.TreeGraded.within_tree m))))

pub returns-in-None-clause-evidence : goal.returns-in-None-clause-evidence
returns-in-None-clause-evidence g c =
    let i = c.market.inside in let found = c.in_ok-asked in let H = i.journal.history in
    let of = grade_together (g.P.Engine.grade_of (weights_of i.file.net i.file.tree H)) in
    let opened = open_by c.market.invariant in
    let bounds = c.in-None.ensures.bounds i.file.tree H of c.market.invariant.prices_stand opened
    found.ensures.question.answered (le_refl of) in
    stopped_in c.args.market.now _ c.market.view_is (Price c.args.question.now)
    (Some c.refuse_condition.result)
    (price_stopped i.file H c.args.question.now found.ensures.refusal
    c.refuse_condition.result
    (impossible_by i.file.net H c.args.question.now found.asked
    (record {
      named = found.ensures.question.named;
      known = price_known i.file H c.args.question.now found.ensures.refusal;
    })
    c.condition.result c.as_slice.result.now c.refuse_condition.result
    c.condition.ensures.condition c.as_slice.ensures.value (bounds.none.0 refl)
    (c.refuse_condition.ensures.refusal i.file.net i.file.tree H
    (c.price_bounds_of.ensures.kept (weights_of i.file.net i.file.tree H)
    c.market.invariant.prices_stand) opened)))
