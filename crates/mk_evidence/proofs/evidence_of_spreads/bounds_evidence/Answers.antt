use Rattle.std.proofs.Common.{sym}
use Rattle.mk_command.specs.declared.command.Command.TheVariants.{Bounds}
use Rattle.mk_market.proofs.Refiled.{same_file}
use Rattle.mk_evidence.proofs.Asked.{asked_kept, asked_only, can_find_each, filed_kept}
use Rattle.mk_evidence.proofs.Asked.{refused_by_record}
use Rattle.mk_evidence.proofs.Asked.{bounds_can_tell, bounds_told}
use Rattle.mk_evidence.proofs.evidence_of_spreads.bounds_evidence.Goals as goal

pub returns-in_err-request-clause-evidence : goal.returns-in_err-request-clause-evidence
returns-in_err-request-clause-evidence g c = refused_by_record c.market.invariant c.market.view_is
    (Bounds c.args.name.now c.args.variable.now c.args.condition.now) c.from_residual.result _
    c.from_residual.ensures.1
    (c.in_err-request.ensures.refusal c.args.condition.now (sym c.as_slice-words.ensures.value))

pub spread_bounds-found-requires : goal.spread_bounds-found-requires
spread_bounds-found-requires g c =
    let its = c.in_ok-request.ensures in
    can_find_each c.market.invariant c.in_ok-request.request its.user.within its.question.answered
    its.home

pub told-requires : goal.told-requires
told-requires g c =
    let its = c.in_ok-request.ensures in
    let made = c.spread_bounds-found in
    bounds_can_tell c.market.invariant c.market.view_is c.args.condition.now
    c.as_slice-words.ensures.value c.in_ok-request.request its.user its.question its.home
    made.ensures.prices made.result
    (its.refusal c.args.condition.now (sym c.as_slice-words.ensures.value)) made.ensures.bounds

pub invariant_of-market : goal.invariant_of-market
invariant_of-market g c =
    filed_kept (asked_kept c.market.invariant
    (λ m stands. c.told.ensures.prices m (c.spread_bounds-found.ensures.prices m stands))
    c.spread_bounds-found.ensures.users) (same_file _ _ _ _ _ _ _ _ _ _ _ _)

pub returns-clause-same : goal.returns-clause-same
returns-clause-same g c =
    asked_only c.market.invariant c.market.view_is c.spread_bounds-found.ensures.users

pub returns-clause-evidence : goal.returns-clause-evidence
returns-clause-evidence g c =
    let its = c.in_ok-request.ensures in let made = c.spread_bounds-found in
    bounds_told c.market.invariant c.market.view_is c.args.condition.now
    c.as_slice-words.ensures.value c.in_ok-request.request its.user its.question its.home
    made.ensures.prices made.result
    (its.refusal c.args.condition.now (sym c.as_slice-words.ensures.value)) made.ensures.bounds
    c.told.result c.told.ensures.told
