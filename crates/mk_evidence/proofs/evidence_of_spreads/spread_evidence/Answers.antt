use Rattle.std.proofs.Common.{◌≡◌, ℕ, List, length, slice_index, sym, subst}
use Rattle.mk_net.specs.Network.{sizes}
use Rattle.mk_command.specs.declared.command.Command.TheVariants.{Spread}
use Rattle.mk_quote.specs.Questions.{spread_in}
use Rattle.mk_market.proofs.Refiled.{same_file}
use Rattle.mk_evidence.proofs.Asked.{asked_kept, asked_only, can_find_each, filed_kept}
use Rattle.mk_evidence.proofs.Asked.{refused_by_record}
use Rattle.mk_evidence.proofs.Asked.{one_each, spread_can_tell, spread_told}
use Rattle.mk_evidence.proofs.evidence_of_spreads.spread_evidence.Goals as goal

pub returns-in_err-request-clause-evidence : goal.returns-in_err-request-clause-evidence
returns-in_err-request-clause-evidence g c = refused_by_record c.market.invariant c.market.view_is
    (Spread c.args.name.now c.args.variable.now c.args.condition.now c.args.to.now c.args.at)
    c.from_residual.result _ c.from_residual.ensures.1
    (c.in_err-request.ensures.refusal c.args.condition.now c.args.to.now
    (sym c.as_slice-words.ensures.value) (sym c.as_slice-shares.ensures.value))

pub placed_bounds-found-requires-clause-found : goal.placed_bounds-found-requires-clause-found
placed_bounds-found-requires-clause-found g c =
    let its = c.in_ok-request.ensures in
    can_find_each c.market.invariant c.in_ok-request.request its.user.within its.question.answered
    its.home

pub placed_bounds-found-requires-clause-one_each : goal.placed_bounds-found-requires-clause-one_each
placed_bounds-found-requires-clause-one_each g c =
    let i = c.market.inside in let its = c.in_ok-request.ensures in
    let spread = spread_in c.in_ok-request.request.question in
    subst (λ (Xs : List ℕ). length Xs ≡ slice_index (sizes i.file.net) spread.variable)
    (sym c.as_slice-shares.ensures.value)
    (one_each i.file i.journal.history c.args.name.now c.args.variable.now c.args.condition.now
    c.as_slice-words.result.now c.as_slice-words.ensures.value spread its.question.named
    c.args.to.now c.args.at (its.refusal c.args.condition.now c.args.to.now
    (sym c.as_slice-words.ensures.value) (sym c.as_slice-shares.ensures.value)))

pub told-requires : goal.told-requires
told-requires g c =
    let its = c.in_ok-request.ensures in let made = c.placed_bounds-found in
    spread_can_tell c.market.invariant c.market.view_is c.args.condition.now
    c.as_slice-words.ensures.value c.in_ok-request.request its.user its.question its.home
    made.ensures.prices made.result c.args.to.now c.as_slice-shares.ensures.value c.args.at
    (its.refusal c.args.condition.now c.args.to.now (sym c.as_slice-words.ensures.value)
    (sym c.as_slice-shares.ensures.value)) made.ensures.placed

pub invariant_of-market : goal.invariant_of-market
invariant_of-market g c =
    filed_kept (asked_kept c.market.invariant
    (λ m stands. c.told.ensures.prices m (c.placed_bounds-found.ensures.prices m stands))
    c.placed_bounds-found.ensures.users) (same_file _ _ _ _ _ _ _ _ _ _ _ _)

pub returns-clause-same : goal.returns-clause-same
returns-clause-same g c =
    asked_only c.market.invariant c.market.view_is c.placed_bounds-found.ensures.users

pub returns-clause-evidence : goal.returns-clause-evidence
returns-clause-evidence g c =
    let its = c.in_ok-request.ensures in let made = c.placed_bounds-found in
    spread_told c.market.invariant c.market.view_is c.args.condition.now
    c.as_slice-words.ensures.value c.in_ok-request.request its.user its.question its.home
    made.ensures.prices made.result c.args.to.now c.as_slice-shares.ensures.value c.args.at
    (its.refusal c.args.condition.now c.args.to.now (sym c.as_slice-words.ensures.value)
    (sym c.as_slice-shares.ensures.value)) made.ensures.placed c.told.result c.told.ensures.told
