use Rattle.std.proofs.Common.{◌≤◌, ◌++◌, not, All, List, length, refl, sym, ap, subst}
use Rattle.std.proofs.Common.{arith}
use Rattle.mk_user_engine.specs.declared.group.Group.{Group}
use Rattle.mk_user_engine.specs.Grouped.{IsGroup, max_groups}
use Rattle.mk_user_engine.specs.GroupProducts.{AreListedBy}
use Rattle.mk_user_engine.specs.GroupBelief.{HasLeastOver, trades_of}
use Rattle.mk_net.specs.Network.{sizes}
use Rattle.mk_user_engine.proofs.GroupsBelieved.{counted, listed_each, found, found_stands}
use Rattle.mk_user_engine.proofs.GroupsBelieved.{found_own, unmet_apart, is_belief, own_few}
use Rattle.mk_user_engine.proofs.GroupsBelieved.{grade_in_tree, not_met, found_of}
use Rattle.mk_user_engine.proofs.event_belief.belief_of.Goals.{After-least_over-found}
use Rattle.mk_user_engine.proofs.event_belief.belief_of.Goals as goal

pub least_over-found-requires-clause-groups : goal.least_over-found-requires-clause-groups
least_over-found-requires-clause-groups c =
    let m = (c.requires.range).1 in let is = (c.requires.range).2 in let has = is.groups in (
      sizes m.network,
      subst (λ (gs : List Group). All (IsGroup (sizes m.network)) gs) (sym c.deref.ensures.value)
          has.each,
    )

pub least_over-found-requires-clause-listed : goal.least_over-found-requires-clause-listed
least_over-found-requires-clause-listed c =
    let r = c.requires.range in let ts = c.args.trades.now in
    subst (λ (gs : List Group). All (λ (g : Group). AreListedBy g.names.items ts) gs)
    (sym c.deref.ensures.value)
    (listed_each c.args.groups.now ts c.args.known.now r.0 r.1 r.2)

pub least_over-found-requires-clause-once : goal.least_over-found-requires-clause-once
least_over-found-requires-clause-once c =
    let r = c.requires.range in let ts = c.args.trades.now in let is = r.2 in
    let e = counted c.args.groups.now ts c.args.known.now r.0 r.1 r.2 in
    subst (λ (gs : List Group). trades_of ts gs ≤ max_groups) (sym c.deref.ensures.value)
    (omega (arith, e, is.few_trades))

-- what is found is of the lists as they are
has_least : (c : After-least_over-found) → HasLeastOver c.args.trades.now
    (c.args.known.now ++ c.args.event.now) c.args.groups.now.list.items c.least_over-found.result
has_least c =
    found_of c.args.groups.now.list.items c.deref.result.now c.args.trades.now c.args.known.now
    c.args.event.now c.pairs.result.now c.least_over-found.result c.deref.ensures.value
    c.pairs.ensures.pairs c.least_over-found.ensures

pub of_cell-requires-clause-stands : goal.of_cell-requires-clause-stands
of_cell-requires-clause-stands c =
    let r = c.requires.range in let gs = c.args.groups.now in let ts = c.args.trades.now in
    let ks = c.args.known.now in let event = c.args.event.now in
    let kept = c.least_over-found.result in
    let has = has_least (goal.at.of_cell-requires-clause-stands c).After-least_over-found in (
      found gs ts ks r.0 r.1 r.2 event kept (length ts) has refl,
      found_stands gs ts ks r.0 r.1 r.2 event kept (length ts) has refl,
    )

pub of_cell-requires-clause-own : goal.of_cell-requires-clause-own
of_cell-requires-clause-own c = λ none.
    let r = c.requires.range in let gs = c.args.groups.now in let ts = c.args.trades.now in
    let ks = c.args.known.now in let event = c.args.event.now in
    let kept = c.least_over-found.result in
    let has = has_least (goal.at.of_cell-requires-clause-own c).After-least_over-found in
    let own = found_own gs ts ks r.0 r.1 r.2 event kept (length ts) has refl
    (not_met kept.met none) in
    (own.own, own.stands)

pub returns-clause-belief : goal.returns-clause-belief
returns-clause-belief c = λ homes m is pairs.
    let gs = c.args.groups.now in let ts = c.args.trades.now in
    let ks = c.args.known.now in let event = c.args.event.now in
    let is_event = c.pairs.ensures.event in
    let kept = c.least_over-found.result in
    let has = has_least (goal.at.returns-clause-belief c).After-least_over-found in
    let v = found gs ts ks homes m is event kept (length ts) has refl in
    let stands = found_stands gs ts ks homes m is event kept (length ts) has refl in
    is_belief gs ts ks homes m is event kept (length ts) has refl pairs is_event.apart
    c.requires.fits c.of_cell.result
    (c.of_cell.ensures.value v stands (λ none. found_own gs ts ks homes m is event kept (length ts)
    has refl (not_met kept.met none)))
    c.of_cell.ensures.grade (c.of_cell.ensures.exact v stands)

pub returns-clause-apart : goal.returns-clause-apart
returns-clause-apart c = λ homes m is pairs apart small.
    let gs = c.args.groups.now in let ts = c.args.trades.now in
    let ks = c.args.known.now in let event = c.args.event.now in
    let is_event = c.pairs.ensures.event in
    let kept = c.least_over-found.result in
    let has = has_least (goal.at.returns-clause-apart c).After-least_over-found in
    let none = unmet_apart gs ts ks homes m is event kept (length ts) has refl apart in
    let own = found_own gs ts ks homes m is event kept (length ts) has refl none in
    let few = own_few gs ts ks homes m is event kept (length ts) has refl pairs is_event.apart
    c.requires.fits apart own.own own.scaled in
    c.of_cell.ensures.own_exact own.own (ap not none) own.stands (omega (arith, few, small))

pub returns-clause-graded : goal.returns-clause-graded
returns-clause-graded c = λ homes m is.
    grade_in_tree c.args.groups.now c.args.trades.now c.args.known.now homes m is
    c.of_cell.result (length c.args.trades.now) refl c.of_cell.ensures.grade
