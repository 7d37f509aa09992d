use Rattle.std.proofs.Common.{not, refl, sym, ◌∙◌, arith}
use Rattle.mk_states.specs.Events.{has}
use Rattle.mk_exact.specs.Weight.{total}
use Rattle.mk_tree.proofs.Held.{pair_has_home}
use Rattle.mk_beliefs.specs.Meanings.{weights_of}
use Rattle.mk_replay.proofs.HasHome.{no_home}
use Rattle.mk_best.proofs.Shares.{asked_is, can_ask, fails_in, none_of, some_of}
use Rattle.mk_best.proofs.sure.can_fail.Goals as goal

pub unreachable-requires : goal.unreachable-requires
unreachable-requires g c =
    let a = c.requires in
    no_home c.pair_home.result _ c.in_default.is c.pair_home.ensures
    (pair_has_home c.args.net.now c.args.tree.now c.args.pair
    (a.tree_of_it.covers _ a.in_range.variable))

pub belief_of_others-requires : goal.belief_of_others-requires
belief_of_others-requires g c =
    let a = c.requires in
    can_ask g.E.Engine.stands_for c.args.engine.now c.args.net.now c.args.tree.now a.history
    c.args.pair c.in-Some.home c.values-values.result c.in-Some-make.asked
    a.stands a.legal a.few_trades a.in_range (asked_is c.in-Some-make.ensures.some c.empty.ensures)
    (sym c.pair_home.ensures ∙ c.in-Some.is) c.values-values.ensures

pub returns-in-Absent-clause-fails : goal.returns-in-Absent-clause-fails
returns-in-Absent-clause-fails g c = λ H h.
    let found = fails_in c.args.tree.now H c.belief_of_others.result c.requires.in_range
    (asked_is c.in-Some-make.ensures.some c.empty.ensures) c.values-values.ensures
    (c.belief_of_others.ensures.belief (weights_of c.args.net.now c.args.tree.now H) h) in
    let none = none_of c.belief_of_others.result
    (total c.args.net.now H (λ s. not (has c.args.pair s))) c.in-Absent.is found in
    (λ e. none, λ e. refl)

pub returns-in-Present-clause-fails : goal.returns-in-Present-clause-fails
returns-in-Present-clause-fails g c = λ H h.
    let found = fails_in c.args.tree.now H c.belief_of_others.result c.requires.in_range
    (asked_is c.in-Some-make.ensures.some c.empty.ensures) c.values-values.ensures
    (c.belief_of_others.ensures.belief (weights_of c.args.net.now c.args.tree.now H) h) in
    let some = some_of c.belief_of_others.result c.in-Present.field-0
    (total c.args.net.now H (λ s. not (has c.args.pair s))) c.in-Present.is found in
    (λ e. absurd (cc), λ e. absurd (omega (arith, some, e)))
