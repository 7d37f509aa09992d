use Rattle.std.proofs.Common.{arith}
use Rattle.mk_states.specs.Events.{holds, always}
use Rattle.mk_exact.specs.Weight.{IsSmall, total}
use Rattle.mk_beliefs.specs.Meanings.{weights_of}
use Rattle.mk_semiring.specs.declared.held.Held.TheVariants.{Present}
use Rattle.mk_answers.specs.inner.Found.{IsBeliefIn, max_side_grade}
use Rattle.mk_answers.proofs.Presence.{some_weight}
use Rattle.mk_expect.proofs.Shares.{event_in, part_at_most, no_share}
use Rattle.mk_best.proofs.Shares.{in_present, in_absent}
use Rattle.mk_expect.proofs.Shares.{share_order, share_in}
use Rattle.mk_expect.proofs.values.share_of.Given.{Over}
use Rattle.mk_expect.proofs.values.share_of.Goals as goal
use Rattle.mk_expect.proofs.values.share_of.Goals.{In-Present}

-- what is found present is in the states with the event
of_part : (g : Over) (c : In-Present g)
    → IsBeliefIn (Present c.in-Present.part) (IsSmall c.requires.network c.requires.history)
    (total c.requires.network c.requires.history (holds c.args.event.now))
of_part g c =
    let a = c.requires in let event = c.args.event.now in
    in_present _ c.in-Present.part (IsSmall a.network a.history)
    (total a.network a.history (holds event)) c.in-Present.is
    (event_in a.network a.tree a.history a.has.legal a.has.few_trades event c.belief.result
    (c.belief.ensures.belief (weights_of a.network a.tree a.history) a.has.stands))

pub belief-requires-clause-held : goal.belief-requires-clause-held
belief-requires-clause-held g c =
    let a = c.requires in
    g.met.E.Engine.held_is_answered c.args.engine.now (weights_of a.network a.tree a.history)
    c.args.home c.args.event.now a.has.stands a.held

pub parts-requires-clause-part : goal.parts-requires-clause-part
parts-requires-clause-part g c =
    let a = c.requires in
    let part = of_part g (goal.at.parts-requires-clause-part g c).In-Present in
    omega (
      arith,
      part.encloses.lower,
      a.has.of_whole.encloses.upper,
      part_at_most a.network a.history c.args.event.now,
    )

pub returns-in-Absent-clause-share : goal.returns-in-Absent-clause-share
returns-in-Absent-clause-share g c = λ network tree H has.
    let event = c.args.event.now in
    no_share (total network H (holds event)) (total network H always)
    (in_absent _ (IsSmall network H) (total network H (holds event)) c.in-Absent.is
    (event_in network tree H has.legal has.few_trades event c.belief.result
    (c.belief.ensures.belief (weights_of network tree H) has.stands)))

pub returns-in-Present-clause-share : goal.returns-in-Present-clause-share
returns-in-Present-clause-share g c = λ network tree H has.
    let event = c.args.event.now in
    share_in network H event c.in-Present.part c.args.whole.now c.parts.result.0 c.parts.result.1
    (record { below = c.parts.ensures.below; above = c.parts.ensures.above })
    (in_present _ c.in-Present.part (IsSmall network H) (total network H (holds event))
    c.in-Present.is (event_in network tree H has.legal has.few_trades event c.belief.result
    (c.belief.ensures.belief (weights_of network tree H) has.stands)))
    has.of_whole

pub returns-in-Present-clause-in_order : goal.returns-in-Present-clause-in_order
returns-in-Present-clause-in_order g c =
    let a = c.requires in let event = c.args.event.now in
    share_order c.parts.result.0 c.parts.result.1 (total a.network a.history (holds event))
    (total a.network a.history always)
    (some_weight c.args.whole.now (total a.network a.history always) a.has.of_whole.encloses)
    (share_in a.network a.history event c.in-Present.part c.args.whole.now c.parts.result.0
    c.parts.result.1 (record { below = c.parts.ensures.below; above = c.parts.ensures.above })
    (of_part g (goal.at.returns-in-Present-clause-in_order g c).In-Present) a.has.of_whole)

pub returns-in-Present-clause-narrow : goal.returns-in-Present-clause-narrow
returns-in-Present-clause-narrow g c =
    let part = of_part g (goal.at.returns-in-Present-clause-narrow g c).In-Present in
    c.parts.ensures.narrow max_side_grade (omega arith) part.grade.0
    c.requires.has.of_whole.grade.0
