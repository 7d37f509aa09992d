use Rattle.std.proofs.Common.{◌≡◌, ℕ, ◌+◌, ◌^◌, ◌<◌, ap, sym, subst, refl, inl, [], length}
use Rattle.std.proofs.Common.{arith, ◌∙◌}
use Rattle.mk_io.specs.Cutting.{Cutting}
use Rattle.mk_market.specs.Trading.{IsAt}
use Rattle.mk_session.specs.inner.Progress.{IsSoFar}
use Rattle.mk_session.specs.inner.Keeping.{HoldsSince, IsHeldSoFar}
use Rattle.mk_session.proofs.Going.{far_at_start}
use Rattle.mk_session.proofs.Gathering.{ready_told}
use Rattle.mk_session.proofs.Turns.{held_at_start, turn_told, further_from, ends_from, run_ended}
use Rattle.mk_session.proofs.Turns.{run_causes, on_told}
use Rattle.mk_session.proofs.answer.Conversation.keep_lines.Goals as goal

pub turns-init : goal.turns-init
turns-init g c =
    let none : c.args.self.now.lines.given ≡ 0 = ap (λ (x : Cutting). x.given) c.requires.unread in
    let source = g.I.Inputs.commands c.args.inputs.now in
    let written = g.S.Sink.written c.args.out.now in
    let waits = c.args.self.now.waiting.bytes in
    let now = c.args.market.now in
    record {
      going = record {
        market = λ start here. here;
        stays = refl;
        goes_on = inl (ap (λ (x : Cutting). x.last) c.requires.unread);
        within = omega arith;
        counts = (refl, (refl, refl));
        ready = λ n few is.
            let same : n ≡ n + c.args.self.now.lines.given = omega arith in
            subst (g.J.Keeper.is_ready c.args.self.now.keeper c.args.disk.now) same is;
        far = λ start all before begun. subst (λ (lines : Cutting). IsSoFar start all lines source
            now.standing before written waits) (sym c.requires.unread)
            (far_at_start start now all source before written waits begun c.requires.none_waits);
      };
      held = λ start all name bytes before kept begun holds.
          subst (λ (lines : Cutting). IsHeldSoFar start all lines source now.standing before written
          waits kept
          (HoldsSince (g.J.Keeper.holds c.args.self.now.keeper c.args.disk.now name bytes)
          (g.J.Keeper.passes c.args.disk.now c.args.disk.now name bytes) (length kept)))
          (sym c.requires.unread)
          (held_at_start start now all source before written waits kept
          (g.J.Keeper.holds c.args.self.now.keeper c.args.disk.now name bytes)
          (g.J.Keeper.passes c.args.disk.now c.args.disk.now name bytes) begun
          c.requires.none_waits holds (g.met.J.Keeper.held_passes c.args.self.now.keeper
          c.args.disk.now name bytes kept [] holds));
    }

pub write_unless-told-requires : goal.write_unless-told-requires
write_unless-told-requires g c =
    let n = c.requires.ready.0 in (
      n + c.turns.self.lines.given,
      omega (arith, c.requires.ready.1, c.turns.invariant.going.within),
      c.turns.invariant.going.ready n c.requires.ready.1 c.requires.ready.2,
    )

pub answer_next-requires-clause-none_waits : goal.answer_next-requires-clause-none_waits
answer_next-requires-clause-none_waits g c =
    ready_told c.write_unless-told.result c.holds_line-may_wait.result c.turns.self.lines _
    c.holds_line-may_wait.ensures c.write_unless-told.ensures.none c.in_default.ensures

pub answer_next-requires-clause-ready : goal.answer_next-requires-clause-ready
answer_next-requires-clause-ready g c =
    let n = c.requires.ready.0 in
    let n_now : ℕ = n + c.turns.self.lines.given in
    let less : n_now < 2 ^ 40
    = omega (arith, c.requires.ready.1, c.turns.invariant.going.within) in (
      n_now,
      omega (arith, c.requires.ready.1, c.turns.invariant.going.within),
      on_told c.write_unless-told.result _ c.in_default.ensures
          (c.write_unless-told.ensures.told.ready n_now less
          (c.turns.invariant.going.ready n c.requires.ready.1 c.requires.ready.2)),
    )

pub returns-in-Some : goal.returns-in-Some
returns-in-Some g c =
    let inv = c.turns.invariant in
    let turn = turn_told c.write_unless-told.ensures.told (λ start. IsAt start c.turns.market)
    c.turns.self.lines (g.I.Inputs.commands c.turns.inputs) c.turns.market.standing
    (g.I.Inputs.faults c.turns.inputs) c.in-Some.end c.in-Some.ensures in
    record {
      market = inv.going.market;
      ended = run_ended inv.going turn;
      left = λ start all name bytes before kept begun holds.
          turn.left start c.args.disk.now name bytes all before kept
          (inv.going.market start.market begun.market)
          (inv.held start all name bytes before kept begun holds);
      opened = inv.going.stays;
      causes = run_causes inv.going turn;
      ends = turn.ends;
    }

pub returns-in-Some-answer_next : goal.returns-in-Some-answer_next
returns-in-Some-answer_next g c =
    let inv = c.turns.invariant in
    let turn = ends_from c.write_unless-told.ensures.told _ _ _ _ _ c.in_default.ensures
    c.in-Some-answer_next.ensures.turn in
    record {
      market = λ start here. c.answer_next.ensures.market start (inv.going.market start here);
      ended = run_ended inv.going turn;
      left = λ start all name bytes before kept begun holds.
          turn.left start c.args.disk.now name bytes all before kept
          (inv.going.market start.market begun.market)
          (inv.held start all name bytes before kept begun holds);
      opened = c.answer_next.ensures.opened ∙ inv.going.stays;
      causes = run_causes inv.going turn;
      ends = turn.ends;
    }

pub turns-preserved : goal.turns-preserved
turns-preserved g c =
    let inv = c.turns.invariant in
    let turn = further_from c.write_unless-told.ensures.told _ _ _ _ _ c.in_default.ensures
    c.in_default-answer_next.ensures.turn in
    record {
      going = record {
        market = λ start here. c.answer_next.ensures.market start (inv.going.market start here);
        stays = c.answer_next.ensures.opened ∙ inv.going.stays;
        goes_on = turn.goes_on;
        within = turn.within;
        counts = (
          turn.no_fault.0 ∙ inv.going.counts.0,
          (
            turn.no_fault.1.0 ∙ inv.going.counts.1.0,
            turn.no_fault.1.1 ∙ inv.going.counts.1.1,
          ),
        );
        ready = λ n few is.
            let n_now : ℕ = n + c.turns.self.lines.given in
            let next : n_now + 1 ≡ n + c.answer_next.new.self.lines.given =
            omega (arith, turn.counts) in
            let room : n_now + 1 < 2 ^ 40 = omega (arith, few, inv.going.within) in
            subst (g.J.Keeper.is_ready c.answer_next.new.self.keeper c.answer_next.new.disk) next
            (turn.ready n_now room (inv.going.ready n few is));
        far = λ start all before begun.
            turn.so_far start all before (inv.going.market start.market begun.market)
            (inv.going.far start all before begun);
      };
      held = λ start all name bytes before kept begun holds.
          turn.held start c.args.disk.now name bytes all before kept
          (inv.going.market start.market begun.market)
          (inv.held start all name bytes before kept begun holds);
    }

pub turns-smaller : goal.turns-smaller
turns-smaller g c =
    let turn = further_from c.write_unless-told.ensures.told _ _ _ _ _ c.in_default.ensures
    c.in_default-answer_next.ensures.turn in
    omega (arith, turn.counts, turn.within)
