use Rattle.std.proofs.Common.{refl, ◌∙◌, arith}
use Rattle.mk_io.proofs.Cuts.{so_far_none, so_far_more, rest_since, still_held, unread_if_held, room_if_held, some_left, cuts_whole, cuts_full, cuts_last, cuts_fault}
use Rattle.mk_io.proofs.cut.cut_by_bytes.Goals as goal

pub loop-pending-init : goal.loop-pending-init
loop-pending-init g c = (
  so_far_none 1025 _ _ _ c.clear.ensures,
  record { rest = record { stream = refl; files = λ _. refl }; kept = refl },
  λ whole. record { unread = refl; whole = whole; counted = omega arith },
)

pub loop-pending-preserved : goal.loop-pending-preserved
loop-pending-preserved g c = (
  so_far_more 1025 _ _ _ _ _ _ _ _ _ _ _ c.loop-pending.invariant.0 c.in-Ok-true.ensures.bytes.stream c.next_byte-byte.ensures c.if-size-room.false c.if-byte-eq10.false c.push.ensures,
  record {
    rest = rest_since c.loop-pending.invariant.1 c.refill.ensures.rest;
    kept = c.in-Ok-true.ensures.cause.kept ∙ c.loop-pending.invariant.1.kept;
  },
  still_held _ _ _ _ _ _ _ _ _ c.loop-pending.invariant.2 c.refill.ensures.kept c.refill.ensures.unread c.next_byte-byte.ensures c.if-byte-eq10.false,
)

pub returns-in-Err-clause-unread : goal.returns-in-Err-clause-unread
returns-in-Err-clause-unread g c = unread_if_held _ _ _ _ _ _ c.loop-pending.invariant.2 c.refill.ensures.unread

pub returns-in-Err-clause-whole : goal.returns-in-Err-clause-whole
returns-in-Err-clause-whole g c whole fits =
    let there = c.refill.ensures.there (some_left _ (c.loop-pending.invariant.2 whole).whole) in let not = c.in-Err.is in absurd (cc)

pub returns-then-size-room-clause-unread : goal.returns-then-size-room-clause-unread
returns-then-size-room-clause-unread g c = unread_if_held _ _ _ _ _ _ c.loop-pending.invariant.2 c.refill.ensures.unread

pub returns-then-size-room-clause-whole : goal.returns-then-size-room-clause-whole
returns-then-size-room-clause-whole g c whole fits = room_if_held _ _ _ _ _ _ c.loop-pending.invariant.2 whole fits c.if-size-room.true

pub returns-then-byte-eq10-clause-unread : goal.returns-then-byte-eq10-clause-unread
returns-then-byte-eq10-clause-unread g c = unread_if_held _ _ _ _ _ _ c.loop-pending.invariant.2 c.refill.ensures.unread

pub returns-in-Ok-false-clause-unread : goal.returns-in-Ok-false-clause-unread
returns-in-Ok-false-clause-unread g c = unread_if_held _ _ _ _ _ _ c.loop-pending.invariant.2 c.refill.ensures.unread

pub returns-in-Ok-false-clause-whole : goal.returns-in-Ok-false-clause-whole
returns-in-Ok-false-clause-whole g c whole fits =
    let there = c.refill.ensures.there (some_left _ (c.loop-pending.invariant.2 whole).whole) in let not = c.in-Ok-false.is in let test = c.in-Ok-false.field-0-test in absurd (cc)

pub returns-in-Err-clause-cut : goal.returns-in-Err-clause-cut
returns-in-Err-clause-cut g c = cuts_fault 1025 _ _ _ _ _ _ _ _ c.loop-pending.invariant.0 c.in-Err.ensures.bytes.stream c.in-Err.ensures.bytes.failed

pub returns-then-size-room-clause-cut : goal.returns-then-size-room-clause-cut
returns-then-size-room-clause-cut g c = cuts_full 1025 _ _ _ _ _ _ _ _ _ _ c.loop-pending.invariant.0 c.in-Ok-true.ensures.bytes.stream c.next_byte-byte.ensures c.if-size-room.true

pub returns-then-byte-eq10-clause-cut : goal.returns-then-byte-eq10-clause-cut
returns-then-byte-eq10-clause-cut g c = cuts_whole 1025 _ _ _ _ _ _ _ _ _ _ c.loop-pending.invariant.0 c.in-Ok-true.ensures.bytes.stream c.next_byte-byte.ensures c.if-size-room.false c.if-byte-eq10.true

pub returns-in-Ok-false-clause-cut : goal.returns-in-Ok-false-clause-cut
returns-in-Ok-false-clause-cut g c = cuts_last 1025 _ _ _ _ _ _ _ _ c.loop-pending.invariant.0 c.in-Ok-false.ensures.bytes.stream (c.in-Ok-false.ensures.bytes.at_end c.in-Ok-false.field-0-test)

pub returns-in-Err-clause-rest : goal.returns-in-Err-clause-rest
returns-in-Err-clause-rest g c = rest_since c.loop-pending.invariant.1 c.refill.ensures.rest

pub returns-then-size-room-clause-rest : goal.returns-then-size-room-clause-rest
returns-then-size-room-clause-rest g c = rest_since c.loop-pending.invariant.1 c.refill.ensures.rest

pub returns-then-byte-eq10-clause-rest : goal.returns-then-byte-eq10-clause-rest
returns-then-byte-eq10-clause-rest g c = rest_since c.loop-pending.invariant.1 c.refill.ensures.rest

pub returns-in-Ok-false-clause-rest : goal.returns-in-Ok-false-clause-rest
returns-in-Ok-false-clause-rest g c = rest_since c.loop-pending.invariant.1 c.refill.ensures.rest
