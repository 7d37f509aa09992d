use Rattle.std.proofs.Common.{ℕ, ◌≤◌, [], length, arith, rules}
use Rattle.std.proofs.lemmas.List.{length-take}
use Rattle.mk_session.proofs.Going.{whole_file, front_of_file, within_of, within_more}
use Rattle.mk_session.proofs.Going.{taken_at_start}
use Rattle.mk_session.proofs.run.read_opened.Goals as goal

pub returns-in-Ok-eq0-clause-bytes : goal.returns-in-Ok-eq0-clause-bytes
returns-in-Ok-eq0-clause-bytes g c = λ file told.
    let taken = c.in-Ok-eq0.ensures.taken file (c.pieces.invariant.taken file told) in
    let short : length c.read_piece.new.bytes.items ≤ c.args.most =
    omega (arith, c.in-Ok-eq0.ensures.grows, c.pieces.invariant.short) in
    whole_file c.args.most file c.read_piece.new.bytes.items (g.I.Inputs.market
    c.read_piece.new.inputs)
    taken short (c.in-Ok-eq0.ensures.at_end (search rules))

pub returns-clause-bytes : goal.returns-clause-bytes
returns-clause-bytes g c = λ file told.
    let long : c.args.most ≤ length c.pieces.bytes.items = omega (arith, c.len.ensures) in
    front_of_file c.args.most file c.pieces.bytes.items (g.I.Inputs.market c.pieces.inputs)
    (c.pieces.invariant.taken file told) c.pieces.invariant.short long

pub returns-in-Ok-eq0-clause-few : goal.returns-in-Ok-eq0-clause-few
returns-in-Ok-eq0-clause-few g c = λ file told.
    within_of c.args.most file c.read_piece.new.bytes.items _
    (c.in-Ok-eq0.ensures.taken file (c.pieces.invariant.taken file told))
    (omega (arith, c.in-Ok-eq0.ensures.grows, c.pieces.invariant.short))

pub returns-in-Err-clause-few : goal.returns-in-Err-clause-few
returns-in-Err-clause-few g c = λ file told.
    within_more _ c.args.most file (g.I.Inputs.market c.read_piece.new.inputs)
    (c.in-Err.ensures.few file (c.pieces.invariant.taken file told))
    (omega (arith, c.min-room.ensures, c.len-in-pieces.ensures, length-take {A = ℕ}))

pub returns-clause-few : goal.returns-clause-few
returns-clause-few g c = λ file told.
    within_of c.args.most file c.pieces.bytes.items (g.I.Inputs.market c.pieces.inputs)
    (c.pieces.invariant.taken file told) c.pieces.invariant.short

pub returns-in_default-clause-few : goal.returns-in_default-clause-few
returns-in_default-clause-few g c = λ file told.
    let source = g.I.Inputs.market c.args.inputs.now in
    within_of c.args.most file [] source (taken_at_start file source told) (omega (arith))
