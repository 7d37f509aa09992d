use Rattle.std.proofs.Common.{ℕ, List, length, ap, arith}
use Rattle.mk_propagate.specs.inner.Boards.{HasBoth, CanSum, core_of, product_of, message_of}
use Rattle.mk_propagate.proofs.Prepared.{both_there}
use Rattle.mk_propagate.proofs.Messages.{message_alone, message_of_both, core_room_there}
use Rattle.mk_propagate.proofs.Messages.{product_room_there}
use Rattle.mk_propagate.proofs.message.send.Given.{Over}
use Rattle.mk_propagate.proofs.message.send.Goals.{After-neighbours}
use Rattle.mk_propagate.proofs.message.send.Goals as goal

-- both cliques are there, and the sender's core has room to be summed
module _ (g : Over) (c : After-neighbours g) where
  both : HasBoth c.args.board.now c.args.from c.args.to
  both =
      let out = c.requires.has.1 in
      both_there c.args.shape.now c.args.board.now c.requires.has.0 out.shape_is out.placing
      c.requires.over c.args.from c.args.to c.requires.linked

  room : CanSum (core_of c.args.board.now c.args.from)
  room =
      let board = c.args.board.now in let a = c.args.from in let b = c.args.to in
      let out = c.requires.has.1 in
      core_room_there c.args.shape.now c.requires.has.0 out.shape_is out.placing
      g.R.Semiring.plus_of g.met.R.Semiring.lawful a b c.requires.linked (core_of board a)
      (product_of board a) out (message_of board a b) (message_of board a b) c.requires.scope

pub send_core-requires-clause-both : goal.send_core-requires-clause-both
send_core-requires-clause-both g c =
    both g (goal.at.send_core-requires-clause-both g c).After-neighbours

pub send_core-requires-clause-room : goal.send_core-requires-clause-room
send_core-requires-clause-room g c =
    room g (goal.at.send_core-requires-clause-room g c).After-neighbours

pub send_product-requires-clause-both : goal.send_product-requires-clause-both
send_product-requires-clause-both g c =
    both g (goal.at.send_product-requires-clause-both g c).After-neighbours

pub send_product-requires-clause-room : goal.send_product-requires-clause-room
send_product-requires-clause-room g c =
    room g (goal.at.send_product-requires-clause-room g c).After-neighbours

pub send_product-requires-clause-product_room : goal.send_product-requires-clause-product_room
send_product-requires-clause-product_room g c =
    let p = c.requires.has.0 in let out = c.requires.has.1 in
    let e = ap (λ (xs : List ℕ). length xs) c.neighbours.ensures in
    product_room_there c.args.shape.now p out.shape_is out.placing g.R.Semiring.plus_of
    g.met.R.Semiring.lawful c.args.from c.args.to c.requires.linked
    (core_of c.args.board.now c.args.from) (product_of c.args.board.now c.args.from) out
    (message_of c.args.board.now c.args.from c.args.to)
    (message_of c.args.board.now c.args.from c.args.to) c.requires.scope
    (omega (arith, e, c.if-neighbours-lt2.false))

pub returns-then-neighbours-lt2-clause-right : goal.returns-then-neighbours-lt2-clause-right
returns-then-neighbours-lt2-clause-right g c = λ p out.
    let e = ap (λ (xs : List ℕ). length xs) c.neighbours.ensures in
    message_alone c.args.shape.now p out.shape_is out.placing g.R.Semiring.plus_of
    g.met.R.Semiring.lawful c.args.from c.args.to c.requires.linked
    (core_of c.args.board.now c.args.from) (product_of c.args.board.now c.args.from) out
    (message_of c.args.board.now c.args.from c.args.to)
    (message_of c.send_core.new.self c.args.from c.args.to) c.requires.scope
    (omega (arith, e, c.if-neighbours-lt2.true)) c.send_core.ensures.made

pub returns-else-neighbours-lt2-clause-right : goal.returns-else-neighbours-lt2-clause-right
returns-else-neighbours-lt2-clause-right g c = λ p out.
    let e = ap (λ (xs : List ℕ). length xs) c.neighbours.ensures in
    message_of_both c.args.shape.now p out.shape_is out.placing g.R.Semiring.plus_of
    g.met.R.Semiring.lawful c.args.from c.args.to c.requires.linked
    (core_of c.args.board.now c.args.from) (product_of c.args.board.now c.args.from) out
    (message_of c.args.board.now c.args.from c.args.to)
    (message_of c.send_product.new.self c.args.from c.args.to) c.requires.scope
    (omega (arith, e, c.if-neighbours-lt2.false)) c.send_product.ensures.made
