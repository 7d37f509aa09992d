use Rattle.std.proofs.Common.{length, refl}
use Rattle.mk_sums.proofs.Hops.{are_linked, linked_back, linked_from}
use Rattle.mk_tree.specs.Given.{link_of}
use Rattle.mk_propagate.specs.inner.Boards.{product_of, message_of}
use Rattle.mk_propagate.proofs.Prepared.{both_there, places_there, left_out, left_out_room}
use Rattle.mk_propagate.proofs.Prepared.{room_for_it, scope_before, into_back}
use Rattle.mk_propagate.proofs.message.put_back.Goals as goal

pub places-requires : goal.places-requires
places-requires g c =
    let tree = c.args.shape.now.tree in let k = c.args.clique in let i = c.args.missing in
    linked_from (link_of tree) (length tree.cliques) k i
    (linked_back (link_of tree) (length tree.cliques) i k
    (are_linked (link_of tree) (length tree.cliques) i k c.requires.linked))

pub times_message-requires : goal.times_message-requires
times_message-requires g c =
    let plus = g.R.Semiring.plus_of in let law = g.met.R.Semiring.lawful in
    let shape = c.args.shape.now in let k = c.args.clique in let i = c.args.missing in
    let p = c.requires.right.0 in let can = c.requires.right.1 in
    let board = c.args.board.now in
    let product = product_of board k in let message = message_of board i k in
    record {
      both =
          both_there shape board p can.shape_is can.placing c.requires.over i k c.requires.linked;
      places =
          places_there plus shape k i p product message
          (scope_before plus law shape k c.requires.clique board.upward board.downward i
          c.requires.linked product message c.requires.has refl p can)
          (left_out plus law shape k c.requires.clique board.upward board.downward i
          c.requires.linked product message c.requires.has refl p can)
          c.places.result.now c.places.ensures;
      room =
          room_for_it plus law shape k c.requires.clique board.upward board.downward i
          c.requires.linked product message c.requires.has refl p can;
      message_room =
          left_out_room plus law shape k c.requires.clique board.upward board.downward i
          c.requires.linked product message c.requires.has refl p can;
    }

pub returns-clause-into : goal.returns-clause-into
returns-clause-into g c =
    let board = c.args.board.now in let k = c.args.clique in let i = c.args.missing in
    let t = c.times_message.ensures.made in
    into_back g.R.Semiring.plus_of g.met.R.Semiring.lawful c.args.shape.now k c.requires.clique
    board.upward board.downward i c.requires.linked
    (product_of board k) (message_of board i k) c.requires.has refl
    (product_of c.times_message.new.self k) t.scope t.shift t.full t.numbers t.touched
