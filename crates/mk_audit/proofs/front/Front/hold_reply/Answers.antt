use Rattle.mk_command.specs.Commands.{command_of}
use Rattle.mk_audit.proofs.Found.{stands_by, at_by}
use Rattle.mk_audit.proofs.front.Front.hold_reply.Goals as goal

pub returns-in-Allowed-clause-known : goal.returns-in-Allowed-clause-known
returns-in-Allowed-clause-known c =
    let allowed = c.in-Allowed.ensures.judged c.requires.known.ready.stands in
    stands_by c.args.market.now c.judge.new.market c.go_on.new.market c.in-Allowed.ensures.same
    c.args.self.now c.go_on.new.self (command_of c.args.command.now) c.args.reply.now allowed
    c.go_on.result c.requires.command c.requires.known c.go_on.ensures.next

pub returns-in-Allowed-clause-market : goal.returns-in-Allowed-clause-market
returns-in-Allowed-clause-market c =
    let allowed = c.in-Allowed.ensures.judged c.requires.known.ready.stands in
    at_by c.args.market.now c.judge.new.market c.go_on.new.market c.in-Allowed.ensures.same
    c.args.self.now c.go_on.new.self (command_of c.args.command.now) c.args.reply.now allowed
    c.go_on.result c.go_on.ensures.next
