use Rattle.std.proofs.Common.{◌≢◌, ℕ, List, All, subst}
use Rattle.mk_command.specs.Commands.{command_of}
use Rattle.mk_reply.specs.Replies.{IsUnread}
use Rattle.mk_reply.specs.declared.unread.Unread.{Unread}
use Rattle.mk_audit.specs.inner.Progress.{IsFirstLine, standing_at, left_of}
use Rattle.mk_audit.proofs.Found.{no_line_stuck, no_reply_stuck, read_found, stuck_ends}
use Rattle.mk_audit.proofs.front.Front.hold_line.Goals as goal

pub returns-in_default-clause-found : goal.returns-in_default-clause-found
returns-in_default-clause-found c = λ line busy asks.
    let m = c.args.market.now in
    let now = standing_at m.standing c.args.self.now in
    let left = left_of c.args.transcript.now c.args.self.now in
    stuck_ends c.wrong.result m.market now line left c.args.self.now.right c.wrong.ensures
    (no_line_stuck m.market m.standing c.args.self.now line (command_of c.args.command.now) left
    c.requires.known busy asks (subst (λ (bytes : List ℕ). All (λ b. b ≢ 10) bytes) c.left.ensures
    c.in_default.ensures))

pub returns-in-Ok-clause-found : goal.returns-in-Ok-clause-found
returns-in-Ok-clause-found c = λ line busy asks.
    let m = c.args.market.now in
    read_found c.hold_reply.result m.market m.standing c.hold_reply.new.market.standing line
    (command_of c.args.command.now) c.in-Ok.reply c.in-Some.line.now c.args.transcript.now
    c.args.self.now c.hold_reply.new.self c.requires.known busy asks
    (subst (λ (bytes : List ℕ). IsFirstLine c.in-Some.line.now bytes) c.left.ensures
    c.in-Some.ensures) c.in-Ok.ensures.found.0 c.in-Ok.ensures.found.1 c.hold_reply.ensures.place
    c.hold_reply.ensures.count c.hold_reply.ensures.found

pub returns-in-Err-Syntax-clause-found : goal.returns-in-Err-Syntax-clause-found
returns-in-Err-Syntax-clause-found c = λ line busy asks.
    let m = c.args.market.now in
    let now = standing_at m.standing c.args.self.now in
    let left = left_of c.args.transcript.now c.args.self.now in
    stuck_ends c.wrong-in-Err-Syntax.result m.market now line left c.args.self.now.right
    c.wrong-in-Err-Syntax.ensures
    (no_reply_stuck m.market m.standing c.args.self.now line (command_of c.args.command.now) left
    c.in-Some.line.now c.requires.known busy asks
    (subst (λ (bytes : List ℕ). IsFirstLine c.in-Some.line.now bytes) c.left.ensures
    c.in-Some.ensures)
    (subst (λ (u : Unread). IsUnread c.in-Some.line.now u) c.in-Err-Syntax.field-0-is
    c.in-Err-Syntax.ensures.unread))
