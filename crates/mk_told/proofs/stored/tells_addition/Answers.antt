use Rattle.std.specs.Prelude.{◌≡◌, ℕ, ◌+◌, List}
use Rattle.mk_exact.specs.History.{revision}
use Rattle.mk_reply.specs.declared.reply.Reply.TheVariants.{Added}
use Rattle.mk_told.proofs.Retold.{told_again, told_otherwise, equal_names, unlike_names}
use Rattle.mk_told.proofs.stored.tells_addition.Goals as goal

pub returns-then-eq : goal.returns-then-eq
returns-then-eq c =
    let own : c.in-Added.variable ≡ c.args.add.now.variable =
    equal_names c.in-Added.variable c.args.add.now.variable c.if-eq.ensures in
    told_again (λ (a : List ℕ) (n : ℕ). Added a n) c.args.reply.now c.in-Added.variable
    c.args.add.now.variable c.in-Added.at (revision c.args.journal.now.history + 1) c.is_next.result
    c.in-Added.is own (λ e. cc) c.is_next.ensures

pub returns-else-eq : goal.returns-else-eq
returns-else-eq c =
    told_otherwise c.args.reply.now (Added c.in-Added.variable c.in-Added.at)
    (Added c.args.add.now.variable (revision c.args.journal.now.history + 1)) c.eq.result
    c.in-Added.is
    (λ e. unlike_names c.in-Added.variable c.args.add.now.variable c.if-eq.ensures (cc))
    c.if-eq.false
