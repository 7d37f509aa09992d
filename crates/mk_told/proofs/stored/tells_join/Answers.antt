use Rattle.std.specs.Prelude.{◌≡◌, ℕ, ◌+◌, List}
use Rattle.mk_exact.specs.History.{revision}
use Rattle.mk_reply.specs.declared.reply.Reply.TheVariants.{Joined}
use Rattle.mk_told.proofs.Retold.{told_again, told_otherwise, equal_names, unlike_names}
use Rattle.mk_told.proofs.stored.tells_join.Goals as goal

pub returns-then-eq : goal.returns-then-eq
returns-then-eq c =
    let own : c.in-Joined.user ≡ c.args.name.now =
    equal_names c.in-Joined.user c.args.name.now c.if-eq.ensures in
    told_again (λ (a : List ℕ) (n : ℕ). Joined a n) c.args.reply.now c.in-Joined.user
    c.args.name.now c.in-Joined.at (revision c.args.journal.now.history + 1) c.is_next.result
    c.in-Joined.is own (λ e. cc) c.is_next.ensures

pub returns-else-eq : goal.returns-else-eq
returns-else-eq c =
    told_otherwise c.args.reply.now (Joined c.in-Joined.user c.in-Joined.at)
    (Joined c.args.name.now (revision c.args.journal.now.history + 1)) c.eq.result c.in-Joined.is
    (λ e. unlike_names c.in-Joined.user c.args.name.now c.if-eq.ensures (cc)) c.if-eq.false
