use Rattle.std.specs.Prelude.{◌≡◌, ℕ, ◌+◌, List}
use Rattle.std.proofs.Common.{ap, ◌∙◌}
use Rattle.mk_exact.specs.History.{revision}
use Rattle.mk_reply.specs.declared.reply.Reply.TheVariants.{Withdrawn}
use Rattle.mk_told.proofs.Retold.{told_again, told_otherwise, equal_names, unlike_names}
use Rattle.mk_told.proofs.stored.tells_withdrawal.Goals as goal

pub returns-then-eq : goal.returns-then-eq
returns-then-eq c =
    let own : c.in-Withdrawn.user ≡ c.args.name.now =
    equal_names c.in-Withdrawn.user c.args.name.now c.if-eq.ensures in
    told_again (λ (a : List ℕ) (n : ℕ). Withdrawn a c.args.bits n) c.args.reply.now
    c.in-Withdrawn.user
    c.args.name.now c.in-Withdrawn.at (revision c.args.journal.now.history + 1) c.is_next.result
    (c.in-Withdrawn.is ∙ ap (λ (bits : ℕ). Withdrawn c.in-Withdrawn.user bits c.in-Withdrawn.at)
    c.if-told-bits.true) own (λ e. cc) c.is_next.ensures

pub returns-else-eq : goal.returns-else-eq
returns-else-eq c =
    told_otherwise c.args.reply.now (Withdrawn c.in-Withdrawn.user c.in-Withdrawn.told
    c.in-Withdrawn.at)
    (Withdrawn c.args.name.now c.args.bits (revision c.args.journal.now.history + 1)) c.eq.result
    c.in-Withdrawn.is
    (λ e. unlike_names c.in-Withdrawn.user c.args.name.now c.if-eq.ensures (cc)) c.if-eq.false
