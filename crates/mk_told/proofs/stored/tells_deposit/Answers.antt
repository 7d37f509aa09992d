use Rattle.std.specs.Prelude.{◌≡◌, ℕ, ◌+◌, List}
use Rattle.std.proofs.Common.{ap, ◌∙◌}
use Rattle.mk_exact.specs.History.{revision}
use Rattle.mk_reply.specs.declared.reply.Reply.TheVariants.{Deposited}
use Rattle.mk_told.proofs.Retold.{told_again, told_otherwise, equal_names, unlike_names}
use Rattle.mk_told.proofs.stored.tells_deposit.Goals as goal

pub returns-then-eq : goal.returns-then-eq
returns-then-eq c =
    let own : c.in-Deposited.user ≡ c.args.name.now =
    equal_names c.in-Deposited.user c.args.name.now c.if-eq.ensures in
    told_again (λ (a : List ℕ) (n : ℕ). Deposited a c.args.bits n) c.args.reply.now
    c.in-Deposited.user
    c.args.name.now c.in-Deposited.at (revision c.args.journal.now.history + 1) c.is_next.result
    (c.in-Deposited.is ∙ ap (λ (bits : ℕ). Deposited c.in-Deposited.user bits c.in-Deposited.at)
    c.if-told-bits.true) own (λ e. cc) c.is_next.ensures

pub returns-else-eq : goal.returns-else-eq
returns-else-eq c =
    told_otherwise c.args.reply.now (Deposited c.in-Deposited.user c.in-Deposited.told
    c.in-Deposited.at)
    (Deposited c.args.name.now c.args.bits (revision c.args.journal.now.history + 1)) c.eq.result
    c.in-Deposited.is
    (λ e. unlike_names c.in-Deposited.user c.args.name.now c.if-eq.ensures (cc)) c.if-eq.false
