use Rattle.std.specs.Prelude.{◌≡◌, ℕ, ◌+◌}
use Rattle.mk_net.specs.declared.words.PairText.{PairText}
use Rattle.mk_exact.specs.History.{revision}
use Rattle.mk_reply.specs.declared.reply.Reply.TheVariants.{Resolved}
use Rattle.mk_told.proofs.Retold.{told_again, told_otherwise, equal_of_same_pair, unlike_pairs}
use Rattle.mk_told.proofs.stored.tells_resolution.Goals as goal

pub returns-then-eq : goal.returns-then-eq
returns-then-eq c =
    let own : c.in-Resolved.pair ≡ c.args.words.now =
    equal_of_same_pair c.in-Resolved.pair c.args.words.now c.if-eq.ensures in
    told_again (λ (a : PairText) (n : ℕ). Resolved a n) c.args.reply.now c.in-Resolved.pair
    c.args.words.now c.in-Resolved.at (revision c.args.journal.now.history + 1) c.is_next.result
    c.in-Resolved.is own (λ e. cc) c.is_next.ensures

pub returns-else-eq : goal.returns-else-eq
returns-else-eq c =
    told_otherwise c.args.reply.now (Resolved c.in-Resolved.pair c.in-Resolved.at)
    (Resolved c.args.words.now (revision c.args.journal.now.history + 1)) c.eq.result
    c.in-Resolved.is
    (λ e. unlike_pairs c.in-Resolved.pair c.args.words.now c.if-eq.ensures (cc)) c.if-eq.false
