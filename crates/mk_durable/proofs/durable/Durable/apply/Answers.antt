use Rattle.std.proofs.Common.{◌≡◌, [], ◌++◌, length, sym, subst}
use Rattle.std.specs.Prelude.{⊤}
use Rattle.mk_journal.specs.Keepers.{IsHeld}
use Rattle.mk_journal.specs.Market.{IsFront}
use Rattle.mk_journal.specs.Moments.{LeavesOnly}
use Rattle.mk_market.specs.Suited.{SuitsNext}
use Rattle.mk_durable.specs.Applying.{DurableOf, records_made}
use Rattle.mk_durable.proofs.Applied.{known_of}
use Rattle.mk_durable.proofs.durable.Durable.apply.Goals as goal

pub answer_and_keep-requires-clause-prices : goal.answer_and_keep-requires-clause-prices
answer_and_keep-requires-clause-prices g c =
    subst (λ (d : DurableOf _). SuitsNext g.P.Engine.suits d.trading c.args.command.now)
    (sym c.self.view_is) c.requires.prices

pub answer_and_keep-requires-clause-assets : goal.answer_and_keep-requires-clause-assets
answer_and_keep-requires-clause-assets g c =
    subst (λ (d : DurableOf _). SuitsNext g.A.Engine.suits d.trading c.args.command.now)
    (sym c.self.view_is) c.requires.assets

pub returns-in-Ok-clause-kept : goal.returns-in-Ok-clause-kept
returns-in-Ok-clause-kept g c n bytes records named opened held =
    known_of c.self.view_is (g.K.Disk.file c.args.disk.now n)
    (g.K.Disk.may_leave c.args.disk.now n) bytes records c.answer_and_keep.new.market
    c.args.command.now
    (λ old reply. (c.in-Ok.reply ≡ reply)
    × IsHeld (g.K.Disk.file c.answer_and_keep.new.disk n)
    (g.K.Disk.may_leave c.answer_and_keep.new.disk n) c.answer_and_keep.new.store bytes
    (records ++ records_made old c.args.command.now reply) []
    × LeavesOnly (g.K.Disk.moment c.args.disk.now) (g.K.Disk.moment c.answer_and_keep.new.disk)
    (g.K.Disk.left_since c.args.disk.now n) (g.K.Disk.left_since c.answer_and_keep.new.disk n)
    (IsFront bytes (records ++ records_made old c.args.command.now reply) (length records)))
    (c.in-Ok.ensures.kept n bytes records named) held

pub returns-in-Err-clause-kept : goal.returns-in-Err-clause-kept
returns-in-Err-clause-kept g c n bytes records named opened held =
    known_of c.self.view_is (g.K.Disk.file c.args.disk.now n)
    (g.K.Disk.may_leave c.args.disk.now n) bytes records c.answer_and_keep.new.market
    c.args.command.now
    (λ old reply. ⊤ × ⊤
    × LeavesOnly (g.K.Disk.moment c.args.disk.now) (g.K.Disk.moment c.answer_and_keep.new.disk)
    (g.K.Disk.left_since c.args.disk.now n) (g.K.Disk.left_since c.answer_and_keep.new.disk n)
    (IsFront bytes (records ++ records_made old c.args.command.now reply) (length records)))
    (c.in-Err.ensures.kept n bytes records named) held
