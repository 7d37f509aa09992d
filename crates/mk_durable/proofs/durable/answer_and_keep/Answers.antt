use Rattle.std.proofs.Common.{◌≡◌, ◌≢◌, ℕ, List, [], ◌∷◌, ◌++◌, length, refl, sym, subst, ◌∙◌}
use Rattle.std.proofs.Common.{arith}
use Rattle.std.proofs.lemmas.Result.{err_from_is_err_and}
use Rattle.mk_exact.specs.History.{revision}
use Rattle.mk_command.specs.declared.command.Command.{Command}
use Rattle.mk_command.specs.Commands.{command_text}
use Rattle.mk_reply.specs.Replies.{reply_text}
use Rattle.mk_journal.specs.Keepers.{IsHeld, IsReady}
use Rattle.mk_journal.specs.Market.{IsFront}
use Rattle.mk_journal.specs.Moments.{LeavesOnly}
use Rattle.mk_market.specs.Trading.{IsAnswered}
use Rattle.mk_market.specs.Suited.{SuitsNext}
use Rattle.mk_durable.specs.Applying.{records_made}
use Rattle.mk_durable.proofs.Numbers.{few_changes, few_additions}
use Rattle.mk_durable.proofs.Found.{as_told}
use Rattle.mk_durable.proofs.Applied.{none_made, one_made, next_revision, held_still, left_still}
use Rattle.mk_durable.proofs.durable.answer_and_keep.Given.{Over}
use Rattle.mk_durable.proofs.durable.answer_and_keep.Goals as goal
use Rattle.mk_durable.proofs.durable.answer_and_keep.Goals.{After-keep_change}

-- the market answers the command that it was lent
answers : (g : Over) (c : After-keep_change g) → IsAnswered c.args.market.now
    c.apply-reply.new.self c.args.command.now c.apply-reply.result
answers g c =
    subst (λ (x : Command). IsAnswered c.args.market.now c.apply-reply.new.self x
    c.apply-reply.result) c.lend.ensures c.apply-reply.ensures

-- the history is not as long as it was
is_longer : (g : Over) (c : After-keep_change g)
    → length c.apply-reply.new.self.standing.history ≢ length c.args.market.now.standing.history
is_longer g c = λ same.
    c.if-length-before.false
    (as_told c.length.result _ _ c.length.ensures c.history-2.ensures.same ∙ same
    ∙ sym (as_told c.length-before.result _ _ c.length-before.ensures c.history.ensures.same))

-- so one record is made
makes_one : (g : Over) (c : After-keep_change g)
    → records_made c.args.market.now c.args.command.now c.apply-reply.result
    ≡ (command_text c.args.command.now ++ 10 ∷ reply_text c.apply-reply.result) ∷ []
makes_one g c =
    one_made c.args.market.now c.apply-reply.new.self c.args.command.now c.apply-reply.result
    (answers g c) (is_longer g c)

-- and each moment of its keeping leaves a front with it or without it
leaves_front : (g : Over) (c : After-keep_change g) (n bytes : List ℕ) (records : List (List ℕ))
    → n ≡ g.K.Disk.open_name c.args.disk.now
    → IsHeld (g.K.Disk.file c.args.disk.now n) (g.K.Disk.may_leave c.args.disk.now n)
    c.args.store.now bytes records []
    → LeavesOnly (g.K.Disk.moment c.args.disk.now) (g.K.Disk.moment c.keep_change.new.disk)
    (g.K.Disk.left_since c.args.disk.now n) (g.K.Disk.left_since c.keep_change.new.disk n)
    (IsFront bytes
    (records ++ records_made c.args.market.now c.args.command.now c.apply-reply.result)
    (length records))
leaves_front g c n bytes records named held =
    subst (λ (made : List (List ℕ)). LeavesOnly (g.K.Disk.moment c.args.disk.now)
    (g.K.Disk.moment c.keep_change.new.disk) (g.K.Disk.left_since c.args.disk.now n)
    (g.K.Disk.left_since c.keep_change.new.disk n)
    (IsFront bytes (records ++ made) (length records))) (sym (makes_one g c))
    (c.keep_change.ensures.any_moment n bytes records named held)

pub apply-reply-requires-clause-prices : goal.apply-reply-requires-clause-prices
apply-reply-requires-clause-prices g c =
    subst (SuitsNext g.P.Engine.suits c.args.market.now) (sym c.lend.ensures) c.requires.prices

pub apply-reply-requires-clause-assets : goal.apply-reply-requires-clause-assets
apply-reply-requires-clause-assets g c =
    subst (SuitsNext g.A.Engine.suits c.args.market.now) (sym c.lend.ensures) c.requires.assets

pub keep_change-requires-clause-ready : goal.keep_change-requires-clause-ready
keep_change-requires-clause-ready g c =
    let few = few_changes c.args.market.now.market c.args.market.now.standing.history
    c.history.ensures.safe in
    let added = few_additions c.args.market.now.market c.args.market.now.standing.history
    c.history.ensures.safe in
    (revision c.args.market.now.standing.history, omega (arith, few, added), c.requires.ready)

pub returns-then-length-before-clause-kept : goal.returns-then-length-before-clause-kept
returns-then-length-before-clause-kept g c n bytes records named held =
    let answered = subst (λ (x : Command). IsAnswered c.args.market.now c.apply-reply.new.self x
    c.apply-reply.result) c.lend.ensures c.apply-reply.ensures in
    let same : length c.apply-reply.new.self.standing.history
    ≡ length c.args.market.now.standing.history =
    sym (as_told c.length.result _ _ c.length.ensures c.history-2.ensures.same)
    ∙ c.if-length-before.true
    ∙ as_told c.length-before.result _ _ c.length-before.ensures c.history.ensures.same in
    let none = none_made c.args.market.now c.apply-reply.new.self c.args.command.now
    c.apply-reply.result answered same in
    record {
      reply = c.apply-reply.result;
      answered = answered;
      holds = (
        refl,
        held_still _ _ c.args.store.now bytes records _ none held,
        left_still _ _ c.args.store.now bytes records _ none held
            (g.met.K.Disk.only_now c.args.disk.now n),
      );
    }

pub returns-clause-ready : goal.returns-clause-ready
returns-clause-ready g c =
    let path = (goal.at.returns-clause-ready g c).After-keep_change in
    let few = few_changes c.args.market.now.market c.args.market.now.standing.history
    c.history.ensures.safe in
    let added = few_additions c.args.market.now.market c.args.market.now.standing.history
    c.history.ensures.safe in
    let next = next_revision c.args.market.now c.apply-reply.new.self c.args.command.now
    c.apply-reply.result (answers g path) (is_longer g path) in
    subst (λ (count : ℕ). IsReady (g.K.Disk.is_open c.keep_change.new.disk)
    (g.K.Disk.file c.keep_change.new.disk (g.K.Disk.open_name c.keep_change.new.disk))
    c.keep_change.new.store count) (sym next)
    (c.in_ok-keep_change.ensures.ready (revision c.args.market.now.standing.history)
    (omega (arith, few, added)) c.requires.ready)

pub returns-clause-kept : goal.returns-clause-kept
returns-clause-kept g c n bytes records named held =
    let path = (goal.at.returns-clause-kept g c).After-keep_change in
    record {
      reply = c.apply-reply.result;
      answered = answers g path;
      holds = (
        refl,
        subst (λ (made : List (List ℕ)). IsHeld (g.K.Disk.file c.keep_change.new.disk n)
            (g.K.Disk.may_leave c.keep_change.new.disk n) c.keep_change.new.store bytes
            (records ++ made) []) (sym (makes_one g path))
            (c.in_ok-keep_change.ensures.kept n bytes records named held),
        leaves_front g path n bytes records named held,
      );
    }

pub returns-in_err-keep_change-clause-kept : goal.returns-in_err-keep_change-clause-kept
returns-in_err-keep_change-clause-kept g c n bytes records named held =
    let path = (goal.at.returns-in_err-keep_change-clause-kept g c).After-keep_change in
    let p = err_from_is_err_and c.from_residual.result c.from_residual.ensures.1 in
    rw p.1 (record {
      reply = c.apply-reply.result;
      answered = answers g path;
      holds = (tt, tt, leaves_front g path n bytes records named held);
    })

pub returns-then-length-before-clause-is_market : goal.returns-then-length-before-clause-is_market
returns-then-length-before-clause-is_market g c = c.history-2.ensures.safe.legal

pub returns-in_err-keep_change-clause-is_market : goal.returns-in_err-keep_change-clause-is_market
returns-in_err-keep_change-clause-is_market g c = c.history-2.ensures.safe.legal

pub returns-clause-is_market : goal.returns-clause-is_market
returns-clause-is_market g c = c.history-2.ensures.safe.legal
