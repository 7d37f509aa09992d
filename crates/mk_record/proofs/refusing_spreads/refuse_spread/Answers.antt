use Rattle.std.proofs.Common.{Some, None, ◌∙◌}
use Rattle.mk_quote.specs.Questions.{spread_in}
use Rattle.mk_rules.proofs.Spreads.{spread_parts}
use Rattle.mk_record.proofs.Refusing.{error_kept}
use Rattle.mk_record.proofs.SpreadRefusals.{spread_settled, spread_of_nobody, spread_unasked, spread_stale, spread_unanswered, spread_unshared, spread_filled}
use Rattle.mk_record.proofs.refusing_spreads.refuse_spread.Goals as goal

pub returns-in_err-not_settled-clause-refusal : goal.returns-in_err-not_settled-clause-refusal
returns-in_err-not_settled-clause-refusal g c pairs shares given listed =
    error_kept c.from_residual.result c.in_err-not_settled.field-0.0 c.from_residual.ensures.1
    ∙ spread_settled c.args.file.now c.args.journal.now.history c.args.wish.now.variable.now
    c.args.wish.now.condition.now c.args.name.now pairs given c.args.wish.now.to.now shares
    listed c.args.wish.now.at c.in_err-not_settled.field-0.0 c.in_err-not_settled.ensures

pub returns-in_err-user-clause-refusal : goal.returns-in_err-user-clause-refusal
returns-in_err-user-clause-refusal g c pairs shares given listed =
    error_kept c.from_residual-in_err-user.result c.in_err-user.field-0.0 c.from_residual-in_err-user.ensures.1
    ∙ spread_of_nobody c.args.file.now c.args.journal.now.history c.args.wish.now.variable.now
    c.args.wish.now.condition.now c.args.name.now pairs given c.args.wish.now.to.now shares
    listed c.args.wish.now.at c.in_ok-not_settled.ensures
    c.in_err-user.field-0.0 (c.in_err-user.ensures.refusal c.args.journal.now.history c.requires.named)

pub returns-in_err-asked-clause-refusal : goal.returns-in_err-asked-clause-refusal
returns-in_err-asked-clause-refusal g c pairs shares given listed =
    error_kept c.from_residual-in_err-asked.result c.in_err-asked.field-0.0 c.from_residual-in_err-asked.ensures.1
    ∙ spread_unasked c.args.file.now c.args.journal.now.history c.args.wish.now.variable.now
    c.args.wish.now.condition.now c.args.name.now pairs given c.args.wish.now.to.now shares
    listed c.args.wish.now.at c.in_ok-not_settled.ensures
    (c.in_ok-user.ensures.refusal c.args.journal.now.history c.requires.named) c.in_err-asked.field-0.0 c.in_err-asked.ensures.refusal

pub returns-in_err-not_stale-clause-refusal : goal.returns-in_err-not_stale-clause-refusal
returns-in_err-not_stale-clause-refusal g c pairs shares given listed =
    error_kept c.from_residual-in_err-not_stale.result c.in_err-not_stale.field-0.0 c.from_residual-in_err-not_stale.ensures.1
    ∙ spread_stale c.args.file.now c.args.journal.now.history c.args.wish.now.variable.now
    c.args.wish.now.condition.now c.args.name.now pairs given c.args.wish.now.to.now shares
    listed c.args.wish.now.at c.in_ok-not_settled.ensures
    (c.in_ok-user.ensures.refusal c.args.journal.now.history c.requires.named) c.in_ok-asked.ensures.refusal c.in_err-not_stale.field-0.0 c.in_err-not_stale.ensures

pub returns-in_err-home-clause-refusal : goal.returns-in_err-home-clause-refusal
returns-in_err-home-clause-refusal g c pairs shares given listed =
    error_kept c.from_residual-in_err-home.result c.in_err-home.field-0.0
    c.from_residual-in_err-home.ensures.1
    ∙ spread_unanswered c.args.file.now c.args.journal.now.history c.args.wish.now.variable.now
    c.args.wish.now.condition.now c.args.name.now pairs given c.args.wish.now.to.now shares
    listed c.args.wish.now.at c.in_ok-not_settled.ensures
    (c.in_ok-user.ensures.refusal c.args.journal.now.history c.requires.named)
    c.in_ok-asked.ensures.refusal c.in_ok-not_stale.ensures c.in_err-home.field-0.0
    c.in_err-home.ensures.refusal

pub returns-in_err-is_distribution-clause-refusal : goal.returns-in_err-is_distribution-clause-refusal
returns-in_err-is_distribution-clause-refusal g c pairs shares given listed =
    let H = c.args.journal.now.history in
    let parts = spread_parts c.args.file.now.net c.args.wish.now.variable.now
    c.args.wish.now.condition.now (spread_in c.in_ok-asked.asked) c.in_ok-asked.ensures.named in
    error_kept c.from_residual-in_err-is_distribution.result c.in_err-is_distribution.field-0.0 c.from_residual-in_err-is_distribution.ensures.1
    ∙ spread_unshared c.args.file.now H c.args.wish.now.variable.now c.args.wish.now.condition.now
    c.args.name.now pairs given c.args.wish.now.to.now shares listed c.args.wish.now.at
    c.in_ok-not_settled.ensures
    (c.in_ok-user.ensures.refusal H c.requires.named) c.in_ok-asked.ensures.refusal
    c.in_ok-not_stale.ensures c.in_ok-home.ensures.refusal
    c.in_err-is_distribution.field-0.0 (c.in_err-is_distribution.ensures
    c.args.wish.now.variable.now parts.0 parts.1)

pub returns-in_err-room_for_trade-clause-refusal : goal.returns-in_err-room_for_trade-clause-refusal
returns-in_err-room_for_trade-clause-refusal g c pairs shares given listed =
    let H = c.args.journal.now.history in
    let parts = spread_parts c.args.file.now.net c.args.wish.now.variable.now
    c.args.wish.now.condition.now (spread_in c.in_ok-asked.asked) c.in_ok-asked.ensures.named in
    error_kept c.from_residual-in_err-room_for_trade.result c.in_err-room_for_trade.field-0.0 c.from_residual-in_err-room_for_trade.ensures.1
    ∙ spread_filled c.args.file.now H c.args.wish.now.variable.now c.args.wish.now.condition.now
    c.args.name.now pairs given c.args.wish.now.to.now shares listed c.args.wish.now.at
    c.in_ok-not_settled.ensures
    (c.in_ok-user.ensures.refusal H c.requires.named) c.in_ok-asked.ensures.refusal
    c.in_ok-not_stale.ensures c.in_ok-home.ensures.refusal
    (c.in_ok-is_distribution.ensures c.args.wish.now.variable.now parts.0 parts.1)
    (Some c.in_err-room_for_trade.field-0.0)
    c.args.journal.now.max_trades c.in_err-room_for_trade.ensures c.requires.max_trades

pub returns-clause-refusal : goal.returns-clause-refusal
returns-clause-refusal g c pairs shares given listed =
    let H = c.args.journal.now.history in
    let parts = spread_parts c.args.file.now.net c.args.wish.now.variable.now
    c.args.wish.now.condition.now (spread_in c.in_ok-asked.asked) c.in_ok-asked.ensures.named in
    spread_filled c.args.file.now H c.args.wish.now.variable.now c.args.wish.now.condition.now
    c.args.name.now pairs given c.args.wish.now.to.now shares listed c.args.wish.now.at
    c.in_ok-not_settled.ensures
    (c.in_ok-user.ensures.refusal H c.requires.named) c.in_ok-asked.ensures.refusal
    c.in_ok-not_stale.ensures c.in_ok-home.ensures.refusal
    (c.in_ok-is_distribution.ensures c.args.wish.now.variable.now parts.0 parts.1) None
    c.args.journal.now.max_trades c.in_ok-room_for_trade.ensures c.requires.max_trades
