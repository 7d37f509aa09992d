use Rattle.std.proofs.Common.{◌≡◌, ◌<◌, None, sym, ap, ◌∙◌, subst}
use Rattle.mk_net.specs.Bounds.{number_limit}
use Rattle.mk_exact.specs.ByRule.{paid_in_all}
use Rattle.mk_cash.proofs.Sums.{payments_by_rule_fit}
use Rattle.mk_command.specs.declared.command.Command.TheVariants.{Settle}
use Rattle.mk_rules.specs.Refusals.{first_refusal}
use Rattle.mk_file.specs.MarketOf.{market_of}
use Rattle.mk_replay.specs.Tills.{TillOf}
use Rattle.mk_market.specs.Trading.{Trading}
use Rattle.mk_market.proofs.Settlement.{can_be_settled}
use Rattle.mk_market.proofs.market.Market.total_by_rule.Goals as goal

pub pay_all_by_rule-requires-clause-can : goal.pay_all_by_rule-requires-clause-can
pay_all_by_rule-requires-clause-can g c = can_be_settled (market_of c.self.inside.file) c.self.inside.journal.history
    (subst (λ (t : Trading _). None ≡ first_refusal t.market t.standing.history Settle) (sym c.self.view_is) c.requires.unrefused)

pub total-total-requires : goal.total-total-requires
total-total-requires g c =
    subst (λ (t : TillOf). paid_in_all t.payments < number_limit) (sym c.pay_all_by_rule.ensures)
    (payments_by_rule_fit c.self.inside.file.net c.self.inside.journal.history c.self.inside.file.points_per_bit
    c.self.invariant.safe.bounded.within c.self.invariant.safe.legal.few_points)

pub returns-clause-total : goal.returns-clause-total
returns-clause-total g c =
    rw (← c.self.view_is) (c.total-total.ensures ∙ ap (λ (t : TillOf). paid_in_all t.payments) c.pay_all_by_rule.ensures)
