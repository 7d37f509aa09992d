use Rattle.std.proofs.Common.{◌∙◌, ◌-◌, ◌∷◌, []}
use Rattle.mk_net.specs.Bounds.{million}
use Rattle.mk_file.specs.MarketOf.{market_of}
use Rattle.mk_rules.specs.Refusals.{numbers, ranges, least_share, sums}
use Rattle.mk_record.proofs.Refusing.{error_kept, applies}
use Rattle.mk_record.proofs.SpreadRefusals.{sum_fits}
use Rattle.mk_record.proofs.refusing_spreads.is_distribution.Goals as goal

pub is_million-requires : goal.is_million-requires
is_million-requires c = sum_fits _ c.args.to.now c.requires.few c.in_ok-all_in_range.ensures

pub returns-in_err-one_for_each : goal.returns-in_err-one_for_each
returns-in_err-one_for_each c name v named =
    error_kept c.from_residual.result c.in_err-one_for_each.field-0.0 c.from_residual.ensures.1 ∙ applies (numbers c.args.file.now.net name c.args.to.now) (ranges (least_share (market_of c.args.file.now)) (million - 1) c.args.to.now ∷ sums c.args.to.now ∷ [])
    c.in_err-one_for_each.field-0.0 (c.in_err-one_for_each.ensures name v named)
