use Rattle.std.proofs.Common.{◌≤◌, sym, ◌∙◌, subst}
use Rattle.std.specs.Prelude.{All}
use Rattle.mk_net.specs.Bounds.{million}
use Rattle.mk_file.specs.MarketOf.{market_of}
use Rattle.mk_admission.proofs.AddedRows.{rows_are_small}
use Rattle.mk_admission.proofs.refusing_rows.has_rows.Goals as goal

pub rows_are_whole-requires : goal.rows_are_whole-requires
rows_are_whole-requires c =
    subst (All (All (λ n. n ≤ million))) (c.as_slice.ensures.value ∙ sym c.as_slice-2.ensures.value)
    (rows_are_small (market_of c.args.file.now) c.as_slice.result.now c.in_ok-rows_in_range.ensures)
