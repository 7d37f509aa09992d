use Rattle.std.proofs.Common.{◌∙◌}
use Rattle.mk_file.specs.MarketOf.{market_of}
use Rattle.mk_record.proofs.Refusing.{error_kept}
use Rattle.mk_admission.proofs.AddRefusals.{badly_named, badly_placed, badly_shared}
use Rattle.mk_admission.proofs.refusing_additions.refuse_add.Goals as goal

pub returns-in_err-can_be_named : goal.returns-in_err-can_be_named
returns-in_err-can_be_named c =
    record {
      refusal =
          error_kept c.from_residual-in_err-can_be_named.result c.in_err-can_be_named.field-0.0
          c.from_residual-in_err-can_be_named.ensures.1
          ∙ badly_named (market_of c.args.file.now) c.args.journal.now.history c.args.add.now
          c.in_err-can_be_named.field-0.0 c.in_ok-not_settled.ensures c.in_err-can_be_named.ensures;
    }

pub returns-in_err-can_be_placed : goal.returns-in_err-can_be_placed
returns-in_err-can_be_placed c =
    record {
      refusal =
          error_kept c.from_residual-in_err-can_be_placed.result c.in_err-can_be_placed.field-0.0
          c.from_residual-in_err-can_be_placed.ensures.1
          ∙ badly_placed (market_of c.args.file.now) c.args.journal.now.history c.args.add.now
          c.in_err-can_be_placed.field-0.0 c.in_ok-not_settled.ensures c.in_ok-can_be_named.ensures
          c.in_err-can_be_placed.ensures;
    }

pub returns-in_err-has_rows : goal.returns-in_err-has_rows
returns-in_err-has_rows c =
    record {
      refusal =
          error_kept c.from_residual-in_err-has_rows.result c.in_err-has_rows.field-0.0
          c.from_residual-in_err-has_rows.ensures.1
          ∙ badly_shared (market_of c.args.file.now) c.args.journal.now.history c.args.add.now
          c.in_err-has_rows.field-0.0 c.in_ok-not_settled.ensures c.in_ok-can_be_named.ensures
          c.in_ok-can_be_placed.ensures c.in_err-has_rows.ensures;
    }
