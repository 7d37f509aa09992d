use Rattle.std.proofs.Common.{◌≡◌, Bool, get_or, ap, ◌∙◌, arith}
use Rattle.mk_net.specs.Firsts.{fault_if}
use Rattle.mk_reply.specs.declared.refusal.Refusal.TheVariants.{Range}
use Rattle.mk_record.proofs.Refusing.{error_kept}
use Rattle.mk_record.proofs.SpreadRefusals.{is_beyond, below_least, from_least, ranges_passed, ranges_failed, ranges_ended}
use Rattle.mk_record.proofs.refusing_spreads.all_in_range.Goals as goal
use Rattle.mk_record.proofs.refusing_spreads.all_in_range.Goals.{then-number-least, else-number-least}

pub returns-in_err-refuse_if : goal.returns-in_err-refuse_if
returns-in_err-refuse_if c =
    let least = c.args.least in let most = c.args.most in let n = get_or c.args.numbers.now c.loop-number.number-index 0 in
    let tested : c.if-number-least.refuse_if ≡ is_beyond least most n
    = elim c.if-number-least.branch [
      | then-number-least w ↦ w.refuse_if-is ∙ below_least least most n (omega (arith, w.if-number-least))
      | else-number-least w ↦ w.refuse_if-is ∙ from_least least most n (omega (arith, w.if-number-least))
    ] in
    error_kept c.from_residual.result c.in_err-refuse_if.field-0.0 c.from_residual.ensures.1
    ∙ ranges_failed least most c.args.numbers.now c.loop-number.number-index (omega arith) c.loop-number.invariant c.in_err-refuse_if.field-0.0
    (c.in_err-refuse_if.ensures ∙ ap (λ (b : Bool). fault_if b (Range n)) tested)

pub loop-number-preserved : goal.loop-number-preserved
loop-number-preserved c =
    let least = c.args.least in let most = c.args.most in let n = get_or c.args.numbers.now c.loop-number.number-index 0 in
    let tested : c.if-number-least.refuse_if ≡ is_beyond least most n
    = elim c.if-number-least.branch [
      | then-number-least w ↦ w.refuse_if-is ∙ below_least least most n (omega (arith, w.if-number-least))
      | else-number-least w ↦ w.refuse_if-is ∙ from_least least most n (omega (arith, w.if-number-least))
    ] in
    ranges_passed least most c.args.numbers.now c.loop-number.number-index (omega arith) c.loop-number.invariant
    (c.in_ok-refuse_if.ensures ∙ ap (λ (b : Bool). fault_if b (Range n)) tested)

pub returns : goal.returns
returns c = ranges_ended c.args.least c.args.most c.args.numbers.now c.loop-number.number-index (omega arith) c.loop-number.invariant
