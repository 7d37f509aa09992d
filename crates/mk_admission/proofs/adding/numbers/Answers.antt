use Rattle.std.proofs.Common.{ℕ, ◌+◌, sym, ap, ◌∙◌, subst, arith}
use Rattle.arrayvec.specs.ArrayVec.{ArrayVec}
use Rattle.mk_admission.proofs.Numbered.{AreNumbersTo, number_is, number_taken, number_passed}
use Rattle.mk_admission.proofs.adding.numbers.Goals as goal
use Rattle.mk_admission.proofs.adding.numbers.Goals.{in-Some, in_default}

pub loop-name-preserved : goal.loop-name-preserved
loop-name-preserved g c =
    let net = c.args.net.now in let names = c.as_slice-name-items.result.now in
    let k = c.loop-name.name-index in let name = c.name-item.result in
    let before = c.loop-name.numbers.items in
    let number = number_is net name c.find_variable.result c.find_variable.ensures.first in
    elim c.match-find_variable.branch [
      | in-Some w ↦ subst (AreNumbersTo net names (k + 1))
          (sym (ap (λ (v : ArrayVec ℕ). v.items) w.numbers-is ∙ w.push.ensures.items))
          (number_taken net names k name before (omega arith) c.name-item.is
          c.loop-name.invariant w.in-Some.number (number ∙ w.in-Some.is))
      | in_default w ↦ subst (AreNumbersTo net names (k + 1))
          (sym (ap (λ (v : ArrayVec ℕ). v.items) w.numbers-is))
          (number_passed net names k name before (omega arith) c.name-item.is
          c.loop-name.invariant (number ∙ w.in_default.is))
    ]
