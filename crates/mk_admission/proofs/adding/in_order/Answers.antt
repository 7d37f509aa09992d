use Rattle.std.proofs.Common.{ℕ, ◌+◌, length, sym, ap, ◌∙◌, subst, arith}
use Rattle.arrayvec.specs.ArrayVec.{ArrayVec}
use Rattle.mk_admission.proofs.Numbered.{AreMembersTo, member_taken, member_passed}
use Rattle.mk_admission.proofs.adding.in_order.Goals as goal
use Rattle.mk_admission.proofs.adding.in_order.Goals.{then-has, else-has}

pub loop-variable-preserved : goal.loop-variable-preserved
loop-variable-preserved c =
    let n = length c.args.net.now in let set = c.args.set.now in
    let i = c.loop-variable.variable in let found = c.loop-variable.variables.items in
    elim c.if-has.branch [
      | then-has w ↦ subst (AreMembersTo n set (i + 1))
          (sym (ap (λ (v : ArrayVec ℕ). v.items) w.variables-is ∙ w.push.ensures.items))
          (member_taken n set i found (omega arith) c.loop-variable.invariant
          (sym c.has.ensures ∙ w.if-has.true))
      | else-has w ↦ subst (AreMembersTo n set (i + 1))
          (sym (ap (λ (v : ArrayVec ℕ). v.items) w.variables-is))
          (member_passed n set i found (omega arith) c.loop-variable.invariant
          (sym c.has.ensures ∙ w.if-has.false))
    ]
