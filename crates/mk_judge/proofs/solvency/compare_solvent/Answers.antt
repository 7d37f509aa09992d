use Rattle.std.proofs.Common.{rules, ◌+◌, ◌*◌, ◌^◌, ◌<◌, ◌≤◌, arith, le_trans, lt_of_le_of_lt}
use Rattle.std.proofs.Math.Nat.{mul-le-mul_left, mul-le-mul_right}
use Rattle.mk_judge.specs.inner.Solvency.{AreEnough}
use Rattle.mk_judge.proofs.Solving.{enough_solvent, too_few_insolvent, units_near}
use Rattle.mk_judge.proofs.solvency.compare_solvent.Goals as goal

pub returns-then-are_enough : goal.returns-then-are_enough
returns-then-are_enough c g z w holds beside =
    let scale = c.args.scale.now in
    let enough : AreEnough scale c.args.gain.now.lo c.args.units = search rules in
    enough_solvent scale g z w c.args.units beside (le_trans enough (mul-le-mul_right (2 ^ scale.gained) (mul-le-mul_left c.args.units holds.lower)))

pub returns-then-are_enough-2 : goal.returns-then-are_enough-2
returns-then-are_enough-2 c g z w holds beside =
    let scale = c.args.scale.now in
    let gain = c.args.gain.now in
    let few : c.args.units * gain.lo * 2 ^ scale.gained < 2 ^ (40 + scale.owed) = search rules in
    let enough : AreEnough scale gain.hi c.args.units = search rules in (
      λ exact. let e : 2 ^ (40 + scale.owed) ≤ c.args.units * gain.lo * 2 ^ scale.gained = rw exact.same enough in omega (arith, e, few),
      λ h graded. units_near scale g z w c.args.units beside gain.lo gain.hi h holds.lower holds.upper graded.near few enough,
    )

pub returns-else-are_enough-2 : goal.returns-else-are_enough-2
returns-else-are_enough-2 c g z w holds beside =
    let scale = c.args.scale.now in
    let few : c.args.units * c.args.gain.now.hi * 2 ^ scale.gained < 2 ^ (40 + scale.owed) = search rules in
    too_few_insolvent scale g z w c.args.units beside (lt_of_le_of_lt (mul-le-mul_right (2 ^ scale.gained) (mul-le-mul_left c.args.units holds.upper)) few)
