use Rattle.std.proofs.Common.{◌*◌, ◌+◌, ◌^◌, ◌<◌, arith}
use Rattle.mk_judge.specs.inner.Solvency.{AreLeast, AreTooMany}
use Rattle.mk_judge.proofs.Trading.{too_many, same_least, other_few, least_near}
use Rattle.mk_judge.proofs.least.least_between.Goals as goal

pub returns-in_default-None-clause-least : goal.returns-in_default-None-clause-least
returns-in_default-None-clause-least c g z w holds beside =
    let gain = c.args.gain.now in
    let many : AreTooMany c.args.scale.now c.hi.result = rw c.in_default-None.is-1 at c.least_units-2.ensures in
    too_many c.args.scale.now g z w gain.lo gain.hi beside holds.lower holds.upper (rw c.hi.ensures.value at many)

pub returns-in-None-Some-clause-least : goal.returns-in-None-Some-clause-least
returns-in-None-Some-clause-least c g z w holds beside =
    let gain = c.args.gain.now in
    let scale = c.args.scale.now in
    let b = c.in-None-Some.field-0-1 in
    let many : AreTooMany scale gain.lo = rw c.lo.ensures.value at c.in-None-Some.ensures' in
    let least : AreLeast scale gain.hi b = rw c.hi.ensures.value at c.in-None-Some.ensures in
    let few = many b least.fits in (
      λ exact. let e = least.enough in let f : b * gain.hi * 2 ^ scale.gained < 2 ^ (40 + scale.owed) = rw exact.same at few in omega (arith, e, f),
      λ n is h graded. least_near scale g z w gain.lo gain.hi beside holds.lower holds.upper b n h few least is graded.near,
    )

pub returns-then-least-most-clause-least : goal.returns-then-least-most-clause-least
returns-then-least-most-clause-least c g z w holds beside =
    let gain = c.args.gain.now in
    let scale = c.args.scale.now in
    let low : AreLeast scale gain.lo c.in-Some-Some.most = rw c.lo.ensures.value at c.in-Some-Some.ensures' in
    let high : AreLeast scale gain.hi c.in-Some-Some.least = rw c.hi.ensures.value at c.in-Some-Some.ensures in
    same_least scale g z w gain.lo gain.hi beside holds.lower holds.upper c.in-Some-Some.least (rw c.if-least-most.true low) high

pub returns-else-least-most-clause-least : goal.returns-else-least-most-clause-least
returns-else-least-most-clause-least c g z w holds beside =
    let gain = c.args.gain.now in
    let scale = c.args.scale.now in
    let a = c.in-Some-Some.most in
    let b = c.in-Some-Some.least in
    let low : AreLeast scale gain.lo a = rw c.lo.ensures.value at c.in-Some-Some.ensures' in
    let high : AreLeast scale gain.hi b = rw c.hi.ensures.value at c.in-Some-Some.ensures in
    let few = other_few scale g z w gain.lo gain.hi beside holds.lower holds.upper a b c.if-least-most.false low high gain.ordered in (
      λ exact. let e = high.enough in let f : b * gain.hi * 2 ^ scale.gained < 2 ^ (40 + scale.owed) = rw exact.same at few in omega (arith, e, f),
      λ n is h graded. least_near scale g z w gain.lo gain.hi beside holds.lower holds.upper b n h few high is graded.near,
    )
