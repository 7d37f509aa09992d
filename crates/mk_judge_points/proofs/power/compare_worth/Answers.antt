use Rattle.std.proofs.Common.{◌≡◌, ◌+◌, ◌*◌, ◌^◌, ap, arith}
use Rattle.std.proofs.lemmas.Nat.{pow-add, pow_pos}
use Rattle.mk_judge_points.proofs.Lifting.{says_beside}
use Rattle.mk_judge_points.proofs.power.compare_worth.Goals as goal

pub returns : goal.returns
returns c = λ l g z w left worth beside.
    let scale = c.args.scale.now in
    let bits : 2 ^ (c.args.bits + scale.owed) ≡ 2 ^ c.args.bits * 2 ^ scale.owed = pow-add 2 c.args.bits scale.owed in
    let more : 2 ^ (c.args.more + scale.gained) ≡ 2 ^ c.args.more * 2 ^ scale.gained = pow-add 2 c.args.more scale.gained in
    let same : z * 2 ^ scale.owed * 2 ^ c.args.more ≡ g * 2 ^ scale.gained * w * 2 ^ c.args.more = ap (λ k. k * 2 ^ c.args.more) beside.same in
    says_beside c.compare_lifted.result c.args.left.now c.args.worth.now (l * 2 ^ (c.args.bits + scale.owed)) (g * 2 ^ (c.args.more + scale.gained))
    (l * 2 ^ c.args.bits * w) (z * 2 ^ c.args.more) w (2 ^ scale.owed) beside.positive (pow_pos scale.owed)
    (rw bits (omega arith)) (rw more (omega (arith, same)))
    (c.compare_lifted.ensures l g left worth)
