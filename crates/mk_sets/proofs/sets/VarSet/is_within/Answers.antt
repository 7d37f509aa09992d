use Rattle.std.proofs.Common.{◌≡◌, bit_and, rules}
use Rattle.mk_sets.proofs.Bits.{subset_of_parts, part_low, part_high}
use Rattle.mk_sets.proofs.Members.{subset_said, subset_kept}
use Rattle.mk_sets.proofs.sets.VarSet.is_within.Goals as goal

pub returns-then-self-other : goal.returns-then-self-other
returns-then-self-other c =
    let a = c.self.inside in
    let b = c.other.inside in
    let low : bit_and a.low b.low ≡ a.low = search rules in (
      λ t. subset_said a c.args.self.now c.self.view_is c.self.invariant b c.args.other.now c.other.view_is c.other.invariant
          (subset_of_parts a b low (search rules)),
      λ subset. search (
        rules,
        part_high a b
            (subset_kept a c.args.self.now c.self.view_is c.self.invariant b c.args.other.now c.other.view_is c.other.invariant subset),
      ),
    )

pub returns-else-self-other : goal.returns-else-self-other
returns-else-self-other c =
    let a = c.self.inside in
    let b = c.other.inside in (
      λ t. absurd (search rules),
      λ subset. search (
        rules,
        part_low a b c.self.invariant.low_fits
            (subset_kept a c.args.self.now c.self.view_is c.self.invariant b c.args.other.now c.other.view_is c.other.invariant subset),
      ),
    )
