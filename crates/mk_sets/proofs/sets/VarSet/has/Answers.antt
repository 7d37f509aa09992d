use Rattle.std.proofs.Common.{◌≡◌, ◌-◌, ℕ, ◌==◌, nat_lt, false, rules, arith, sym, ap, ◌∙◌}
use Rattle.std.proofs.lemmas.Nat.Bits.{shr_and_one}
use Rattle.mk_sets.specs.inner.KeptSets.{kept_low, kept_high, no_bit_above}
use Rattle.mk_sets.proofs.Members.{said}
use Rattle.mk_sets.proofs.sets.VarSet.has.Goals as goal

pub returns-then-variable-lt128 : goal.returns-then-variable-lt128
returns-then-variable-lt128 c =
    ap (λ (n : ℕ). n == 1) (shr_and_one c.self.inside.low c.args.variable)
    ∙ sym (said c.self.inside c.args.self.now c.self.view_is c.self.invariant c.args.variable
    ∙ kept_low c.self.inside c.args.variable (search (rules, arith)))

pub returns-then-variable-lt256 : goal.returns-then-variable-lt256
returns-then-variable-lt256 c =
    ap (λ (n : ℕ). n == 1) (shr_and_one c.self.inside.high (c.args.variable - 128))
    ∙ sym (said c.self.inside c.args.self.now c.self.view_is c.self.invariant c.args.variable
    ∙ kept_high c.self.inside c.args.variable (search (rules, arith)))

pub returns-else-variable-lt256 : goal.returns-else-variable-lt256
returns-else-variable-lt256 c =
    let past : nat_lt c.args.variable 256 ≡ false = search rules in
    past ∙ sym (said c.self.inside c.args.self.now c.self.view_is c.self.invariant c.args.variable
    ∙ kept_high c.self.inside c.args.variable (search (rules, arith))
    ∙ no_bit_above c.self.inside.high (c.args.variable - 128) c.self.invariant.high_fits (search (rules, arith)))
