use Rattle.std.proofs.Common.{◌∙◌, rules}
use Rattle.mk_sets.proofs.Bits.{first_low, first_high, empty_words}
use Rattle.mk_sets.proofs.Members.{said}
use Rattle.mk_sets.proofs.sets.VarSet.first.Goals as goal

pub returns-then-self-ne0-clause-member : goal.returns-then-self-ne0-clause-member
returns-then-self-ne0-clause-member c = said c.self.inside c.args.self.now c.self.view_is c.self.invariant _
    ∙ (first_low c.self.inside c.self.invariant.low_fits c.if-self-ne0.true).member

pub returns-then-self-ne0-clause-least : goal.returns-then-self-ne0-clause-least
returns-then-self-ne0-clause-least c y before = said c.self.inside c.args.self.now c.self.view_is c.self.invariant y
    ∙ (first_low c.self.inside c.self.invariant.low_fits c.if-self-ne0.true).least y before

pub returns-then-self-ne0-2-clause-member : goal.returns-then-self-ne0-2-clause-member
returns-then-self-ne0-2-clause-member c = said c.self.inside c.args.self.now c.self.view_is c.self.invariant _
    ∙ (first_high c.self.inside c.self.invariant.high_fits c.if-self-ne0.false c.if-self-ne0-2.true).member

pub returns-then-self-ne0-2-clause-least : goal.returns-then-self-ne0-2-clause-least
returns-then-self-ne0-2-clause-least c y before = said c.self.inside c.args.self.now c.self.view_is c.self.invariant y
    ∙ (first_high c.self.inside c.self.invariant.high_fits c.if-self-ne0.false c.if-self-ne0-2.true).least y before

pub returns-else-self-ne0-2-clause-none : goal.returns-else-self-ne0-2-clause-none
returns-else-self-ne0-2-clause-none c x = said c.self.inside c.args.self.now c.self.view_is c.self.invariant x
    ∙ empty_words c.self.inside (search rules) (search rules) x
