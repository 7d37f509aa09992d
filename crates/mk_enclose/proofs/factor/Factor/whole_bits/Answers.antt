use Rattle.std.proofs.Common.{◌*◌}
use Rattle.mk_enclose.proofs.Bits.{whole_fits, whole_greatest}
use Rattle.mk_enclose.proofs.factor.Factor.whole_bits.Goals as goal

pub returns-clause-fits : goal.returns-clause-fits
returns-clause-fits c = λ p.
    record {
      fit = rw (← c.paid_in.ensures.value, ← c.taken_out.ensures.value)
          (whole_fits _ c.log2_of.result _ _ (40 * c.args.self.now.trades) _ c.log2_of.ensures.below c.saturating_sub.ensures p);
    }

pub returns-clause-greatest : goal.returns-clause-greatest
returns-clause-greatest c = λ k h.
    whole_greatest _ c.log2_of.result _ _ (40 * c.args.self.now.trades) _ k c.log2_of.ensures.greatest c.saturating_sub.ensures
    (rw (c.paid_in.ensures.value, c.taken_out.ensures.value) h.fit)
