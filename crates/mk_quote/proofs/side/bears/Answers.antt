use Rattle.std.proofs.Common.{◌≡◌, ◌*◌, ◌^◌, ◌≤◌, leb-true, le-leb}
use Rattle.std.proofs.lemmas.Bool.{false≢true}
use Rattle.mk_enclose.specs.Enclosure.{lower_of}
use Rattle.mk_quote.proofs.Bearing.{reached, reaches_within, none_reaches}
use Rattle.mk_quote.proofs.side.bears.Goals as goal

pub returns-then-product-eq0 : goal.returns-then-product-eq0
returns-then-product-eq0 c =
    let p : 1 ≤ c.mantissa.result = rw c.mantissa.ensures.value c.mantissa.ensures.stored.form.positive in
    (λ t. absurd (false≢true t), λ b. absurd (none_reaches c.args.ratio _ c.mantissa.result _ _ c.if-product-eq0.true p b.bears))

pub returns : goal.returns
returns c =
    let f = c.args.factor.now in
    let written : lower_of f.gain ≡ c.mantissa.result * 2 ^ c.exponent.result =
    rw (← c.lo-gain.ensures.value, c.mantissa.ensures.value, c.exponent.ensures.value) c.mantissa.ensures.stored.written in
    let i = c.paid_in.ensures.value in
    let o = c.taken_out.ensures.value in (
      λ t. record { bears = rw (← i, ← o) (reached c.args.ratio (lower_of f.gain) c.mantissa.result c.exponent.result c.ilog2.result c.paid_in.result _ written c.ilog2.ensures.power_le (leb-true _ _ t)) },
      λ b. le-leb _ _ (reaches_within c.args.ratio (lower_of f.gain) c.mantissa.result c.exponent.result c.ilog2.result c.paid_in.result _ written c.ilog2.ensures.next_power_gt (rw (i, o) b.bears)),
    )
