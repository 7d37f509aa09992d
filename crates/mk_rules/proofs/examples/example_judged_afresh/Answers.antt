use Rattle.std.proofs.Common.{◌≡◌, ℕ, inl, inr, Some, None, refl, sym, ap, subst, arith}
use Rattle.mk_exact.specs.Limits.{Inside}
use Rattle.mk_exact.specs.Sides.{AreRightLimits}
use Rattle.mk_exact.specs.Examples.{coin, heads, deposited_one}
use Rattle.mk_reply.specs.declared.refusal.Refusal.{Refusal}
use Rattle.mk_reply.specs.declared.refusal.Refusal.TheVariants.{Beyond}
use Rattle.mk_reply.specs.declared.reply.Reply.{Reply}
use Rattle.mk_reply.specs.declared.reply.Reply.TheVariants.{Refused}
use Rattle.mk_rules.specs.Quotes.{Interval}
use Rattle.mk_rules.specs.Answers.{IsBeyondRight, IsJudgedAfresh}
use Rattle.mk_rules.proofs.examples.example_judged_afresh.Goals as goal

outside : Inside (Some (250000, 750000)) 750001 → ⊥
outside inside = omega (arith, inside.1)

limits_of : Refusal → Interval
limits_of (Beyond limits) = limits
limits_of _ = None

limits_in : Reply → Interval
limits_in (Refused why) = limits_of why
limits_in _ = None

-- limits that an edit is beyond are right, and it is outside of them
judged : (X : ℕ) (limits : Interval) → IsJudgedAfresh coin deposited_one 0 heads X (Refused (Beyond limits)) → AreRightLimits coin deposited_one 0 heads limits × (Inside limits X → ⊥)
unfolding limits_in limits_of
judged X limits (inl trade) = let e = trade.printed in cc
judged X limits (inr h) =
    let same : h.limits ≡ limits = sym (ap limits_in h.beyond.printed) in
    subst (λ (l : Interval). AreRightLimits coin deposited_one 0 heads l × (Inside l X → ⊥)) same (h.right, h.beyond.outside)

beyond : AreRightLimits coin deposited_one 0 heads (Some (250000, 750000)) → IsBeyondRight coin deposited_one 0 heads 750001 (Refused (Beyond (Some (250000, 750000))))
beyond right = record { limits = Some (250000, 750000); right = right; beyond = record { outside = outside; printed = refl } }

pub returns : goal.returns
returns c =
    let limits = c.example_limits.ensures in
    record {
      beyond = inr (beyond limits.right);
      quoted = refl;
      not_inside = λ h. (judged 600000 (Some (250000, 750000)) h).1 (omega arith, omega arith);
      not_wider = λ h. limits.too_wide (judged 750002 (Some (250000, 750001)) h).0;
      not_none = λ h. limits.not_none (judged 750001 None h).0;
    }
