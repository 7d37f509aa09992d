use Rattle.std.proofs.Common.{ℕ, inl, inr, List, Option, Some, None, refl, sym, ap, ◌∙◌, subst, arith}
use Rattle.arrayvec.specs.ArrayVec.{ArrayVec}
use Rattle.mk_exact.specs.Examples.{die, deposited_one}
use Rattle.mk_spread.specs.Bounds.{Intervals, InsideEach}
use Rattle.mk_spread.specs.Markets.{AreRightBoundsOf, IsFairList}
use Rattle.mk_spread.specs.Examples.{every_face}
use Rattle.mk_reply.specs.Refusals.{given_in}
use Rattle.mk_reply.specs.declared.refusal.Refusal.{Refusal}
use Rattle.mk_reply.specs.declared.refusal.Refusal.TheVariants.{Outside}
use Rattle.mk_reply.specs.declared.reply.Reply.{Reply}
use Rattle.mk_reply.specs.declared.reply.Reply.TheVariants.{Bounded, Refused}
use Rattle.mk_rules.specs.Answers.{IsSpreadTrade, IsOutside, IsSpreadJudged, IsSpreadJudgedAfresh, IsBounds}
use Rattle.mk_rules.specs.SpreadExamples.{given, die_bounds, wider_bounds, inside_shares, outside_shares, die_factors, spreaded, outside}
use Rattle.mk_rules.proofs.examples.example_spreads.Goals as goal

is_inside : InsideEach (Some die_bounds) inside_shares
is_inside = ((omega arith, omega arith), ((omega arith, omega arith), ((omega arith, omega arith), tt)))

not_inside : InsideEach (Some die_bounds) outside_shares → ⊥
not_inside inside = omega (arith, inside.0.0)

-- the bounds of a reply
of_refusal : Refusal → Intervals
of_refusal (Outside box) = given_in box
of_refusal _ = None

said : Reply → Intervals
said (Bounded box at) = given_in box
said (Refused why) = of_refusal why
said _ = None

right_of : (box : Option (ArrayVec (ℕ × ℕ))) → IsBounds die deposited_one 0 every_face (Bounded box 2) → AreRightBoundsOf die deposited_one 0 every_face (given_in box)
unfolding said
right_of box h = subst (AreRightBoundsOf die deposited_one 0 every_face) (sym (ap said h.printed)) h.right

-- bounds that a spread is outside of afresh are right
judged_right : (box : Option (ArrayVec (ℕ × ℕ))) (Xs : List ℕ) → IsSpreadJudgedAfresh die deposited_one 0 every_face Xs (Refused (Outside box)) → AreRightBoundsOf die deposited_one 0 every_face (given_in box)
unfolding said of_refusal
judged_right box Xs (inl trade) = let e = trade.printed in cc
judged_right box Xs (inr h) =
    subst (AreRightBoundsOf die deposited_one 0 every_face) (sym (ap said h.outside.printed ∙ h.outside.given)) h.right

is_outside : IsOutside (Some die_bounds) outside_shares (outside die_bounds)
is_outside = record { outside = not_inside; box = given die_bounds; given = refl; printed = refl }

traded : IsFairList die deposited_one 0 every_face inside_shares die_factors → IsSpreadTrade die deposited_one 0 every_face inside_shares (spreaded die_factors 3)
traded fair = record { factors = record { items = die_factors }; printed = refl; fair = fair }

abbrev Judged : List ℕ → Reply → Type 0
Judged Xs reply = IsSpreadJudged die deposited_one 0 every_face Xs (Some die_bounds) reply

-- by bounds that were quoted
not_now : Judged inside_shares (spreaded die_factors 2) → ⊥
not_now (inl h) = let e = h.1.printed in cc
not_now (inr h) = let e = h.printed in cc

not_outside : Judged inside_shares (outside die_bounds) → ⊥
not_outside (inl h) = let e = h.1.printed in cc
not_outside (inr h) = absurd (h.outside is_inside)

not_spreaded : (factors : List ℕ) → Judged outside_shares (spreaded factors 3) → ⊥
not_spreaded factors (inl h) = absurd (not_inside h.0)
not_spreaded factors (inr h) = let e = h.printed in cc

pub returns : goal.returns
returns c =
    let faces = c.example_bounds.ensures in
    record {
      bounds = record { box = given die_bounds; printed = refl; right = faces.right };
      not_wider = λ h. faces.too_wide (right_of (given wider_bounds) h);
      not_none = λ h. faces.not_none (right_of None h);
      quoted = refl;
      spread = inl (is_inside, traded faces.fair);
      appended = refl;
      not_now = not_now;
      not_outside = not_outside;
      beyond = inr is_outside;
      not_inside = not_spreaded;
      afresh = inl (traded faces.fair);
      beyond_afresh = inr (record { intervals = Some die_bounds; right = faces.right; outside = is_outside });
      quoted_by_refusal = refl;
      not_wider_afresh = λ h. faces.too_wide (judged_right (given wider_bounds) outside_shares h);
    }
