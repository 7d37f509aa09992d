-- Judgements of limits and of trades, by bounds of both sides.
use Rattle.std.proofs.Common.{◌≡◌, ℕ, ◌+◌, ◌-◌, ◌⊎◌, inl, inr, Bool, true, false, IsTrue, List}
use Rattle.std.proofs.Common.{Option, Some, None, ◌↔◌, refl, sym, ap, subst, ◌∙◌}
use Rattle.mk_net.specs.Bounds.{million}
use Rattle.mk_net.specs.declared.words.QuestionText.{QuestionText}
use Rattle.mk_net.specs.Asked.{Asked}
use Rattle.mk_exact.specs.History.{Entry, revision}
use Rattle.mk_exact.specs.Factors.{HoldsNoTrade}
use Rattle.mk_exact.specs.Limits.{Side, IsFairAndSolvent, Inside, AreRight}
use Rattle.mk_exact.specs.Market.{Market}
use Rattle.mk_exact.specs.Sides.{AreSides, AreRightLimits}
use Rattle.mk_states.specs.Events.{with_target, without_target}
use Rattle.mk_net.specs.Network.{Variable}
use Rattle.mk_exact.specs.Weight.{IsSmall}
use Rattle.mk_quote.specs.declared.bounds.Bounds.{Bounds}
use Rattle.mk_quote.specs.declared.side.SideBounds.{SideBounds}
use Rattle.mk_quote.specs.Bounds.{hit_side, miss_side}
use Rattle.mk_reply.specs.declared.refusal.Refusal.TheVariants.{Beyond}
use Rattle.mk_reply.specs.declared.reply.Reply.{Reply}
use Rattle.mk_reply.specs.declared.reply.Reply.TheVariants as reply
use Rattle.mk_rules.specs.Refusals.{user_number}
use Rattle.mk_rules.specs.Quotes.{Interval}
use Rattle.mk_rules.proofs.OneKind.{one_side}
use Rattle.mk_rules.specs.Answers.{IsTrade, IsBeyond, IsBeyondRight, IsJudged, IsJudgedAfresh, IsLimits}
use Rattle.mk_judge.specs.declared.judged.Judged.{Judged}
use Rattle.mk_judge.specs.declared.judged.Judged.TheVariants.{Allowed, Wrong, Unclear}
use Rattle.mk_judge.specs.Judged.{Judges, both}
use Rattle.mk_judge.specs.Units.{AreSideBounds, AreUnitsNear}
use Rattle.mk_judge.specs.Questions.{AreTwoSides, AreLimitsNear}
use Rattle.mk_judge.proofs.Judging.{judges_as, judges_both}
use Rattle.mk_answers.specs.Evidence.{AreBoundsOfSide}
use Rattle.mk_evidence.specs.Grades.{evidence_grade}
use Rattle.mk_judge_quotes.specs.Clear.{IsTradeOpen, AreLimitsOpen, AreUnitsOpen, near_steps}
use Rattle.mk_judge_quotes.specs.Small.{TellsSmall}
use Rattle.mk_judge_quotes.specs.Editing.{AreEditBounds, AreLimitsLeftOpen, IsEditLeftOpen}
use Rattle.mk_judge_quotes.specs.inner.Editing.{IsTradeLeftOpen}
use Rattle.mk_judge_quotes.specs.Told.{beyond_told}
use Rattle.mk_judge_quotes.proofs.Verdicts.{judges_by, judges_inside, judges_beyond, judges_alone}
use Rattle.mk_judge_quotes.proofs.Nearer.{grade_room}
use Rattle.mk_judge_quotes.proofs.EditingNear.{units_open, limits_open}

-- ---- the small case, by the flag or by the history

-- what is not told to be small is not
pub not_told : (small : Bool) (S : Type 0) → (small ≡ true) ↔ S → small ≡ false → ¬ S
not_told small S tells large is = let no : false ≡ true = sym large ∙ tells.1 is in cc

pub fair_for : (small large : Type 0) (side : Side) (X F : ℕ) → (large → small) → IsFairAndSolvent small side X F → IsFairAndSolvent large side X F
fair_for small large side X F to h = record {
  fair = record { positive = h.fair.positive; fits = h.fair.fits; not_above = h.fair.not_above; close = h.fair.close; floor = λ s. h.fair.floor (to s) };
  solvent = h.solvent;
}

right_for : (small large : Type 0) (hit miss : Side) (limits : Interval) → (large → small) → AreRight small hit miss limits → AreRight large hit miss limits
right_for small large hit miss limits to h = record {
  in_range = h.in_range;
  sound = λ X inside. let found = h.sound X inside in
      (found.0, found.1, fair_for small large hit X found.0 to found.2, fair_for small large miss (million - X) found.1 to found.3);
  near_complete = h.near_complete;
  exact = λ s. h.exact (to s);
}

-- ---- limits

-- what the judge of limits says
pub record JudgesLimits (j : Judged) (bounds : Bounds) (small : Bool) (limits : Interval) : Type 0 where
  pub allowed : j ≡ Allowed → (hit miss : Side) → AreTwoSides bounds small hit miss → AreRight (IsTrue small) hit miss limits
  pub wrong : j ≡ Wrong → (hit miss : Side) → AreTwoSides bounds small hit miss → AreRight (IsTrue small) hit miss limits → ⊥
  pub unclear : j ≡ Unclear → (hit miss : Side) → AreTwoSides bounds small hit miss → AreLimitsNear bounds hit miss limits
  pub clear : j ≡ Unclear → small ≡ false

-- what the judge of units says of one side
pub record JudgesUnits (j : Judged) (of : SideBounds) (small : Bool) (X F : ℕ) : Type 0 where
  pub allowed : j ≡ Allowed → (side : Side) → AreSideBounds of small side → IsFairAndSolvent (IsTrue small) side X F
  pub wrong : j ≡ Wrong → (side : Side) → AreSideBounds of small side → IsFairAndSolvent (IsTrue small) side X F → ⊥
  pub unclear : j ≡ Unclear → (side : Side) → AreSideBounds of small side → AreUnitsNear of small side F X

-- units of one side
pub units_judged : (market : Market) (H : List Entry) (u : ℕ) (of : SideBounds) (small : Bool) (side : Side) (X F : ℕ) (j : Judged) → TellsSmall small market H
    → AreBoundsOfSide (evidence_grade market H) market.network H u of side
    → JudgesUnits j of small X F
    → Judges j (IsFairAndSolvent (IsSmall market.network H) side X F)
    ((¬ IsSmall market.network H) × AreUnitsOpen (near_steps market H)
    (HoldsNoTrade H u) side X F)
units_judged market H u of small side X F j tells its says =
    let are = its.bounds_of small tells.0 in
    judges_by j _ _
    (λ e. fair_for (IsTrue small) _ side X F tells.1 (says.allowed e side are))
    (λ e h. says.wrong e side are (fair_for _ (IsTrue small) side X F tells.0 h))
    (λ e. let near = says.unclear e side are in (
      not_told small _ tells near.large,
      units_open (evidence_grade market H) (grade_room market H)
          market.network H u of side its small F X near,
    ))

-- a trade's units are fair on both sides
fair_units : (network : List Variable) (H : List Entry) (u : ℕ) (asked : Asked) (X hit miss at : ℕ) (a b : Side) → AreSides network H u asked a b
    → IsTrade network H u asked X (reply.Traded hit miss at)
    → IsFairAndSolvent (IsSmall network H) a X hit × IsFairAndSolvent (IsSmall network H) b (million - X) miss
fair_units network H u asked X hit miss at a b sides trade =
    let of_hit : trade.hit ≡ hit = cc (trade.printed) in
    let of_miss : trade.miss ≡ miss = cc (trade.printed) in
    let hit_is = one_side network H u asked (with_target asked) trade.fair.hit a trade.fair.sides.hit_side sides.hit_side in
    let miss_is = one_side network H u asked (without_target asked) trade.fair.miss b trade.fair.sides.miss_side sides.miss_side in (
      subst (λ (F : ℕ). IsFairAndSolvent (IsSmall network H) a X F) of_hit
          (subst (λ (side : Side). IsFairAndSolvent (IsSmall network H) side X trade.hit) hit_is trade.fair.hit_units),
      subst (λ (F : ℕ). IsFairAndSolvent (IsSmall network H) b (million - X) F) of_miss
          (subst (λ (side : Side). IsFairAndSolvent (IsSmall network H) side (million - X) trade.miss) miss_is trade.fair.miss_units),
    )

trade_open : (market : Market) (H : List Entry) (u : ℕ) (asked : Asked) (X hit miss : ℕ) (a b : Side) → AreSides market.network H u asked a b
    → ((¬ IsSmall market.network H) × AreUnitsOpen (near_steps market H)
    (HoldsNoTrade H u) a X hit)
    ⊎ ((¬ IsSmall market.network H) × AreUnitsOpen (near_steps market H) (HoldsNoTrade H u) b
    (million - X) miss)
    → IsTradeOpen market H u asked X hit miss
trade_open market H u asked X hit miss a b sides (inl of) = record { hit = a; miss = b; sides = sides; large = of.0; near = inl of.1 }
trade_open market H u asked X hit miss a b sides (inr of) = record { hit = a; miss = b; sides = sides; large = of.0; near = inr of.1 }

-- the refusal that tells limits
beyond_is : (told : Reply) (limits : Interval) → beyond_told told ≡ Some limits → told ≡ reply.Refused (Beyond limits)
beyond_is (reply.Refused (Beyond other)) limits h = let same : other ≡ limits = cc in ap (λ (l : Interval). reply.Refused (Beyond l)) same
beyond_is told limits h = cc

-- a trade that is left open
pub trade_left : (market : Market) (H : List Entry) (u : ℕ) (asked : Asked) (X : ℕ) (quoted : Option Interval) (told : Reply)
    → IsTradeLeftOpen market H u asked X told → IsEditLeftOpen market H u asked X quoted told
trade_left market H u asked X quoted (reply.Traded hit miss at) o = o
trade_left market H u asked X quoted told o = absurd o

module _ (market : Market) (H : List Entry) (name : List ℕ) (q : QuestionText) (bounds : Bounds) (small : Bool) (now : ℕ)
    (its : AreEditBounds market H name q bounds small now) where
  two_sides : (hit miss : Side) → AreSides market.network H (user_number H name) its.asked hit miss → AreTwoSides bounds small hit miss
  two_sides hit miss are = record {
    of_hit = (its.both.hit hit miss are).bounds_of small its.tells.0;
    of_miss = (its.both.miss hit miss are).bounds_of small its.tells.0;
  }

  pub limits_judged : (limits : Interval) (j : Judged) → JudgesLimits j bounds small limits
      → Judges j (AreRightLimits market.network H (user_number H name) its.asked limits) (AreLimitsOpen market H (user_number H name) its.asked limits)
  limits_judged limits j says = judges_by j _ _
      (λ e. record {
        hit = its.hit;
        miss = its.miss;
        sides = its.exist;
        right = right_for (IsTrue small) _ its.hit its.miss limits its.tells.1 (says.allowed e its.hit its.miss (two_sides its.hit its.miss its.exist));
      })
      (λ e h. says.wrong e h.hit h.miss (two_sides h.hit h.miss h.sides) (right_for _ (IsTrue small) h.hit h.miss limits its.tells.0 h.right))
      (λ e. record {
        hit = its.hit;
        miss = its.miss;
        sides = its.exist;
        large = not_told small _ its.tells (says.clear e);
        near = limits_open (evidence_grade market H) (grade_room market H) market.network H
            (user_number H name) bounds its.hit its.miss limits
            (its.both.hit its.hit its.miss its.exist) (its.both.miss its.hit its.miss its.exist)
            (says.unclear e its.hit its.miss (two_sides its.hit its.miss its.exist));
      })

  -- limits that are told
  pub told_limits : (limits : Interval) (at : ℕ) (j : Judged) → at ≡ now → JudgesLimits j bounds small limits
      → Judges j (IsLimits market.network H (user_number H name) its.asked (reply.Limits limits at))
      (AreLimitsLeftOpen market H (user_number H name) its.asked (reply.Limits limits at))
  told_limits limits at j same says = judges_as j _ _ _ _
      (λ right. record { limits = limits; printed = ap (λ (n : ℕ). reply.Limits limits n) (same ∙ its.present); right = right })
      (λ h. let e : h.limits ≡ limits = cc (h.printed) in subst (AreRightLimits market.network H (user_number H name) its.asked) e h.right)
      (λ o. o)
      (limits_judged limits j says)

  -- ---- trades

  -- ---- trades

  pub told_trade : (X hit miss at : ℕ) (j k : Judged) → at ≡ now + 1 → JudgesUnits j (hit_side bounds) small X hit → JudgesUnits k (miss_side bounds) small (million - X) miss
      → Judges (both j k) (IsTrade market.network H (user_number H name) its.asked X (reply.Traded hit miss at))
      (IsTradeLeftOpen market H (user_number H name) its.asked X (reply.Traded hit miss at))
  told_trade X hit miss at j k same says_hit says_miss = judges_as (both j k) _ _ _ _
      (λ fair. record {
        hit = hit;
        miss = miss;
        printed = ap (λ (n : ℕ). reply.Traded hit miss n) (same ∙ ap (λ (n : ℕ). n + 1) its.present);
        fair = record { hit = its.hit; miss = its.miss; sides = its.exist; hit_units = fair.0; miss_units = fair.1 };
      })
      (fair_units market.network H (user_number H name) its.asked X hit miss at its.hit its.miss its.exist)
      (trade_open market H (user_number H name) its.asked X hit miss its.hit its.miss its.exist)
      (judges_both j k _ _ _ _
      (units_judged market H (user_number H name) (hit_side bounds) small its.hit X hit j its.tells (its.both.hit its.hit its.miss its.exist) says_hit)
      (units_judged market H (user_number H name) (miss_side bounds) small its.miss (million - X) miss k its.tells (its.both.miss its.hit its.miss its.exist) says_miss))

  -- ---- edits

  -- inside of quoted limits
  pub inside_judged : (X : ℕ) (limits : Interval) (told : Reply) (j : Judged) → Inside limits X
      → Judges j (IsTrade market.network H (user_number H name) its.asked X told) (IsTradeLeftOpen market H (user_number H name) its.asked X told)
      → Judges j (IsJudged market.network H (user_number H name) its.asked X limits told) (IsTradeLeftOpen market H (user_number H name) its.asked X told)
  inside_judged X limits told j = judges_inside j (Inside limits X)
      (IsTrade market.network H (user_number H name) its.asked X told) (IsBeyond limits X told)
      (IsTradeLeftOpen market H (user_number H name) its.asked X told) (λ beyond. beyond.outside)

  -- outside of them
  pub outside_judged : (X : ℕ) (limits : Interval) (told : Reply) (j : Judged) → (Inside limits X → ⊥) → Judges j (told ≡ reply.Refused (Beyond limits)) ⊥
      → Judges j (IsJudged market.network H (user_number H name) its.asked X limits told) (IsTradeLeftOpen market H (user_number H name) its.asked X told)
  outside_judged X limits told j outside = judges_beyond j (Inside limits X)
      (IsTrade market.network H (user_number H name) its.asked X told) (IsBeyond limits X told)
      (told ≡ reply.Refused (Beyond limits))
      (IsTradeLeftOpen market H (user_number H name) its.asked X told) outside
      (λ e. record { outside = outside; printed = e }) (λ beyond. beyond.printed)

  -- without limits of the present revision: a reply that is no refusal by limits
  pub afresh_judged : (X : ℕ) (told : Reply) (j : Judged) → beyond_told told ≡ None
      → Judges j (IsTrade market.network H (user_number H name) its.asked X told) (IsTradeLeftOpen market H (user_number H name) its.asked X told)
      → Judges j (IsJudgedAfresh market.network H (user_number H name) its.asked X told) (IsTradeLeftOpen market H (user_number H name) its.asked X told)
  afresh_judged X told j none = judges_alone j _
      (IsBeyondRight market.network H (user_number H name) its.asked X told) _
      (λ refused. let e : Some refused.limits ≡ None = sym (ap beyond_told refused.beyond.printed)
      ∙ none in cc)

  -- and one that is such a refusal
  pub beyond_inside : (X : ℕ) (limits : Interval) (told : Reply) → told ≡ reply.Refused (Beyond limits) → Inside limits X
      → IsJudgedAfresh market.network H (user_number H name) its.asked X told → ⊥
  beyond_inside X limits told e inside (inl trade) = let no : reply.Refused (Beyond limits) ≡ reply.Traded trade.hit trade.miss (revision H + 1) = sym e ∙ trade.printed in cc
  beyond_inside X limits told e inside (inr refused) =
      let no : reply.Refused (Beyond limits) ≡ reply.Refused (Beyond refused.limits) = sym e ∙ refused.beyond.printed in
      let same : limits ≡ refused.limits = cc in
      refused.beyond.outside (subst (λ (l : Interval). Inside l X) same inside)

  pub beyond_judged : (X : ℕ) (limits : Interval) (told : Reply) (j : Judged) → told ≡ reply.Refused (Beyond limits) → (Inside limits X → ⊥) → JudgesLimits j bounds small limits
      → Judges j (IsJudgedAfresh market.network H (user_number H name) its.asked X told) (AreLimitsOpen market H (user_number H name) its.asked limits)
  beyond_judged X limits told j e outside says = judges_as j _ _ _ _
      (λ right. inr (record { limits = limits; right = right; beyond = record { outside = outside; printed = e } })) from (λ o. o) (limits_judged limits j says)
    where
      from : IsJudgedAfresh market.network H (user_number H name) its.asked X told → AreRightLimits market.network H (user_number H name) its.asked limits
      from (inl trade) = absurd (let no : reply.Refused (Beyond limits) ≡ reply.Traded trade.hit trade.miss (revision H + 1) = sym e ∙ trade.printed in cc)
      from (inr refused) =
          let no : reply.Refused (Beyond limits) ≡ reply.Refused (Beyond refused.limits) = sym e ∙ refused.beyond.printed in
          let same : refused.limits ≡ limits = cc in
          subst (AreRightLimits market.network H (user_number H name) its.asked) same refused.right

  pub beyond_edit : (X : ℕ) (limits : Interval) (told : Reply) (j : Judged) → beyond_told told ≡ Some limits → (Inside limits X → ⊥) → JudgesLimits j bounds small limits
      → Judges j (IsJudgedAfresh market.network H (user_number H name) its.asked X told) (IsEditLeftOpen market H (user_number H name) its.asked X None told)
  beyond_edit X limits told j h outside says = rw (beyond_is told limits h) (judges_as j _ _ _ _ (λ x. x) (λ x. x) (λ o. (refl, o))
      (beyond_judged X limits (reply.Refused (Beyond limits)) j refl outside says))
