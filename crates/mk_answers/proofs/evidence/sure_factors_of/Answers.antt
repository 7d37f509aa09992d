use Rattle.std.proofs.Common.{◌≡◌, ℕ, Option, slice_index, refl, subst, arith}
use Rattle.std.specs.List.{AllZip, range_with_len}
use Rattle.mk_net.specs.Network.{sizes}
use Rattle.mk_states.specs.Events.{with_target}
use Rattle.mk_spread.specs.Spreads.{asked_of}
use Rattle.mk_enclose.specs.declared.factor.Factor.{Factor}
use Rattle.mk_beliefs.specs.Meanings.{gains_of}
use Rattle.mk_quote.specs.Questions.{spread_in}
use Rattle.mk_answers.specs.Open.{holding_of}
use Rattle.mk_answers.specs.Evidence.{IsSureFactor}
use Rattle.mk_answers.proofs.Homes.{condition_is_held}
use Rattle.mk_answers.proofs.Told.{zip_more, only_none, none_comes, comes, room_for_one, can_find_sure_at}
use Rattle.mk_answers.proofs.evidence.sure_factors_of.Goals as goal

pub least-requires-clause-held : goal.least-requires-clause-held
least-requires-clause-held g c =
    let a = c.requires in let condition = c.args.asked.now.condition in
    let m = gains_of c.args.net.now a.tree a.history a.user in
    g.met.A.Engine.held_is_answered c.args.assets.now.engine m c.args.at condition a.owns.stands
    (condition_is_held a.tree c.args.at (asked_of (spread_in c.args.asked.now) 0) condition refl
    (a.held 0))

pub returns-in_default-clause-factors : goal.returns-in_default-clause-factors
returns-in_default-clause-factors g c = λ tree H u most owns is_open answered room.
    let net = c.args.net.now in
    none_comes net tree H u is_open c.args.asked.now.condition _ c.least.result
    (c.least.ensures.least (holding_of net tree H u) owns)
    (only_none c.least.result c.in_default.not-Some)

pub sure_factor_of-requires : goal.sure_factor_of-requires
sure_factor_of-requires g c = rw c.question_at-question.ensures
    (can_find_sure_at c.requires _ c.loop-value.invariant.kept_assets c.loop-value.value _
    c.values-value-end.ensures c.loop-value-test.true)

pub push-requires : goal.push-requires
push-requires g c =
    let room = room_for_one c.requires.is_open c.requires.answered _ _ _ c.loop-value.invariant.long
    c.values-value-end.ensures c.loop-value-test.true in (omega arith, room)

pub loop-value-preserved : goal.loop-value-preserved
loop-value-preserved g c =
    let so_far = c.loop-value.invariant in let spread = spread_in c.args.asked.now in
    record {
      kept_assets = λ h owns. c.sure_factor_of.ensures.kept_assets h (so_far.kept_assets h owns);
      long = omega (arith, so_far.long, c.push.ensures.len);
      sure = λ tree H u most owns is_open room.
          rw c.push.ensures.items
          (zip_more (λ value (factor : Option Factor). IsSureFactor most c.args.net.now H u
          (with_target (asked_of spread value)) factor) c.loop-value.value
          c.loop-value.factors.items c.sure_factor_of.result
          (so_far.sure tree H u most owns is_open room)
          (rw c.question_at-question.ensures at
          (c.sure_factor_of.ensures.factor tree H u most (so_far.kept_assets _ owns) is_open
          room)));
    }

pub returns-clause-factors : goal.returns-clause-factors
returns-clause-factors g c = λ tree H u most owns is_open answered room.
    let net = c.args.net.now in let spread = spread_in c.args.asked.now in
    let all : c.loop-value.value ≡ slice_index (sizes net) spread.variable =
    omega (arith, c.values-value-end.ensures, c.loop-value-test.false, c.loop-value.auto.value-end)
    in
    let items = c.loop-value.factors.items in (
      comes net tree H u is_open c.args.asked.now.condition _ c.least.result
          (c.least.ensures.least (holding_of net tree H u) owns) c.in-Some.field-0 c.in-Some.is,
      subst (λ (n : ℕ). AllZip (λ value (factor : Option Factor). IsSureFactor most net H u
          (with_target (asked_of spread value)) factor) (range_with_len 0 n) items) all
          (c.loop-value.invariant.sure tree H u most owns is_open room),
    )
