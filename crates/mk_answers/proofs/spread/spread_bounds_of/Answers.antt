use Rattle.std.proofs.Common.{◌≡◌, [], ◌∷◌, Some, None, refl, arith}
use Rattle.std.specs.Prelude.{slice_index}
use Rattle.mk_net.specs.Network.{sizes}
use Rattle.mk_states.proofs.Shares.{few_values_at}
use Rattle.mk_states.proofs.Sums.{each-append}
use Rattle.mk_spread.specs.Spreads.{asked_of}
use Rattle.mk_enclose.specs.Enclosure.{widest_grade}
use Rattle.mk_beliefs.specs.Meanings.{weights_of}
use Rattle.mk_quote.specs.declared.values.SpreadBounds.{SpreadBounds}
use Rattle.mk_quote.specs.Questions.{spread_in}
use Rattle.mk_quote.specs.Values.{sides_in}
use Rattle.mk_answers.specs.Open.{holding_of}
use Rattle.mk_answers.specs.inner.Alone.{alone_in}
use Rattle.mk_answers.specs.inner.Found.{IsValueCounted, IsValueGraded}
use Rattle.mk_answers.proofs.Counted.{each_bounded}
use Rattle.mk_answers.proofs.Homes.{condition_is_held}
use Rattle.mk_answers.proofs.Valued.{AreFirstFound, one_value_more, valued_at, condition_never, condition_comes, whole_for, alone_is_left, two_are_left, are_side_bounds}
use Rattle.mk_answers.proofs.Regraded.{graded_within, held_grade, sides_graded, values_regraded}
use Rattle.mk_answers.proofs.spread.spread_bounds_of.Goals as goal

pub belief-requires-clause-held : goal.belief-requires-clause-held
belief-requires-clause-held g c =
    let a = c.requires in let condition = c.args.asked.now.condition in
    g.met.P.Engine.held_is_answered c.args.prices.now (weights_of c.args.net.now a.tree a.history)
    c.args.at condition a.stands
    (condition_is_held a.tree c.args.at (asked_of (spread_in c.args.asked.now) 0) condition refl
    (a.held 0))

pub returns-in_default-clause-sides : goal.returns-in_default-clause-sides
returns-in_default-clause-sides g c = λ tree H u stands owns is_open answered.
    condition_never c.args.net.now tree H is_open (spread_in c.args.asked.now) c.args.asked.now.condition c.belief.result refl
    (c.belief.ensures.belief (weights_of c.args.net.now tree H) stands) (λ whole same. c.in_default.not-Present whole same)

pub value_bounds_of-requires : goal.value_bounds_of-requires
value_bounds_of-requires g c =
    let a = c.requires in let spread = spread_in c.args.asked.now in let so_far = c.loop-value.invariant in
    rw c.question_at-question.ensures (record {
      tree = a.tree;
      history = a.history;
      user = a.user;
      stands = so_far.kept (weights_of c.args.net.now a.tree a.history) a.stands;
      owns = so_far.kept_assets (holding_of c.args.net.now a.tree a.history a.user) a.owns;
      is_open = a.is_open;
      valued = valued_at c.args.net.now a.tree a.history spread a.answered c.args.at
          c.loop-value.value (a.held c.loop-value.value)
          (omega (arith, c.values-value-end.ensures, c.loop-value-test.true));
    })

pub push-requires : goal.push-requires
push-requires g c =
    let a = c.requires in
    (omega arith, omega (arith, c.values-value-end.ensures, c.loop-value-test.true, c.loop-value.invariant.long, few_values_at c.args.net.now a.is_open.legal c.args.asked.now.variable a.answered.in_order.in_range.variable))

pub loop-value-preserved : goal.loop-value-preserved
loop-value-preserved g c =
    let spread = spread_in c.args.asked.now in let so_far = c.loop-value.invariant in let value = c.loop-value.value in
    record {
      kept = λ m h. c.value_bounds_of.ensures.kept m (so_far.kept m h);
      kept_assets = λ h owns. c.value_bounds_of.ensures.kept_assets h (so_far.kept_assets h owns);
      long = omega (arith, so_far.long, c.push.ensures.len);
      parts = λ tree H u stands owns is_open.
          rw c.push.ensures.items (one_value_more c.args.net.now H u spread value c.loop-value.parts.items c.value_bounds_of.result
          (so_far.parts tree H u stands owns is_open)
          (rw c.question_at-question.ensures at (c.value_bounds_of.ensures.found tree H u (so_far.kept _ stands) (so_far.kept_assets _ owns) is_open)));
      counted = λ tree H u owns is_open.
          rw c.push.ensures.items
          (each-append (IsValueCounted H u) c.loop-value.parts.items
          (c.value_bounds_of.result ∷ []) (so_far.counted tree H u owns is_open)
          (c.value_bounds_of.ensures.counted tree H u (so_far.kept_assets _ owns) is_open, tt));
      graded = λ m h most stands owns room gains_room.
          rw c.push.ensures.items
          (each-append (IsValueGraded most) c.loop-value.parts.items
          (c.value_bounds_of.result ∷ []) (so_far.graded m h most stands owns room gains_room) (
            c.value_bounds_of.ensures.graded m h most (so_far.kept m stands)
                (so_far.kept_assets h owns) room gains_room,
            tt,
          ));
    }

pub returns-in-Some-clause-sides : goal.returns-in-Some-clause-sides
returns-in-Some-clause-sides g c = λ tree H u stands owns is_open answered.
    let spread = spread_in c.args.asked.now in let network = c.args.net.now in
    let all : c.loop-value.value ≡ slice_index (sizes network) spread.variable = omega (arith, c.values-value-end.ensures, c.loop-value-test.false, c.loop-value.auto.value-end) in
    let only : alone_in c.loop-value.parts.items ≡ Some c.in-Some.value = cc in
    alone_is_left network H u spread c.loop-value.parts.items (rw all at (c.loop-value.invariant.parts tree H u stands owns is_open)) c.in-Some.value only

pub returns-in-None-clause-sides : goal.returns-in-None-clause-sides
returns-in-None-clause-sides g c = λ tree H u stands owns is_open answered.
    let spread = spread_in c.args.asked.now in let network = c.args.net.now in let condition = c.args.asked.now.condition in
    let all : c.loop-value.value ≡ slice_index (sizes network) spread.variable = omega (arith, c.values-value-end.ensures, c.loop-value-test.false, c.loop-value.auto.value-end) in
    let none : alone_in c.loop-value.parts.items ≡ None = cc in
    let b = c.belief.ensures.belief (weights_of network tree H) stands in
    let whole = c.in-Present.whole in
    let found : AreFirstFound network H u spread (slice_index (sizes network) spread.variable) c.loop-value.parts.items = rw all at (c.loop-value.invariant.parts tree H u stands owns is_open) in (
      two_are_left network H u spread c.loop-value.parts.items found none answered.in_order.in_range.variable
          (condition_comes network tree H is_open spread condition c.belief.result refl b whole c.in-Present.is),
      λ sides are.
          are_side_bounds network H u spread (record { whole = whole; parts = c.loop-value.parts })
          (whole_for network tree H is_open spread condition c.belief.result refl b whole c.in-Present.is)
          (slice_index (sizes network) spread.variable) 0 c.loop-value.parts.items sides found are,
    )

pub returns-in-None-clause-bounded : goal.returns-in-None-clause-bounded
returns-in-None-clause-bounded g c = λ tree H u most stands owns is_open answered room gains_room
    sides are.
    let spread = spread_in c.args.asked.now in let network = c.args.net.now in
    let condition = c.args.asked.now.condition in
    let n = slice_index (sizes network) spread.variable in
    let all : c.loop-value.value ≡ n =
    omega (arith, c.values-value-end.ensures, c.loop-value-test.false, c.loop-value.auto.value-end)
    in
    let m = weights_of network tree H in
    let b = c.belief.ensures.belief m stands in
    let whole = c.in-Present.whole in
    let parts = c.loop-value.parts.items in
    let bounds : SpreadBounds = record { whole = whole; parts = c.loop-value.parts } in
    let found : AreFirstFound network H u spread n parts =
    rw all at (c.loop-value.invariant.parts tree H u stands owns is_open) in
    let both = are_side_bounds network H u spread bounds
    (whole_for network tree H is_open spread condition c.belief.result refl b whole
    c.in-Present.is) n 0 parts sides found are in
    values_regraded network H widest_grade most u (sides_in bounds) sides
    (each_bounded network H u spread bounds n 0 parts sides
    (c.loop-value.invariant.counted tree H u owns is_open) are both.sides both.graded both.exact)
    (sides_graded most bounds
    (graded_within whole (g.P.Engine.grade_of m) most room
    (held_grade c.belief.result whole (g.P.Engine.grade_of m) c.in-Present.is
    (c.belief.ensures.graded m stands))) parts
    (c.loop-value.invariant.graded m (holding_of network tree H u) most stands owns room
    gains_room))
