use Rattle.std.proofs.Common.{refl, ap, ◌∙◌}
use Rattle.mk_net.specs.Trades.{trade_ratio}
use Rattle.mk_engine.specs.Meaning.{Meaning, RatioOf, with_factor}
use Rattle.mk_plan.specs.Shapes.{ShapeOf, clique_scope}
use Rattle.mk_user_engine.specs.NarrowForm.{CanTake}
use Rattle.mk_user_engine.specs.Users.{StandsFor}
use Rattle.mk_user_engine.proofs.Staying.{can_take, stands_narrow}
use Rattle.mk_user_engine.proofs.engine.UserEngine.multiply_narrow.Goals.{After-deref-2}
use Rattle.mk_user_engine.proofs.engine.UserEngine.multiply_narrow.Goals as goal

-- the narrow form may take the ratio in each meaning that the engine stands for
can : (c : After-deref-2) (m : Meaning) → StandsFor c.args.self.now m
    → CanTake c.args.self.now.narrow c.deref-2.result.now c.args.at (trade_ratio c.args.ratio.now) m
can c m s =
    let a = c.requires.range in
    can_take c.args.self.now c.if-self.false a.meaning a.stands m s
    (trade_ratio c.args.ratio.now) c.args.at c.deref-2.result.now c.requires.home a.in_range
    (c.deref-2.ensures ∙ c.clique.ensures
    ∙ ap (λ (s : ShapeOf). clique_scope s c.args.at) c.deref.ensures)

pub multiply-requires : goal.multiply-requires
multiply-requires c =
    let a = c.requires.range in
    (a.meaning, can (goal.at.multiply-requires c).After-deref-2 a.meaning a.stands)

pub returns-clause-taken : goal.returns-clause-taken
returns-clause-taken c = λ m s yes.
    stands_narrow c.args.self.now c.if-self.false m s c.multiply.new.self
    (with_factor (RatioOf (trade_ratio c.args.ratio.now)) m) refl refl
    (c.multiply.ensures.taken m (can (goal.at.returns-clause-taken c).After-deref-2 m s) yes)

pub returns-clause-left : goal.returns-clause-left
returns-clause-left c = λ m s no.
    stands_narrow c.args.self.now c.if-self.false m s c.multiply.new.self m refl refl
    (c.multiply.ensures.left m (can (goal.at.returns-clause-left c).After-deref-2 m s) no)
