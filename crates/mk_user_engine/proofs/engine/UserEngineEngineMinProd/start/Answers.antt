use Rattle.std.proofs.Common.{rules, ◌≡◌, ap, ◌∙◌, sym, subst}
use Rattle.mk_tree.specs.Given.{GivenTree}
use Rattle.mk_tree.specs.Checked.{IsTreeOf}
use Rattle.mk_plan.specs.Shapes.{ShapeOf, IsShapeFor}
use Rattle.mk_user_engine.proofs.engine.UserEngineEngineMinProd.start.Goals as goal

pub returns : goal.returns
returns c = λ network tree plan.
    let started = c.in_ok-tree.ensures.started in
    let is = plan.shape_is in
    let same : c.in_ok-clone.field-0.value ≡ c.args.plan.now.value = search rules in
    let of_tree = subst (λ (t : GivenTree). IsTreeOf network t) plan.tree_is is.tree_is in record {
      tree_is = ap (λ (s : ShapeOf). s.tree) started.shape_is ∙ plan.tree_is;
      narrow = λ e. record {
        shape_for = subst (λ (s : ShapeOf). IsShapeFor s network) (sym same) is;
        tree_is = ap (λ (s : ShapeOf). s.tree) same ∙ plan.tree_is;
        lists = c.in_ok-narrow.ensures network tree is.legal of_tree;
        begun = c.in_ok-tree.ensures.stands network tree plan;
      };
      over = λ e. absurd (cc);
    }
