use Rattle.std.proofs.Common.{◌≡◌, refl, ap, sym, subst, ◌∙◌}
use Rattle.mk_tree.proofs.Held.{home_is_held}
use Rattle.mk_answers.proofs.Homes.{condition_is_held}
use Rattle.mk_quote.specs.Questions.{spread_in}
use Rattle.mk_rules.proofs.Spreads.{spread_parts}
use Rattle.mk_spread.proofs.Left.{alone_left}
use Rattle.mk_spread.specs.Spreads.{asked_of}
use Rattle.mk_asking.specs.declared.possible.SpreadDecided.{SpreadDecided}
use Rattle.mk_asking.specs.declared.possible.SpreadDecided.TheVariants as spread
use Rattle.mk_asking.specs.declared.possible.Stopped.{Stopped}
use Rattle.mk_asking.specs.declared.possible.Stopped.TheVariants as stopped
use Rattle.mk_asking.specs.Stopped.{IsRefusedFor, MayStop}
use Rattle.mk_asking.proofs.possible.refuse_stopped.Goals as goal

pub refuse_condition-requires : goal.refuse_condition-requires
refuse_condition-requires g c =
    let net = c.args.net.now in let asked = spread_in c.args.request.now.question in let r =
    c.requires in
    let why : c.args.why ≡ stopped.Decided spread.Impossible
    = c.in-Decided.is ∙ ap (λ (d : SpreadDecided). stopped.Decided d) c.in-Impossible.is in
    record {
      network = net;
      tree = r.tree;
      history = r.history;
      stands = r.stands;
      is_open = r.is_open;
      condition_by = record { known = r.known; named = (spread_parts net c.args.variable.now c.args.condition.now asked r.named).2 };
      in_range = r.answered.in_order.in_range.condition;
      held = condition_is_held r.tree c.args.request.now.home (asked_of asked 0) asked.condition
          refl (home_is_held r.tree c.args.request.now.home _ r.at_home);
      cannot = subst (MayStop net r.history asked) why r.may_stop;
    }

pub pair_with-requires-clause-value : goal.pair_with-requires-clause-value
pair_with-requires-clause-value g c =
    let net = c.args.net.now in let asked = spread_in c.args.request.now.question in let r =
    c.requires in let value = c.in-Sure.value in
    let why : c.args.why ≡ stopped.Decided (spread.Sure value)
    = c.in-Decided.is ∙ ap (λ (d : SpreadDecided). stopped.Decided d) c.in-Sure.is in
    (alone_left net r.history asked value (subst (MayStop net r.history asked) why r.may_stop)).0

pub returns-in-Impossible-clause-refusal : goal.returns-in-Impossible-clause-refusal
returns-in-Impossible-clause-refusal g c tree H stands opened may =
    let net = c.args.net.now in let asked = spread_in c.args.request.now.question in let r =
    c.requires in
    let why : c.args.why ≡ stopped.Decided spread.Impossible
    = c.in-Decided.is ∙ ap (λ (d : SpreadDecided). stopped.Decided d) c.in-Impossible.is in
    let named = (spread_parts net c.args.variable.now c.args.condition.now asked r.named).2 in
    subst (λ (w : Stopped). IsRefusedFor net H c.args.variable.now c.args.condition.now asked w c.refuse_condition.result) (sym why)
    (c.refuse_condition.ensures.refusal net tree H stands opened (record { known = r.known; named = named }) (subst (MayStop net H asked) why may))
