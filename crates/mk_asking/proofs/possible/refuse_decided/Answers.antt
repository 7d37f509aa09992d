use Rattle.std.proofs.Common.{◌≡◌, true, List, sym, subst}
use Rattle.mk_net.specs.declared.words.Pair.{Pair}
use Rattle.mk_states.specs.Events.{holds}
use Rattle.mk_exact.specs.Weight.{cannot_come}
use Rattle.mk_asking.specs.declared.possible.Decided.{Decided}
use Rattle.mk_asking.specs.declared.possible.Decided.TheVariants.{Impossible, Never, Sure}
use Rattle.mk_asking.specs.Stopped.{IsDecidedBy}
use Rattle.mk_record.proofs.Refusing.{pairs_are, slice_known}
use Rattle.mk_asking.proofs.Stopping.{can_refuse_condition, never_at_all, never_refused, sure_refused}
use Rattle.mk_asking.proofs.possible.refuse_decided.Goals as goal

pub refuse_condition-requires : goal.refuse_condition-requires
refuse_condition-requires g c =
    let a = c.requires in
    can_refuse_condition g.P.Engine.stands_for c.args.prices.now a.network a.tree a.history a.stands
    a.is_open c.args.question.now c.args.request.now.question a.asked_by.named a.asked_by.known
    a.answered
    c.args.request.now.home a.at_home c.condition-condition.result c.as_slice.result.now
    c.condition-condition.ensures.condition c.as_slice.ensures.value
    (subst (λ (why : Decided). IsDecidedBy a.network a.history c.args.request.now.question why)
    c.in-Impossible.is a.decided)

pub returns-in-Impossible-clause-refusal : goal.returns-in-Impossible-clause-refusal
returns-in-Impossible-clause-refusal g c network tree H stands open_for by is =
    let q = c.args.question.now in let asked = c.args.request.now.question in
    let cannot : IsDecidedBy network H asked Impossible = subst (λ (why : Decided). IsDecidedBy network H asked why) c.in-Impossible.is is in
    never_at_all network H q asked by c.as_slice.result.now c.refuse_condition.result c.as_slice.ensures.value
    (c.refuse_condition.ensures.refusal network tree H stands open_for
    (record {
      known = slice_known network q c.as_slice.result.now c.as_slice.ensures.value by.known;
      named = pairs_are network q asked c.condition-condition.result c.as_slice.result.now by.named
          c.condition-condition.ensures.condition c.as_slice.ensures.value;
    })
    (subst (λ (ps : List Pair). cannot_come network H (holds ps) ≡ true)
    (sym c.condition-condition.ensures.condition) cannot))

pub returns-in-Never-clause-refusal : goal.returns-in-Never-clause-refusal
returns-in-Never-clause-refusal g c network tree H stands open_for by is =
    let never : IsDecidedBy network H c.args.request.now.question Never = subst
    (λ (why : Decided). IsDecidedBy network H c.args.request.now.question why) c.in-Never.is is
    in
    never_refused network H c.args.question.now c.args.request.now.question by (never.0) (never.1)

pub returns-in-Sure-clause-refusal : goal.returns-in-Sure-clause-refusal
returns-in-Sure-clause-refusal g c network tree H stands open_for by is =
    let sure : IsDecidedBy network H c.args.request.now.question Sure = subst
    (λ (why : Decided). IsDecidedBy network H c.args.request.now.question why) c.in-Sure.is is
    in
    sure_refused network H c.args.question.now c.args.request.now.question by (sure.0) (sure.1)
