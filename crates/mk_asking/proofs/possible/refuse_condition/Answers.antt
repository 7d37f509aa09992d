use Rattle.std.proofs.Common.{rules, ℕ, ◌<◌, Some, refl, sym, ap, ◌∙◌, subst}
use Rattle.mk_net.specs.declared.words.PairText.{PairText}
use Rattle.mk_reply.specs.declared.refusal.Refusal.TheVariants.{Impossible}
use Rattle.mk_record.proofs.Refusing.{one_each}
use Rattle.mk_asking.proofs.Together.{refused_at, together_is, found_together}
use Rattle.mk_asking.proofs.possible.refuse_condition.Goals as goal

pub bounds-words-place : goal.bounds-words-place
bounds-words-place g c =
    let a = c.requires in
    subst (λ (n : ℕ). c.in-Some.place < n) (one_each a.network c.args.words.now c.args.words.now c.args.condition.now a.condition_by.known a.condition_by.named refl) c.in-Some.ensures.within

pub offset_bounds-words-place : goal.offset_bounds-words-place
offset_bounds-words-place g c =
    let within = bounds-words-place g c in
    search rules

pub unreachable-requires : goal.unreachable-requires
unreachable-requires g c =
    let a = c.requires in
    found_together a.network a.history a.is_open.proper c.args.words.now c.args.condition.now a.condition_by.known a.condition_by.named a.cannot
    (sym (c.in-None.ensures.first a.network a.tree a.history a.stands a.is_open))

pub returns-clause-refusal : goal.returns-clause-refusal
returns-clause-refusal g c network tree H stands open_for by cannot =
    let words = c.args.words.now in
    let d = c.index-words-place.result in
    sym (ap (λ (p : PairText). Some (Impossible p)) c.index-words-place.is
    ∙ ap (refused_at words d) (c.in-Some.ensures.first network tree H stands open_for)
    ∙ together_is network H words c.args.condition.now d by.known by.named)
