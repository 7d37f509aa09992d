use Rattle.std.proofs.Common.{length, sym, ◌∙◌, ap, subst, refl, arith, length-take, ◌-◌, ◌∷◌}
use Rattle.std.proofs.lemmas.Slice.Eq.{starts_is}
use Rattle.std.proofs.lemmas.Bool.Decides.{Decides-eqb}
use Rattle.mk_journal.specs.inner.Reading.{IsKind}
use Rattle.mk_journal.proofs.Heads.{length-begun}
use Rattle.mk_journal.proofs.Fronts.{split, header_in, another_at, own_at, stands_if}
use Rattle.mk_journal.proofs.front.kind_of.Goals as goal

pub returns-then-gate-ne1-clause-long : goal.returns-then-gate-ne1-clause-long
returns-then-gate-ne1-clause-long c =
    c.closed_kind.ensures.long (length c.args.body.now) (length c.args.front.now) (omega (arith, c.in-Some.ensures.cases.1))
    (λ yes. omega (arith, c.starts_with.ensures.bound yes, c.in-Some.ensures.cases.1, length-take (length c.args.body.now - 1) c.args.body.now))

pub returns-then-gate-ne1-clause-kind : goal.returns-then-gate-ne1-clause-kind
returns-then-gate-ne1-clause-kind c market file body front len =
    let s = split file c.args.front.now c.in-Some.behind.now c.in-Some.gate.now (length c.args.body.now) front c.in-Some.ensures.cases.0 in
    let size = ap length body ∙ length-begun market in
    subst (λ f. IsKind market f c.closed_kind.result) (sym s.file_is)
    (c.closed_kind.ensures.kind market s.rest c.if-gate-ne1.true (len ∙ ap length s.file_is) (omega arith) (omega (arith, size))
    (stands_if market c.in-Some.behind.now _ s.rest (length c.args.body.now) c.starts_with.result (header_in market c.args.body.now _ body refl) size s.behind_is
    (starts_is Decides-eqb c.in-Some.behind.now _ c.starts_with.result c.starts_with.ensures.value)))

pub returns-in-Some-foreign_at-clause-kind : goal.returns-in-Some-foreign_at-clause-kind
returns-in-Some-foreign_at-clause-kind c market file body front len =
    let s = split file c.args.front.now c.in-Some.behind.now _ (length c.args.body.now) front (c.in-Some.ensures.cases.0 ∙ ap (λ b. b ∷ c.in-Some.behind.now) c.if-gate-ne1.false) in
    another_at market file c.in-Some.behind.now _ (length c.args.body.now) c.in-Some-foreign_at.at (omega (arith, len)) (header_in market c.args.body.now _ body refl) (ap length body ∙ length-begun market) s
    (sym c.foreign_at.ensures.value ∙ c.in-Some-foreign_at.is)

pub returns-in-None-clause-kind : goal.returns-in-None-clause-kind
returns-in-None-clause-kind c market file body front len =
    let s = split file c.args.front.now c.in-Some.behind.now _ (length c.args.body.now) front (c.in-Some.ensures.cases.0 ∙ ap (λ b. b ∷ c.in-Some.behind.now) c.if-gate-ne1.false) in
    own_at market file c.in-Some.behind.now _ (length c.args.body.now) (header_in market c.args.body.now _ body refl) (ap length body ∙ length-begun market) s
    c.in-None.ensures.same c.in-None.ensures.longer
