use Rattle.std.proofs.Common.{◌⊎◌, inl, inr, Bool}
use Rattle.std.specs.Bool.{⊤, IsTrue}
use Rattle.std.proofs.lemmas.Bool.{false≢true}
use Rattle.mk_exact.specs.Prices.{IsFair, IsSolvent}
use Rattle.mk_exact.specs.Limits.{Side, IsFairAndSolvent}
use Rattle.mk_quote.specs.declared.side.SideBounds.{SideBounds}
use Rattle.mk_judge.specs.Judged.{Judges}
use Rattle.mk_judge.specs.Cash.{IsHeld}
use Rattle.mk_judge.specs.Units.{AreSideBounds, AreUnitsNear, IsFairNear, IsSolvencyNear}
use Rattle.mk_judge.proofs.Judging.{judges_both, judges_as}
use Rattle.mk_judge.proofs.Fairness.{fair_for}
use Rattle.mk_judge.proofs.units.judge_units.Goals as goal
use Rattle.mk_judge.proofs.units.judge_units.Goals.{After-and-else-small}

held_of : (bounds : SideBounds) (small : Bool) (side : Side) → AreSideBounds bounds small side → IsHeld bounds.factor side.least
held_of bounds small side is = record { stands = is.bounds_of.least; idle = is.idle }

small_told : (c : goal.After-and) (side : Side) → AreSideBounds c.args.bounds.now c.args.small side
    → Judges c.and.result (IsFairAndSolvent (IsTrue c.args.small) side c.args.share c.args.units) (AreUnitsNear c.args.bounds.now c.args.small side c.args.units c.args.share)
small_told c side is =
    let bounds = c.args.bounds.now in
    let F = c.args.units in
    let X = c.args.share in
    let exact = is.exact c.if-small.true in
    let P : Type 0 = IsFair ⊤ F X side.price in
    let Q : Type 0 = IsSolvent F side.least in
    let N : Type 0 = IsSolvencyNear bounds.factor side.least F in
    let near : ⊥ ⊎ N → AreUnitsNear bounds c.args.small side F X = (λ known. elim known [ inl never ↦ absurd never | inr n ↦ absurd (n.rounded exact.gain) ]) in
    rw c.and.ensures
    (judges_as _ (P × Q) _ (⊥ ⊎ N) _
    (λ h. record { fair = fair_for ⊤ _ F X side.price (λ _. tt) (h.0); solvent = h.1 })
    (λ h. (fair_for _ ⊤ F X side.price (λ _. c.if-small.true) h.fair, h.solvent))
    near
    (judges_both _ _ P Q ⊥ N (c.exactly_fair.ensures side.price is.bounds_of.part is.bounds_of.whole exact.part exact.whole) (c.judge_solvent-solvent.ensures side.least (held_of bounds c.args.small side is))))

large_told : (c : After-and-else-small) (side : Side) → AreSideBounds c.args.bounds.now c.args.small side
    → Judges c.and-else-small.result (IsFairAndSolvent (IsTrue c.args.small) side c.args.share c.args.units) (AreUnitsNear c.args.bounds.now c.args.small side c.args.units c.args.share)
large_told c side is =
    let bounds = c.args.bounds.now in
    let F = c.args.units in
    let X = c.args.share in
    let not_small : IsTrue c.args.small → ⊥ = (λ said. false≢true (let no = c.if-small.false in rw no at said)) in
    let P : Type 0 = IsFair ⊥ F X side.price in
    let Q : Type 0 = IsSolvent F side.least in
    let M : Type 0 = IsFairNear bounds.part bounds.whole side.price F X in
    let N : Type 0 = IsSolvencyNear bounds.factor side.least F in
    rw c.and-else-small.ensures
    (judges_as _ (P × Q) _ (M ⊎ N) _
    (λ h. record { fair = fair_for ⊥ _ F X side.price not_small (h.0); solvent = h.1 })
    (λ h. (fair_for _ ⊥ F X side.price (λ no. absurd no) h.fair, h.solvent))
    (λ known. record { large = c.if-small.false; near = known })
    (judges_both _ _ P Q M N (c.nearly_fair.ensures side.price is.bounds_of.part is.bounds_of.whole) (c.judge_solvent-solvent.ensures side.least (held_of bounds c.args.small side is))))

pub returns-then-small-clause-allowed : goal.returns-then-small-clause-allowed
returns-then-small-clause-allowed c e side bounds = rw e at (small_told c side bounds)

pub returns-then-small-clause-wrong : goal.returns-then-small-clause-wrong
returns-then-small-clause-wrong c e side bounds = rw e at (small_told c side bounds)

pub returns-then-small-clause-unclear : goal.returns-then-small-clause-unclear
returns-then-small-clause-unclear c e side bounds = rw e at (small_told c side bounds)

pub returns-else-small-clause-allowed : goal.returns-else-small-clause-allowed
returns-else-small-clause-allowed c e side bounds = rw e at (large_told c side bounds)

pub returns-else-small-clause-wrong : goal.returns-else-small-clause-wrong
returns-else-small-clause-wrong c e side bounds = rw e at (large_told c side bounds)

pub returns-else-small-clause-unclear : goal.returns-else-small-clause-unclear
returns-else-small-clause-unclear c e side bounds = rw e at (large_told c side bounds)
