use Rattle.std.proofs.Common.{[], ◌∷◌, Option, sym, ap}
use Rattle.mk_net.specs.Firsts.{first_of}
use Rattle.mk_reply.specs.declared.refusal.Refusal.{Refusal}
use Rattle.mk_beliefs.specs.Meanings.{rows_of}
use Rattle.mk_file.specs.MarketOf.{market_of}
use Rattle.mk_market.proofs.Growing.{open_by}
use Rattle.mk_evidence.specs.Grades.{evidence_grade}
use Rattle.mk_evidence.proofs.Grading.{enough_cells, rows_within}
use Rattle.mk_evidence.proofs.evidence.bound_evidence.Goals as goal

pub returns-in_err-not_settled-clause-cells : goal.returns-in_err-not_settled-clause-cells
returns-in_err-not_settled-clause-cells g c =
    let i = c.market.inside in
    rw (← c.market.view_is) (enough_cells i.file i.journal.history c.market.invariant.legal
    c.market.invariant.tree)

pub returns-clause-evidence : goal.returns-clause-evidence
returns-clause-evidence g c =
    let i = c.market.inside in let H = i.journal.history in
    let m = rows_of i.file.net i.file.tree H in
    rw (← c.market.view_is) (
      ap (λ (o : Option Refusal). first_of (o ∷ [])) (sym c.in_ok-not_settled.ensures),
      c.least_weight_of.ensures.least i.file.tree H (evidence_grade (market_of i.file) H)
          c.market.invariant.rows_stand (open_by c.market.invariant)
          (rows_within i.file H (g.A.Engine.grade_of m) (g.met.A.TreeGraded.within_tree m)),
    )

pub returns-clause-cells : goal.returns-clause-cells
returns-clause-cells g c =
    let i = c.market.inside in
    rw (← c.market.view_is) (enough_cells i.file i.journal.history c.market.invariant.legal
    c.market.invariant.tree)
