use Rattle.std.proofs.Common.{◌≤◌, ◌∙◌, None, Some, length, sym, subst}
use Rattle.mk_tree.proofs.Searched.{start_within, found_from_start}
use Rattle.mk_tree.proofs.starts.first_holder.Goals as goal

pub split_at-requires : goal.split_at-requires
split_at-requires c =
    subst (λ n. n ≤ length c.args.cliques.now) (sym c.event_start-start.ensures)
    (start_within c.args.cliques.now c.args.starts.now c.args.pairs.now c.requires.starts)

pub returns-in_err-place-clause-first : goal.returns-in_err-place-clause-first
returns-in_err-place-clause-first c =
    c.from_residual.ensures
    ∙ found_from_start c.args.cliques.now c.split_at.result.1.now c.args.starts.now
    c.args.pairs.now c.event_start-start.result None c.requires.starts
    c.event_start-start.ensures c.split_at.ensures.back (c.in_err-place.ensures).first

pub returns-clause-first : goal.returns-clause-first
returns-clause-first c =
    found_from_start c.args.cliques.now c.split_at.result.1.now c.args.starts.now
    c.args.pairs.now c.event_start-start.result (Some c.in_ok-place.place) c.requires.starts
    c.event_start-start.ensures c.split_at.ensures.back (c.in_ok-place.ensures).first
