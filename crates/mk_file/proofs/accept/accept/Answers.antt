use Rattle.std.proofs.Common.{Some, None, ap, ◌∙◌, rules}
use Rattle.std.proofs.lemmas.Result.{err_from_is_err_and}
use Rattle.mk_file.specs.Counts.{of_net}
use Rattle.mk_file.specs.inner.Views.{draft_of}
use Rattle.mk_file.proofs.Grown.{judged, network_refused, top_cast}
use Rattle.mk_file.proofs.accept.accept.Goals as goal

pub returns-clause-market : goal.returns-clause-market
returns-clause-market c =
    judged (draft_of c.args.draft.now) None c.in_ok-check_counts.ensures.passes
    c.in_ok-net.ensures.faultless c.in_ok-tree.ensures.whole ∙ search rules

pub returns-in_err-tree-clause-market : goal.returns-in_err-tree-clause-market
returns-in_err-tree-clause-market c =
    let returned = err_from_is_err_and c.from_residual-in_err-tree.result c.from_residual-in_err-tree.ensures.1 in
    rw (returned.1, returned.2) (λ known.
    judged (draft_of c.args.draft.now) (Some _) c.in_ok-check_counts.ensures.passes
    c.in_ok-net.ensures.faultless (c.in_err-tree.ensures.fault known))

pub invariant_of-result-clause-tree_of_net : goal.invariant_of-result-clause-tree_of_net
invariant_of-result-clause-tree_of_net c = ∣ c.in_ok-tree.ensures.tree ∣₁

pub returns-in_err-net-clause-market : goal.returns-in_err-net-clause-market
returns-in_err-net-clause-market c =
    let returned = err_from_is_err_and c.from_residual-in_err-net.result c.from_residual-in_err-net.ensures.1 in
    rw (returned.1, returned.2) (λ known.
    network_refused (draft_of c.args.draft.now) _ c.in_ok-check_counts.ensures.passes (c.in_err-net.ensures.fault (λ memory. known (ap of_net memory))))

pub overflow_cast-result : goal.overflow_cast-result
overflow_cast-result c =
    (top_cast (draft_of c.args.draft.now) c.in_ok-check_counts.ensures.passes).points.fits

pub overflow_cast-result-2 : goal.overflow_cast-result-2
overflow_cast-result-2 c =
    (top_cast (draft_of c.args.draft.now) c.in_ok-check_counts.ensures.passes).trades.fits

pub overflow_cast-result-3 : goal.overflow_cast-result-3
overflow_cast-result-3 c =
    (top_cast (draft_of c.args.draft.now) c.in_ok-check_counts.ensures.passes).users.fits

pub overflow_cast-result-4 : goal.overflow_cast-result-4
overflow_cast-result-4 c =
    (top_cast (draft_of c.args.draft.now) c.in_ok-check_counts.ensures.passes).transfers.fits

pub invariant_of-result-clause-points_positive : goal.invariant_of-result-clause-points_positive
invariant_of-result-clause-points_positive c =
    (top_cast (draft_of c.args.draft.now) c.in_ok-check_counts.ensures.passes).points.low

pub invariant_of-result-clause-points_most : goal.invariant_of-result-clause-points_most
invariant_of-result-clause-points_most c =
    (top_cast (draft_of c.args.draft.now) c.in_ok-check_counts.ensures.passes).points.top

pub invariant_of-result-clause-trades_positive : goal.invariant_of-result-clause-trades_positive
invariant_of-result-clause-trades_positive c =
    (top_cast (draft_of c.args.draft.now) c.in_ok-check_counts.ensures.passes).trades.low

pub invariant_of-result-clause-trades_most : goal.invariant_of-result-clause-trades_most
invariant_of-result-clause-trades_most c =
    (top_cast (draft_of c.args.draft.now) c.in_ok-check_counts.ensures.passes).trades.top

pub invariant_of-result-clause-users_positive : goal.invariant_of-result-clause-users_positive
invariant_of-result-clause-users_positive c =
    (top_cast (draft_of c.args.draft.now) c.in_ok-check_counts.ensures.passes).users.low

pub invariant_of-result-clause-users_most : goal.invariant_of-result-clause-users_most
invariant_of-result-clause-users_most c =
    (top_cast (draft_of c.args.draft.now) c.in_ok-check_counts.ensures.passes).users.top

pub invariant_of-result-clause-transfers_positive : goal.invariant_of-result-clause-transfers_positive
invariant_of-result-clause-transfers_positive c =
    (top_cast (draft_of c.args.draft.now) c.in_ok-check_counts.ensures.passes).transfers.low

pub invariant_of-result-clause-transfers_most : goal.invariant_of-result-clause-transfers_most
invariant_of-result-clause-transfers_most c =
    (top_cast (draft_of c.args.draft.now) c.in_ok-check_counts.ensures.passes).transfers.top
