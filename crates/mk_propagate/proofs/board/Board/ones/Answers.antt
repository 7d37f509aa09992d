use Rattle.std.proofs.Common.{ℕ, ◌<◌, List, length, sym, ap, subst, ◌∙◌}
use Rattle.std.specs.Prelude.{slice_index_or}
use Rattle.mk_scope.specs.Scopes.{ScopeOf}
use Rattle.mk_table.specs.Lists.{IsOnes}
use Rattle.mk_plan.specs.Shapes.{no_scope}
use Rattle.mk_propagate.specs.Flows.{no_table}
use Rattle.mk_propagate.specs.inner.Boards.{board_of, IsBoard}
use Rattle.mk_propagate.specs.inner.Ones.{IsStart}
use Rattle.mk_propagate.proofs.Begun.{nested_is, board_begun, ones_begun}
use Rattle.mk_propagate.proofs.board.Board.ones.Goals as goal

pub invariant_of-result : goal.invariant_of-result
invariant_of-result g c =
    let shape = c.args.shape.now in
    let ones = subst (λ (ss : List ScopeOf). (k : ℕ) → k < length ss
    → IsOnes (slice_index_or ss k no_scope) (slice_index_or c.in_ok-ones.field-0 k no_table))
    (c.scopes.ensures.scopes ∙ nested_is shape) c.in_ok-ones.ensures.ones in
    subst (λ (n : ℕ). IsBoard n c.in_ok-ones.field-0) (sym c.cliques-cliques.ensures.count)
    (board_begun shape c.cliques-cliques.ensures.linked c.scopes.ensures.each c.in_ok-ones.field-0
    (c.in_ok-ones.ensures.one_each
    ∙ ap (λ (ss : List ScopeOf). length ss) (c.scopes.ensures.scopes ∙ nested_is shape))
    ones)

pub returns : goal.returns
returns g c =
    let shape = c.args.shape.now in
    let ones = subst (λ (ss : List ScopeOf). (k : ℕ) → k < length ss
    → IsOnes (slice_index_or ss k no_scope) (slice_index_or c.in_ok-ones.field-0 k no_table))
    (c.scopes.ensures.scopes ∙ nested_is shape) c.in_ok-ones.ensures.ones in
    subst (λ (n : ℕ). IsStart shape (board_of n c.in_ok-ones.field-0))
    (sym c.cliques-cliques.ensures.count)
    (ones_begun shape c.cliques-cliques.ensures.linked c.scopes.ensures.each c.in_ok-ones.field-0
    (c.in_ok-ones.ensures.one_each
    ∙ ap (λ (ss : List ScopeOf). length ss) (c.scopes.ensures.scopes ∙ nested_is shape))
    ones)
