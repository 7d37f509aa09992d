use Rattle.std.proofs.Common.{◌≡◌, ℕ, ◌+◌, ◌*◌, ◌≤◌, List, length, arith, ap, sym, subst, ◌∙◌}
use Rattle.mk_states.specs.States.{plus_over}
use Rattle.mk_cell.specs.Cell.{StandsAt}
use Rattle.mk_scope.specs.Runs.{runs_of}
use Rattle.mk_passes.specs.Parts.{StandListed}
use Rattle.mk_scope.proofs.Reached.{where_within}
use Rattle.mk_table.proofs.Whole.{AreParts, total_stands, parts_room}
use Rattle.mk_scope.specs.Scopes.{ScopeOf, HasEvent, cells_in}
use Rattle.mk_scope.specs.Cells.{cells_where}
use Rattle.mk_table.specs.Lists.{table_in}
use Rattle.mk_passes.specs.Blank.{one_digits, one_exponent, filled}
use Rattle.mk_table.proofs.Seen.{IsSeen, seen_lent, parts_counted}
use Rattle.mk_table.proofs.tables.Tables.plus_where.Given.{Over}
use Rattle.mk_table.proofs.tables.Tables.plus_where.Goals as goal
use Rattle.mk_table.proofs.tables.Tables.plus_where.Goals.{After-deref-scopes, After-as_slice}

seen : (g : Over) (c : After-deref-scopes g) → IsSeen c.deref-scopes.result.now c.self.inside.store c.args.self.now c.args.k
seen g c = seen_lent _ _ c.deref-scopes.ensures c.self.inside.store _ c.self.invariant.store_is c.self.view_is _ c.requires.table

parts : (g : Over) (c : After-as_slice g) → IsSeen c.deref-scopes.result.now c.self.inside.store c.args.self.now c.args.k
    → AreParts (table_in c.args.self.now c.args.k) c.scope-scope.result.now (table_in c.args.self.now c.args.k).shift
    (filled one_digits c.cells-2.result c.cells.result.0.now) (filled one_exponent c.cells-2.result c.cells.result.1.now)
parts g c k =
    parts_counted _ c.self.inside.store _ _ k c.scope-scope.result.now c.cells-2.result _ _ c.scope-scope.ensures
    (c.cells-2.ensures.cells ∙ ap cells_in c.scope-scope.ensures)
    c.cells.ensures.digits c.cells.ensures.exponents

chosen : (g : Over) (c : After-as_slice g) → runs_of c.runs_where-run.result c.as_slice.result.now ≡ cells_where c.scope-scope.result.now c.args.event.now
chosen g c = ap (runs_of c.runs_where-run.result) c.as_slice.ensures ∙ c.runs_where-run.ensures.cells

few : (g : Over) (c : After-as_slice g) (scope : ScopeOf) → c.scope-scope.result.now ≡ scope → length (cells_where scope c.args.event.now) ≤ cells_in scope
few g c scope same = subst (λ (x : ScopeOf). length (cells_where x c.args.event.now) ≤ cells_in x) same c.runs_where-run.ensures.few

pub scope-scope-requires : goal.scope-scope-requires
scope-scope-requires g c = (seen g (goal.at.scope-scope-requires g c).After-deref-scopes).within

pub cells-requires-clause-table : goal.cells-requires-clause-table
cells-requires-clause-table g c = (seen g (goal.at.cells-requires-clause-table g c).After-deref-scopes).within

pub runs_where-run-requires : goal.runs_where-run-requires
runs_where-run-requires g c =
    let k = seen g (goal.at.runs_where-run-requires g c).After-deref-scopes in
    subst (λ (x : ScopeOf). HasEvent x c.args.event.now) (sym (c.scope-scope.ensures ∙ k.scope)) c.requires.event

pub plus_of_listed-requires-clause-within : goal.plus_of_listed-requires-clause-within
plus_of_listed-requires-clause-within g c =
    let chosen_there = chosen g (goal.at.plus_of_listed-requires-clause-within g c).After-as_slice in
    let n : c.cells-2.result ≡ cells_in c.scope-scope.result.now = c.cells-2.ensures.cells in
    rw (chosen_there, n) (where_within c.scope-scope.result.now c.args.event.now)

pub plus_of_listed-requires-clause-room : goal.plus_of_listed-requires-clause-room
plus_of_listed-requires-clause-room g c =
    let at = goal.at.plus_of_listed-requires-clause-room g c in let read = parts g at.After-as_slice (seen g at.After-deref-scopes) in
    let runs = runs_of c.runs_where-run.result c.as_slice.result.now in let scope = (table_in c.args.self.now c.args.k).scope in
    let e : length runs ≡ length (cells_where scope c.args.event.now) = ap (λ (zs : List ℕ). length zs)
    (chosen g at.After-as_slice ∙ ap (λ (x : ScopeOf). cells_where x c.args.event.now) read.scope_is) in
    parts_room _ _ _ _ _ read (2 * cells_in scope) (2 * length runs) c.requires.room (omega (arith, few g at.After-as_slice scope read.scope_is, e))

pub returns-clause-stands : goal.returns-clause-stands
returns-clause-stands g c = λ j f n h.
    let at = goal.at.returns-clause-stands g c in let read = parts g at.After-as_slice (seen g at.After-deref-scopes) in
    let now = table_in c.args.self.now c.args.k in let event = c.args.event.now in let R = g.R.Semiring in
    let runs = runs_of c.runs_where-run.result c.as_slice.result.now in
    let od = filled one_digits c.cells-2.result c.cells.result.0.now in let oe = filled one_exponent c.cells-2.result c.cells.result.1.now in
    let chosen_now : runs ≡ cells_where now.scope event = chosen g at.After-as_slice ∙ ap (λ (x : ScopeOf). cells_where x event) read.scope_is in
    let listed : StandListed j od oe f n 0 runs =
    subst (λ (zs : List ℕ). StandListed j od oe f n 0 zs) (sym chosen_now)
    (subst (λ (zs : List ℕ). StandListed j zs oe f n 0 (cells_where now.scope event)) (sym read.digits_are)
    (subst (λ (zs : List ℕ). StandListed j now.digits zs f n 0 (cells_where now.scope event)) (sym read.exponents_are) h)) in
    let cell = c.plus_of_listed.result in
    total_stands R.plus_of j cell.digits cell.exponent (cells_where now.scope event) (cells_in now.scope) f n (few g at.After-as_slice now.scope read.scope_is)
    (subst (λ (zs : List ℕ). StandsAt j cell.digits cell.exponent (plus_over R.plus_of 0 (λ i. f (0 + i)) zs) (n + 2 * length zs)) chosen_now
    (c.plus_of_listed.ensures j f n listed))

pub returns-clause-full : goal.returns-clause-full
returns-clause-full g c = (seen g (goal.at.returns-clause-full g c).After-deref-scopes).full
