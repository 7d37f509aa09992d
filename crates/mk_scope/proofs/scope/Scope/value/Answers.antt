use Rattle.std.proofs.Common.{◌-◌, arith}
use Rattle.std.proofs.lemmas.List.{get_or_read}
use Rattle.mk_scope.proofs.Kept.{column_at, column_read}
use Rattle.mk_scope.proofs.scope.Scope.value.Goals as goal

pub overflow_sub-variable : goal.overflow_sub-variable
overflow_sub-variable c =
    let k = column_at _ c.args.self.now _ _ _ _ c.self.invariant c.self.view_is c.args.variable c.args.cell c.requires.variable c.requires.cell in
    omega (arith, k.reached)

pub index-requires : goal.index-requires
index-requires c =
    let k = column_at _ c.args.self.now _ _ _ _ c.self.invariant c.self.view_is c.args.variable c.args.cell c.requires.variable c.requires.cell in
    omega (arith, k.started, c.self.inside.starts.ok.0)

pub index-requires-2 : goal.index-requires-2
index-requires-2 c =
    let k = column_at _ c.args.self.now _ _ _ _ c.self.invariant c.self.view_is c.args.variable c.args.cell c.requires.variable c.requires.cell in
    let s = get_or_read c.self.inside.starts.items (c.args.variable - c.self.inside.first) _ k.started c.index.ensures 0 in
    omega (arith, k.within, s, c.self.inside.columns.ok.0)

pub returns : goal.returns
returns c =
    let k = column_at _ c.args.self.now _ _ _ _ c.self.invariant c.self.view_is c.args.variable c.args.cell c.requires.variable c.requires.cell in
    let s = get_or_read c.self.inside.starts.items (c.args.variable - c.self.inside.first) _ k.started c.index.ensures 0 in
    column_read c.self.inside.columns.items _ _ c.args.cell _ _ s k.within k.value c.index-2.ensures
