use Rattle.std.proofs.Common.{◌∙◌}
use Rattle.mk_table.proofs.Made.{seen_within, seen_shift}
use Rattle.mk_table.proofs.tables.Tables.shift.Goals as goal

pub returns : goal.returns
returns g c =
    let now = c.args.self.now in let k = c.args.k in let is = c.self.invariant.store_is in
    let within = seen_within c.self.inside.scopes.value c.self.inside.store.heads.items c.self.inside.store.digits.items c.self.inside.store.exponents.items now c.self.view_is k c.requires.table in
    c.shift.ensures ∙ seen_shift c.self.inside.scopes.value c.self.inside.store.heads.items c.self.inside.store.digits.items c.self.inside.store.exponents.items _ _ _ is now c.self.view_is k within
