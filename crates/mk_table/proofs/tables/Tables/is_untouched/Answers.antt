use Rattle.std.proofs.Common.{List, ap, ◌∙◌}
use Rattle.std.specs.Prelude.{Option}
use Rattle.mk_net.specs.declared.words.Pair.{Pair}
use Rattle.mk_table.specs.Tables.{is_untouched_by}
use Rattle.mk_table.proofs.Made.{seen_within, seen_touched}
use Rattle.mk_table.proofs.tables.Tables.is_untouched.Goals as goal

pub returns : goal.returns
returns g c =
    let now = c.args.self.now in let k = c.args.k in let is = c.self.invariant.store_is in
    let within = seen_within c.self.inside.scopes.value c.self.inside.store.heads.items c.self.inside.store.digits.items c.self.inside.store.exponents.items now c.self.view_is k c.requires.table in
    c.is_untouched.ensures ∙ ap (λ (u : Option (List Pair)). is_untouched_by u c.args.event.now) (seen_touched c.self.inside.scopes.value c.self.inside.store.heads.items c.self.inside.store.digits.items c.self.inside.store.exponents.items _ _ _ is now c.self.view_is k within)
