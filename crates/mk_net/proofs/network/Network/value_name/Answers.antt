use Rattle.std.specs.Prelude.{List, slice_index_or, []}
use Rattle.std.proofs.Common.{ℕ, ◌∙◌, sym, ap, arith}
use Rattle.std.proofs.lemmas.Option.{get_or_from_slice_get}
use Rattle.mk_net.proofs.StoredReads.{size_stored, values_stored}
use Rattle.mk_net.proofs.network.Network.value_name.Goals as goal

pub index-requires-2 : goal.index-requires-2
index-requires-2 c =
    omega (arith, c.requires.value, size_stored c.self.inside.variables.entries _ c.self.view_is c.args.variable c.index.result.now c.requires.variable c.index.ensures)

pub returns : goal.returns
returns c =
    sym (ap (λ (names : List (List ℕ)). slice_index_or names c.args.value [])
    (values_stored c.self.inside.variables.entries c.args.self.now c.self.view_is c.args.variable c.index.result.now c.index.ensures)
    ∙ get_or_from_slice_get c.index.result.now.values.keys c.args.value c.index-2.result.now [] c.index-2.ensures)
