use Rattle.std.specs.Prelude.{◌<◌, List, length, slice_index}
use Rattle.std.proofs.Common.{ℕ, arith, ◌∙◌, sym, ap}
use Rattle.std.proofs.lemmas.List.{length-map, get_or_read}
use Rattle.mk_net.proofs.StoredReads.{rows_stored, row_stored, row_length}
use Rattle.mk_net.proofs.network.Network.entry.Goals as goal

pub index-requires-2 : goal.index-requires-2
index-requires-2 c =
    omega (
      arith,
      c.requires.row,
      c.index.result.now.rows.ok.0,
      length-map c.index.result.now.rows.items (λ row. row.items),
      ap (λ (rows : List (List ℕ)). length rows) (rows_stored c.self.inside.variables.entries _ c.self.view_is c.args.variable c.index.result.now c.index.ensures),
    )

pub index-requires-3 : goal.index-requires-3
index-requires-3 c =
    omega (
      arith,
      c.requires.value,
      row_length c.self.inside.variables.entries _ c.self.view_is c.args.variable c.args.row c.index.result.now c.index-2.result.now
          (rw c.self.view_is at c.self.invariant.network) c.requires.variable c.index.ensures c.requires.row c.index-2.ensures,
    )

pub returns : goal.returns
returns c =
    let inside : c.args.value < length c.index-2.result.now.items =
    omega (
      arith,
      c.requires.value,
      c.index-2.result.now.ok.0,
      row_length c.self.inside.variables.entries _ c.self.view_is c.args.variable c.args.row c.index.result.now c.index-2.result.now
          (rw c.self.view_is at c.self.invariant.network) c.requires.variable c.index.ensures c.requires.row c.index-2.ensures,
    ) in
    get_or_read c.index-2.result.now.items _ _ inside c.index-3.ensures 0
    ∙ sym (ap (λ (row : List ℕ). slice_index row c.args.value)
    (row_stored c.self.inside.variables.entries c.args.self.now c.self.view_is c.args.variable c.args.row c.index.result.now c.index-2.result.now c.index.ensures c.requires.row c.index-2.ensures))
