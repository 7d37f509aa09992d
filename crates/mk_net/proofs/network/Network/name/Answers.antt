use Rattle.std.specs.Prelude.{◌≡◌, ◌<◌, length, []}
use Rattle.std.proofs.Common.{◌∙◌, sym, arith}
use Rattle.std.specs.Map.{keys_of}
use Rattle.std.proofs.lemmas.List.{length-map, get_or_read}
use Rattle.mk_net.proofs.StoredReads.{name_stored, length_stored}
use Rattle.mk_net.proofs.network.Network.name.Goals as goal

pub returns : goal.returns
returns c =
    let keys : c.as_slice.result.now ≡ keys_of c.self.inside.variables.entries = c.as_slice.ensures ∙ c.keys.ensures.rest in
    let inside : c.args.variable < length (keys_of c.self.inside.variables.entries) =
    omega (arith, c.requires, length_stored c.self.inside.variables.entries c.args.self.now c.self.view_is, length-map c.self.inside.variables.entries (λ e. e.0)) in
    get_or_read (keys_of c.self.inside.variables.entries) _ _ inside (rw keys at c.index-as_slice-variable.is) []
    ∙ sym (name_stored c.self.inside.variables.entries c.args.self.now c.self.view_is c.args.variable c.requires)
