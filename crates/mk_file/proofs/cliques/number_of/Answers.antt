use Rattle.std.proofs.Common.{◌∙◌, sym}
use Rattle.std.proofs.lemmas.Bool.{false≢true}
use Rattle.mk_names.specs.Name.{IsName}
use Rattle.mk_file.proofs.Cliqued.{unnamed}
use Rattle.mk_file.proofs.cliques.number_of.Goals as goal

pub returns-in_err-name-clause-first : goal.returns-in_err-name-clause-first
returns-in_err-name-clause-first c =
    let other : IsName c.as_bytes.result.now → ⊥ = λ name. false≢true (c.in_err-name.ensures.some.1 name) in
    c.from_residual.ensures ∙ sym (unnamed c.args.net.now c.args.name.now c.requires (rw c.as_bytes.ensures.value at other))
