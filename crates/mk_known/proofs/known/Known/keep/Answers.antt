use Rattle.std.proofs.Common.{Some, option_map, ap, ◌∙◌, set}
use Rattle.std.proofs.lemmas.List.{map-set}
use Rattle.mk_known.specs.inner.Givens.{quote_in}
use Rattle.mk_known.specs.Known.{Knowledge}
use Rattle.mk_known.proofs.known.Known.keep.Goals as goal

pub returns-clause-quotes : goal.returns-clause-quotes
returns-clause-quotes c = map-set (option_map quote_in) c.self.inside.quotes.items c.args.user (Some c.args.given)
    ∙ ap (λ (k : Knowledge). set k.quotes c.args.user (Some (quote_in c.args.given))) c.self.view_is
