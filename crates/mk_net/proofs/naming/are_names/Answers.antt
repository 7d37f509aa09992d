use Rattle.std.proofs.Common.{◌∙◌, sym, rules, tests, string_bytes}
use Rattle.std.proofs.lemmas.Iterator.{YieldsList-from_slice}
use Rattle.std.proofs.lemmas.Iterator.Search.{all_from_yields_List}
use Rattle.mk_names.specs.Name.{is_name}
use Rattle.mk_net.proofs.Mapped.{all_of_map}
use Rattle.mk_net.proofs.naming.are_names.Goals as goal

pub returns : goal.returns
returns c =
    all_from_yields_List (λ s. is_name (string_bytes s)) _ _ c.all.result c.all.ensures.ran (YieldsList-from_slice c.args.texts.now cc) (λ x b q k. search (rules, tests))
    ∙ sym (all_of_map string_bytes is_name c.args.texts.now)
