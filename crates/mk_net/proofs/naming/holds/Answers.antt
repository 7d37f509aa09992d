use Rattle.std.proofs.Common.{◌∙◌, sym, rules, tests, string_bytes}
use Rattle.std.proofs.lemmas.Iterator.{YieldsList-from_slice}
use Rattle.std.proofs.lemmas.Iterator.Search.{any_from_yields_List}
use Rattle.mk_names.specs.Texts.{same_text}
use Rattle.mk_net.proofs.Mapped.{any_of_map}
use Rattle.mk_net.proofs.naming.holds.Goals as goal

pub returns : goal.returns
returns c =
    any_from_yields_List (λ s. same_text c.args.text.now (string_bytes s)) _ _ c.any.result c.any.ensures.ran (YieldsList-from_slice c.args.others.now cc) (λ x b q k. search (rules, tests))
    ∙ sym (any_of_map string_bytes (same_text c.args.text.now) c.args.others.now)
