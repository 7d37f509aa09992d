use Rattle.std.specs.Prelude.{◌==◌}
use Rattle.std.specs.List.{list_any}
use Rattle.std.proofs.Common.{◌∙◌, ℕ, List, Vec, Global, sym, rules, tests}
use Rattle.std.proofs.lemmas.Iterator.{YieldsList-from_slice}
use Rattle.std.proofs.lemmas.Iterator.Search.{any_from_yields_List}
use Rattle.mk_net.proofs.Mapped.{any_of_map}
use Rattle.mk_net.proofs.network.build.has_zero.Goals as goal

pub returns : goal.returns
returns c =
    any_from_yields_List (λ (row : Vec ℕ Global). list_any (λ share. share == 0) row.items) _ _ c.any.result c.any.ensures.ran (YieldsList-from_slice c.args.rows.now cc) (λ x b q k. search (rules, tests))
    ∙ sym (any_of_map (λ (row : Vec ℕ Global). row.items) (λ (row : List ℕ). list_any (λ share. share == 0) row) c.args.rows.now)
