use Rattle.std.proofs.Common.{◌<◌, subst, sym, ◌∙◌, zero-add}
use Rattle.std.proofs.lemmas.List.FromFn.{length-range_with_len, get_or-range_with_len}
use Rattle.mk_passes.proofs.made.FirstListed.at.Goals as goal

pub returns : goal.returns
returns c = sym (get_or-range_with_len 0 c.args.self.0 c.args.place 0 (subst (λ n. c.args.place < n) (length-range_with_len 0 c.args.self.0) c.requires) ∙ zero-add c.args.place)
