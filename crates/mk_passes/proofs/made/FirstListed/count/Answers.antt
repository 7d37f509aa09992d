use Rattle.std.proofs.Common.{sym}
use Rattle.std.proofs.lemmas.List.FromFn.{length-range_with_len}
use Rattle.mk_passes.proofs.made.FirstListed.count.Goals as goal

pub returns : goal.returns
returns c = sym (length-range_with_len 0 c.args.self.0)
