use Rattle.std.proofs.Common.{◌+◌, length, arith}
use Rattle.mk_cell.specs.inner.Laws.{stands_with_more}
use Rattle.mk_semiring.proofs.most.MaxProdSemiring.over.Goals as goal

pub returns : goal.returns
returns c = λ k f n h.
    stands_with_more k _ _ _ n (n + length c.args.digits.now) (omega arith)
    (c.greatest.ensures k f n h)
