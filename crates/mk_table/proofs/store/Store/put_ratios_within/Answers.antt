use Rattle.std.proofs.Common.{ap, subst}
use Rattle.mk_table.specs.declared.store.Head.{Head}
use Rattle.mk_table.specs.inner.Store.{head_in}
use Rattle.mk_table.proofs.Stored.{head_is, ratios_store, ratios_tables}
use Rattle.mk_scope.specs.Scopes.{ScopeOf}
use Rattle.mk_table.specs.inner.Touched.{HasTouched}
use Rattle.mk_table.proofs.store.Store.put_ratios_within.Goals as goal

pub returns-clause-ratios : goal.returns-clause-ratios
returns-clause-ratios c =
    record {
      store =
          ratios_store _ _ _ _ _ _ _ c.requires.opened.store c.requires.opened.heads c.args.out c.requires.out_table c.index_mut-head.result.now c.index_mut-head.ensures.value (c.index.result.now.shift) (c.put_within.new.out)
          (subst (λ (s : ScopeOf). HasTouched s c.put_within.new.out) c.scope.ensures c.put_within.ensures.there);
      tables =
          ratios_tables _ _ _ _ _ _ _ c.requires.opened.store c.requires.opened.heads c.args.out c.requires.out_table c.index_mut-head.result.now c.index_mut-head.ensures.value (c.index.result.now.shift) ((head_in c.args.self.now.heads.items c.args.k).shift) (c.put_within.new.out)
          (ap (λ (y : Head). y.shift) (head_is _ _ _ _ _ _ _ c.requires.opened.store c.requires.opened.heads c.args.k c.requires.table c.index.result.now c.index.ensures));
    }
