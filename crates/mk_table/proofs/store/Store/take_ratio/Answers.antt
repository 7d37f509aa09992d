use Rattle.std.proofs.Common.{◌+◌, ap}
use Rattle.mk_table.specs.declared.store.Head.{Head}
use Rattle.mk_table.specs.inner.Store.{head_in, scope_in}
use Rattle.mk_table.proofs.Stored.{head_is, read_there, ratios_store, ratios_tables}
use Rattle.mk_table.proofs.store.Store.take_ratio.Goals as goal

pub returns-clause-ratios : goal.returns-clause-ratios
returns-clause-ratios c =
    record {
      store =
          ratios_store _ _ _ _ _ _ _ c.requires.opened.store c.requires.opened.heads c.args.k c.requires.table c.index_mut-head.result.now c.index_mut-head.ensures.value (c.index_mut-head.result.now.shift + 40) (c.take_either.new.touched)
          (c.take_either.ensures.variables (scope_in c.args.scopes.now c.args.k) (read_there _ _ _ _ _ _ _ c.requires.opened.store c.requires.opened.heads c.args.k c.requires.table c.index_mut-head.result.now c.index_mut-head.ensures.value) c.requires.event);
      tables =
          ratios_tables _ _ _ _ _ _ _ c.requires.opened.store c.requires.opened.heads c.args.k c.requires.table c.index_mut-head.result.now c.index_mut-head.ensures.value (c.index_mut-head.result.now.shift + 40) ((head_in c.args.self.now.heads.items c.args.k).shift + 40) (c.take_either.new.touched)
          (ap (λ (y : Head). y.shift + 40) (head_is _ _ _ _ _ _ _ c.requires.opened.store c.requires.opened.heads c.args.k c.requires.table c.index_mut-head.result.now c.index_mut-head.ensures.value));
    }
