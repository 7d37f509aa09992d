use Rattle.std.proofs.Common.{ap}
use Rattle.mk_table.specs.declared.store.Head.{Head}
use Rattle.mk_table.specs.inner.Store.{head_in}
use Rattle.mk_table.proofs.Stored.{head_is, read_there, ratios_store, ratios_tables}
use Rattle.mk_table.proofs.Untouched.{larger_touched}
use Rattle.mk_table.proofs.store.Store.put_ratios.Goals as goal

pub returns-clause-ratios : goal.returns-clause-ratios
returns-clause-ratios c =
    record {
      store =
          ratios_store _ _ _ _ _ _ _ c.requires.opened.store c.requires.opened.heads c.args.k c.requires.table c.index_mut-head.result.now c.index_mut-head.ensures.value (c.index.result.now.shift) (c.index-2.result.now.touched)
          (larger_touched _ _ c.index-2.result.now.touched c.requires.lies_in (read_there _ _ _ _ _ _ _ c.requires.opened.store c.requires.opened.heads c.args.message c.requires.message_table c.index-2.result.now c.index-2.ensures));
      tables =
          ratios_tables _ _ _ _ _ _ _ c.requires.opened.store c.requires.opened.heads c.args.k c.requires.table c.index_mut-head.result.now c.index_mut-head.ensures.value (c.index.result.now.shift) ((head_in c.args.self.now.heads.items c.args.message).shift) (c.index-2.result.now.touched)
          (ap (λ (y : Head). y.shift) (head_is _ _ _ _ _ _ _ c.requires.opened.store c.requires.opened.heads c.args.message c.requires.message_table c.index.result.now c.index.ensures));
    }
