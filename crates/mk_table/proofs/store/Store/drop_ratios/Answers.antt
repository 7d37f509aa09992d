use Rattle.std.proofs.Common.{refl}
use Rattle.std.specs.Prelude.{None}
use Rattle.mk_table.proofs.Stored.{ratios_store, ratios_tables}
use Rattle.mk_table.proofs.store.Store.drop_ratios.Goals as goal

pub returns-clause-ratios : goal.returns-clause-ratios
returns-clause-ratios c =
    record {
      store =
          ratios_store _ _ _ _ _ _ _ c.requires.opened.store c.requires.opened.heads c.args.k c.requires.table c.index_mut-head.result.now c.index_mut-head.ensures.value 0 None tt;
      tables =
          ratios_tables _ _ _ _ _ _ _ c.requires.opened.store c.requires.opened.heads c.args.k c.requires.table c.index_mut-head.result.now c.index_mut-head.ensures.value 0 0 None refl;
    }
