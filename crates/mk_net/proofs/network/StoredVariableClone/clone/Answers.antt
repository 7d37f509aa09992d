use Rattle.std.specs.List.{each_same}
use Rattle.mk_net.proofs.Copied.{copied_rows, same_fields}
use Rattle.mk_net.proofs.network.StoredVariableClone.clone.Goals as goal

pub returns : goal.returns
returns c = record {
  cases = same_fields c.args.self.now
      (record {
        values = c.in_ok-values.values;
        parents = c.in_ok-parents.parents;
        rows =
            c.in_ok-rows.rows;
      })
      (each_same c.args.self.now.values.keys c.in_ok-values.values.keys c.in_ok-values.ensures.cases)
      (each_same c.args.self.now.parents.items c.in_ok-parents.parents.items c.in_ok-parents.ensures.cases.0)
      (copied_rows c.args.self.now.rows.items c.in_ok-rows.rows.items c.in_ok-rows.ensures.cases.0);
}
