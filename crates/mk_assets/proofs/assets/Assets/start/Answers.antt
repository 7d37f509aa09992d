use Rattle.std.proofs.Common.{refl, sym, arith}
use Rattle.mk_net.specs.Zeros.{with_zeros}
use Rattle.mk_assets.proofs.Supported.{no_trades}
use Rattle.mk_assets.proofs.assets.Assets.start.Goals as goal

pub returns : goal.returns
returns g c = λ tree known planned.
    record {
      stands = c.in_ok-supported.ensures tree planned;
      some_learnt = omega arith;
      counted = sym (no_trades (with_zeros c.args.net.now));
      net = record { same = refl };
      few_in = omega arith;
      few_out = omega arith;
    }
