use Rattle.std.proofs.Common.{◌<◌, ◌≤◌, ℕ, List, [], map, take, length, slice_index, refl, sym, subst, arith}
use Rattle.std.proofs.lemmas.List.{length-map, length-take}
use Rattle.mk_engine.specs.Meaning.{SupportOf}
use Rattle.mk_assets.proofs.Supported.{zero_within, few_zeros}
use Rattle.mk_assets.proofs.assets.Assets.supported.Goals as goal

pub support-requires : goal.support-requires
support-requires g c =
    let a = c.requires in let net = c.args.net.now in let i = c.loop-variable.variable-index in let items = c.with_zeros-variable-items.result.now in
    let same = c.with_zeros-variable-items.ensures in
    let few = subst (λ (ks : List ℕ). length ks ≤ length net) (sym same) (few_zeros net) in
    let front = length-take i items in
    let mapped = length-map (take i items) SupportOf in
    record {
      meaning = record { network = net; tree = a.tree; factors = map SupportOf (take i items); known = [] };
      stands = c.loop-variable.invariant a.tree a.planned;
      of_network = refl;
      in_range = subst (λ (ks : List ℕ). i < length ks → slice_index ks i < length net) (sym same) (zero_within net i) c.loop-variable-test.true;
      room = omega (arith, few, front, mapped, a.legal.few);
    }
