use Rattle.std.proofs.Common.{◌+◌, ℤ, pos, get_or, drop, take, SFits, w64, to_z-of_z, sym, ap, ◌∙◌, arith, rules}
use Rattle.std.specs.Prelude.{nat_abs}
use Rattle.std.proofs.lemmas.List.{take_more}
use Rattle.mk_net.specs.Firsts.{fault_if}
use Rattle.mk_file.specs.declared.fault.FileFault.TheVariants.{Link}
use Rattle.mk_file.specs.Cliques.{link_at}
use Rattle.mk_file.proofs.Firsts.{dropped_at, pushed, first_passes, first_stops}
use Rattle.mk_file.proofs.cliques.read_links.Goals as goal

pub returns-in-None-clause-fault : goal.returns-in-None-clause-fault
returns-in-None-clause-fault c _ =
    let k = c.links.clique + 1 in
    let i = c.links.link-index in
    let links = c.args.links.now in
    let link : ℤ = get_or links i (pos 0) in
    let fits : SFits w64 link = search rules in
    let bad = simp to_z-of_z at c.in-None.ensures.none in
    c.links.invariant.left
    ∙ first_stops link_at k (drop i links) (drop (i + 1) links) link (Link k) (dropped_at links i (pos 0) (omega arith)) (ap (λ bad. fault_if bad (Link k)) (sym bad))

pub links-preserved : goal.links-preserved
links-preserved c =
    let k = c.links.clique + 1 in
    let i = c.links.link-index in
    let links = c.args.links.now in
    let link : ℤ = get_or links i (pos 0) in
    let fits : SFits w64 link = search rules in
    let fine = simp to_z-of_z at c.in-Some.ensures in
    record {
      counted = omega arith;
      left = c.links.invariant.left
          ∙ first_passes link_at k (drop i links) (drop (i + 1) links) link (dropped_at links i (pos 0) (omega arith)) (ap (λ bad. fault_if bad (Link k)) (sym fine.none));
      read = pushed nat_abs c.links.read.items _ (take i links) (take (i + 1) links) link c.in-Some.link
          c.links.invariant.read c.in_ok-push-in-Some.ensures.items fine.some (take_more links i (pos 0) (omega arith));
    }
