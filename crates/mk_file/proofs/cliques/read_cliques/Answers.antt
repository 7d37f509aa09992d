use Rattle.std.proofs.Common.{◌+◌, [], ◌∷◌, map, drop, take, sym, ap, ◌∙◌, arith}
use Rattle.std.proofs.lemmas.List.{map-append}
use Rattle.std.proofs.lemmas.List.Elements.{All-push}
use Rattle.mk_net.specs.Drafts.{texts_of}
use Rattle.mk_net.specs.Firsts.{fault_if}
use Rattle.mk_file.specs.declared.fault.FileFault.TheVariants.{Clique}
use Rattle.mk_file.specs.inner.Known.{clique_in, set_in, IsSetOf}
use Rattle.mk_file.proofs.Firsts.{dropped, taken, pushed, first_passes, first_stops}
use Rattle.mk_file.proofs.cliques.read_cliques.Goals as goal

pub returns-in-None-clause-fault : goal.returns-in-None-clause-fault
returns-in-None-clause-fault c _ =
    let k = c.cliques.clique + 1 in
    let i = c.cliques.names-index in
    c.cliques.invariant.left
    ∙ first_stops (clique_in c.args.net.now) k (map texts_of (drop i c.args.cliques.now)) (map texts_of (drop (i + 1) c.args.cliques.now)) (texts_of c.names-item.result) (Clique k)
    (ap (λ xs. map texts_of xs) (dropped c.args.cliques.now i c.names-item.result (omega arith) c.names-item.is))
    (ap (λ bad. fault_if bad (Clique k)) (sym (rw c.deref.ensures.value at c.in-None.ensures.none)))

pub cliques-preserved : goal.cliques-preserved
cliques-preserved c =
    let k = c.cliques.clique + 1 in
    let i = c.cliques.names-index in
    let names = rw c.deref.ensures.value at c.in-Some.ensures in
    record {
      counted = omega arith;
      left = c.cliques.invariant.left
          ∙ first_passes (clique_in c.args.net.now) k (map texts_of (drop i c.args.cliques.now)) (map texts_of (drop (i + 1) c.args.cliques.now)) (texts_of c.names-item.result)
          (ap (λ xs. map texts_of xs) (dropped c.args.cliques.now i c.names-item.result (omega arith) c.names-item.is))
          (ap (λ bad. fault_if bad (Clique k)) (sym names.none));
      sets = pushed (set_in c.args.net.now) c.cliques.read.items _ (map texts_of (take i c.args.cliques.now)) (map texts_of (take (i + 1) c.args.cliques.now)) (texts_of c.names-item.result) c.in-Some.set
          c.cliques.invariant.sets c.in_ok-push-in-Some.ensures.items names.set
          (ap (λ xs. map texts_of xs) (taken c.args.cliques.now i c.names-item.result (omega arith) c.names-item.is) ∙ map-append texts_of (take i c.args.cliques.now) (c.names-item.result ∷ []));
      within = rw c.in_ok-push-in-Some.ensures.items (All-push (λ set. IsSetOf c.args.net.now set) c.cliques.read.items c.in-Some.set c.cliques.invariant.within names.within);
    }
