use Rattle.std.proofs.Common.{take, map, string_bytes, sym, ap, ◌∙◌, arith}
use Rattle.std.specs.Prelude.{is_none}
use Rattle.mk_file.proofs.Cliqued.{reads_none, clique_more, clique_unknown, clique_double, clique_within}
use Rattle.mk_file.proofs.cliques.read_clique.Goals as goal

pub names-init : goal.names-init
names-init c = reads_none c.args.net.now c.empty-set.result c.empty-set.ensures.set c.empty-set.ensures.members

pub returns-in_err-number-clause-none : goal.returns-in_err-number-clause-none
returns-in_err-number-clause-none c =
    ap is_none c.from_residual.ensures
    ∙ sym (clique_unknown c.args.net.now c.args.names.now c.names.name-index c.name-item.result (omega arith) c.name-item.is
    (rw c.as_str.ensures.value at c.in_err-number.ensures.first))

pub returns-then-has-clause-none : goal.returns-then-has-clause-none
returns-then-has-clause-none c =
    sym (clique_double c.args.net.now c.args.names.now c.names.name-index c.name-item.result c.names.set c.in_ok-number.number (omega arith) c.name-item.is
    c.names.invariant (rw c.as_str.ensures.value at c.in_ok-number.ensures.first) (sym c.has.ensures ∙ c.if-has.true))

pub names-preserved : goal.names-preserved
names-preserved c =
    clique_more c.args.net.now c.args.names.now c.names.name-index c.name-item.result c.names.set c.with-set.result c.in_ok-number.number (omega arith) c.name-item.is
    c.names.invariant (rw c.as_str.ensures.value at c.in_ok-number.ensures.first) (sym c.has.ensures ∙ c.if-has.false) c.with-set.ensures.set c.with-set.ensures.members

pub returns-clause-within : goal.returns-clause-within
returns-clause-within c = clique_within c.args.net.now (map (λ s. string_bytes s) (take c.names.name-index c.args.names.now)) c.names.set c.names.invariant
