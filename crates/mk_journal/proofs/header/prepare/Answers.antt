use Rattle.std.proofs.Common.{length, ap, sym, ◌∙◌}
use Rattle.mk_journal.specs.inner.MomentLaws.{then}
use Rattle.mk_journal.proofs.header.prepare.Goals as goal

pub returns-in_err-close_gate-in-Short-clause-any_moment :
    goal.returns-in_err-close_gate-in-Short-clause-any_moment
returns-in_err-close_gate-in-Short-clause-any_moment g c n market f named body short kept = c.close_gate.ensures.any_moment n market f named (rw c.in-Short.is at short) kept

pub returns-in_ok-close_gate-in-Short-clause-any_moment :
    goal.returns-in_ok-close_gate-in-Short-clause-any_moment
returns-in_ok-close_gate-in-Short-clause-any_moment g c n market f named body short kept =
    then (c.close_gate.ensures.any_moment n market f named (rw c.in-Short.is at short) kept)
    (c.write_header.ensures.any_moment n market (named ∙ sym c.close_gate.ensures.stays_name) body (c.in_ok-close_gate-in-Short.ensures.cleared n market f named (rw c.in-Short.is at short) kept))

pub returns-in-Cleared-clause-any_moment : goal.returns-in-Cleared-clause-any_moment
returns-in-Cleared-clause-any_moment g c n market f named body cleared kept =
    c.write_header-in-Cleared.ensures.any_moment n market named body (record { bytes = f; kept = kept; is = rw c.in-Cleared.is at cleared })

pub returns-in-Written-clause-headed : goal.returns-in-Written-clause-headed
returns-in-Written-clause-headed g c n market f named body written kept =
    let stands = rw c.in-Written.is at written in
    c.close_first_gate.ensures.headed n market f named (ap length body) stands.0 stands.1 kept

pub returns-in-Written-clause-any_moment : goal.returns-in-Written-clause-any_moment
returns-in-Written-clause-any_moment g c n market f named body written kept =
    let stands = rw c.in-Written.is at written in
    c.close_first_gate.ensures.any_moment n market f named (ap length body) stands.0 stands.1 kept
