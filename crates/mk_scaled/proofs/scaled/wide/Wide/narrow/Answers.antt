use Rattle.std.proofs.Common.{arith}
use Rattle.mk_scaled.proofs.Cut.{cut_room, same_with_rest, same_cut}
use Rattle.mk_scaled.proofs.scaled.wide.Wide.narrow.Goals as goal

pub overflow_cast-result-2 : goal.overflow_cast-result-2
overflow_cast-result-2 c = let r = cut_room c.args.self.digits c.args.self.exponent _ c.requires c.saturating_sub-shift.ensures in let h = r.0.below in omega arith

pub overflow_add-result : goal.overflow_add-result
overflow_add-result c = let r = cut_room c.args.self.digits c.args.self.exponent _ c.requires c.saturating_sub-shift.ensures in let h = r.1 in omega arith

pub returns-then-self-clause-form : goal.returns-then-self-clause-form
returns-then-self-clause-form c = (cut_room _ _ _ c.requires c.saturating_sub-shift.ensures).0

pub returns-then-self-clause-room : goal.returns-then-self-clause-room
returns-then-self-clause-room c = (cut_room c.args.self.digits c.args.self.exponent _ c.requires c.saturating_sub-shift.ensures).1

pub returns-then-self-clause-same : goal.returns-then-self-clause-same
returns-then-self-clause-same c = λ x h. rw c.if-self.true (same_with_rest _ _ _ x (rw c.if-self.true at h))

pub returns-else-self-clause-form : goal.returns-else-self-clause-form
returns-else-self-clause-form c = (cut_room _ _ _ c.requires c.saturating_sub-shift.ensures).0

pub returns-else-self-clause-room : goal.returns-else-self-clause-room
returns-else-self-clause-room c = (cut_room c.args.self.digits c.args.self.exponent _ c.requires c.saturating_sub-shift.ensures).1

pub returns-else-self-clause-same : goal.returns-else-self-clause-same
returns-else-self-clause-same c = λ x h. let s = c.saturating_sub-shift.ensures in same_cut _ _ _ x (omega arith) (rw c.if-self.false at h)
