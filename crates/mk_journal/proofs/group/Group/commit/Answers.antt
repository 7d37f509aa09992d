use Rattle.std.proofs.Common.{◌≡◌, ℕ, ◌<◌, List, ◌∷◌, ◌++◌, [], length, sym, ◌∙◌, ap, subst, arith}
use Rattle.mk_journal.specs.Store.{AreRecords, opened, IsWithOrWithout}
use Rattle.mk_journal.specs.Kept.{IsSettled}
use Rattle.mk_journal.specs.Moments.{LeavesOnly}
use Rattle.mk_journal.proofs.Grouping.{is_nothing, not_empty, split, behind_gate, settled_none, settled_some}
use Rattle.mk_journal.proofs.group.Group.commit.Given.{Over}
use Rattle.mk_journal.proofs.group.Group.commit.Goals.{After-append-appended}
use Rattle.mk_journal.proofs.group.Group.commit.Goals as goal

pub returns-then-is_empty-clause-settled : goal.returns-then-is_empty-clause-settled
returns-then-is_empty-clause-settled g c n market records group named is are settled =
    settled_none records group c.self.inside.bytes.items (omega (arith, is_nothing _ (sym c.is_empty.ensures ∙ c.if-is_empty.true))) (c.self.view_is ∙ is) settled

-- what a crash in the append leaves
leaves : (g : Over) (c : After-append-appended g) (n market : List ℕ)
    (records group : List (List ℕ)) → n ≡ g.K.Disk.open_name c.args.disk.now
    → c.args.self.now ≡ opened group → AreRecords group
    → IsSettled (g.K.Disk.file c.args.disk.now n) (g.K.Disk.may_leave c.args.disk.now n) market
    records c.args.gate
    → LeavesOnly (g.K.Disk.moment c.args.disk.now) (g.K.Disk.moment c.append-appended.new.disk)
    (g.K.Disk.left_since c.args.disk.now n) (g.K.Disk.left_since c.append-appended.new.disk n)
    (IsWithOrWithout market records group)
leaves g c n market records group named is are settled =
    let some : 0 < length c.args.self.now = omega (arith, ap length c.self.view_is, not_empty _ (sym c.is_empty.ensures ∙ c.if-is_empty.false)) in
    let s = split group c.args.self.now is some in
    let items = c.deref.ensures.value ∙ c.push_reserved.ensures.items ∙ ap (λ (l : List ℕ). l ++ 0 ∷ []) (c.self.view_is ∙ is ∙ ap opened s.parts) in
    subst (λ (x : List (List ℕ)). LeavesOnly (g.K.Disk.moment c.args.disk.now) (g.K.Disk.moment c.append-appended.new.disk) (g.K.Disk.left_since c.args.disk.now n) (g.K.Disk.left_since c.append-appended.new.disk n) (IsWithOrWithout market records x)) (sym s.parts)
    (c.append-appended.ensures.any_moment n market s.first records s.others named (behind_gate s.first s.others _ items) (subst AreRecords s.parts are) settled)

pub returns-in_err-appended-clause-any_moment : goal.returns-in_err-appended-clause-any_moment
returns-in_err-appended-clause-any_moment g c n market records group named is are settled = leaves g
    (goal.at.returns-in_err-appended-clause-any_moment g c).After-append-appended n market records
    group named is are settled

pub returns-clause-settled : goal.returns-clause-settled
returns-clause-settled g c n market records group named is are settled =
    let some : 0 < length c.args.self.now = omega (arith, ap length c.self.view_is, not_empty _ (sym c.is_empty.ensures ∙ c.if-is_empty.false)) in
    let s = split group c.args.self.now is some in
    let items = c.deref.ensures.value ∙ c.push_reserved.ensures.items ∙ ap (λ (l : List ℕ). l ++ 0 ∷ []) (c.self.view_is ∙ is ∙ ap opened s.parts) in
    settled_some records group s.first s.others c.args.gate _ _ s.parts (omega (arith, ap length items, c.len-size.ensures, c.push_reserved.ensures.len))
    (c.in_ok-appended.ensures.settled n market s.first records s.others named (behind_gate s.first s.others _ items) (subst AreRecords s.parts are) settled)

pub returns-clause-any_moment : goal.returns-clause-any_moment
returns-clause-any_moment g c n market records group named is are settled = leaves g
    (goal.at.returns-clause-any_moment g c).After-append-appended n market records group named is
    are settled
