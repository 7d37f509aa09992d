use Rattle.std.proofs.Common.{◌≡◌, ◌++◌, length, sym, ap, ◌∙◌, arith}
use Rattle.std.specs.Option.{option_to_list}
use Rattle.std.specs.Vec.Iter.{into_iter_items}
use Rattle.mk_record.proofs.Renewing.{renewed_next, renewed_all}
use Rattle.mk_record.proofs.users.Users.renew.Goals as goal

pub loop-member-preserved : goal.loop-member-preserved
loop-member-preserved g c =
    renewed_next _ _ c.loop-member.member-index _ (into_iter_items c.next.new.self) _
    c.member-item.result c.unwrap.result (omega arith)
    (c.next.ensures.items
    ∙ ap (λ o. option_to_list o ++ into_iter_items c.next.new.self) c.unwrap.ensures)
    c.loop-member.invariant

pub returns-clause-assets : goal.returns-clause-assets
returns-clause-assets g c =
    let value = c.deref_mut-member-items.ensures.value in
    let here : length c.args.self.now ≡ length c.deref_mut-member-items.result.now =
    cc (c.self.view_is, value) in
    let whole : c.self.inside.members.len ≡ length c.loop-member.member-items =
    c.self.inside.members.ok.0 ∙ ap length (sym value) ∙ sym c.loop-member.auto.member-items in
    renewed_all _ _ c.loop-member.member-index c.self.inside.members.len _ _ _
    (c.requires.one_each ∙ here) (omega arith) whole c.loop-member.invariant
