use Rattle.std.proofs.Common.{slice_set, sym, subst, ◌∙◌, arith}
use Rattle.std.proofs.lemmas.List.{length-set}
use Rattle.std.proofs.lemmas.List.Elements.{All-set}
use Rattle.mk_user_engine.specs.declared.group.Group.{Group}
use Rattle.mk_user_engine.specs.Grouped.{IsGroup}
use Rattle.mk_user_engine.proofs.Beginning.{named_set, apart_more, names_set_same, apart_by}
use Rattle.mk_user_engine.proofs.groups.Groups.name.Goals as goal

pub returns-clause-grown : goal.returns-clause-grown
returns-clause-grown c = λ sizes is size.
    let gs = c.args.self.now.list.items in let k = c.args.place in
    let there = c.index_mut.ensures in let made = c.name.ensures in
    let old = c.index_mut.result.now in let new = c.name.new.self in
    let is_old : IsGroup sizes old =
    subst (λ (g : Group). IsGroup sizes g) (sym there.value) (is.each k old c.requires.place) in
    record {
      each = All-set (IsGroup sizes) gs k new (made.grown sizes is_old size) is.each;
      apart = apart_by (slice_set gs k new) c.name.result
          (λ e. apart_more gs (slice_set gs k new) k c.args.variable
          (named_set gs k c.args.variable old new c.requires.place there.value (made.named e))
          c.requires.free is.apart)
          (λ e x p q a b. is.apart x p q
          (sym (names_set_same gs k old new c.requires.place there.value (made.left e) p x) ∙ a)
          (sym (names_set_same gs k old new c.requires.place there.value (made.left e) q x) ∙ b));
      room = is.room;
      few = omega (arith, is.few, length-set gs k new);
    }

pub returns-clause-named : goal.returns-clause-named
returns-clause-named c = λ e.
    let gs = c.args.self.now.list.items in
    let there = c.index_mut.ensures in let made = c.name.ensures in
    named_set gs c.args.place c.args.variable c.index_mut.result.now c.name.new.self
    c.requires.place there.value (made.named e)

pub returns-clause-left : goal.returns-clause-left
returns-clause-left c = λ e k x.
    let gs = c.args.self.now.list.items in
    let there = c.index_mut.ensures in let made = c.name.ensures in
    names_set_same gs c.args.place c.index_mut.result.now c.name.new.self c.requires.place
    there.value (made.left e) k x
