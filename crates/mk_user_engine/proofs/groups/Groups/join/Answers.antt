use Rattle.std.proofs.Common.{All, slice_index_or, slice_set, sym, ap, subst}
use Rattle.std.proofs.Common.{◌∙◌, arith}
use Rattle.std.proofs.lemmas.List.{length-set}
use Rattle.std.proofs.lemmas.List.Elements.{All-set}
use Rattle.mk_user_engine.specs.declared.group.Group.{Group}
use Rattle.mk_user_engine.specs.Names.{is_named}
use Rattle.mk_user_engine.specs.Grouped.{IsGroup, AreJoined}
use Rattle.mk_user_engine.proofs.Joining.{joined_names, joined_apart}
use Rattle.mk_user_engine.proofs.groups.Groups.join.Goals.{After-join}
use Rattle.mk_user_engine.proofs.groups.Groups.join.Goals as goal

-- the second group is taken, and what is left of both is in the place of the first
joined : (c : After-join) → AreJoined c.args.self.now.list.items
    (slice_set (slice_set c.args.self.now.list.items c.args.second c.replace-other.new.dest)
    c.args.first c.join.new.self) c.args.first c.args.second
joined c =
    let gs = c.args.self.now.list.items in let two = c.requires.two in
    let j = c.args.first in let k = c.args.second in let none = c.replace-other.new.dest in
    let took = c.replace-other.ensures in let there = c.index_mut.ensures in
    joined_names gs j k none c.join.new.self c.index_mut-2.result.now c.replace-other.result
    two.first two.second (length-set gs k none) two.differ c.index_mut-2.ensures.value
    (took.value ∙ there.value ∙ ap (λ (d : Group). slice_index_or gs k d) (sym took.value))
    (λ x. ap (λ (g : Group). is_named g.names.items x) took.after ∙ c.none.ensures.named x)
    c.join.ensures.named
    (length-set (slice_set gs k none) j c.join.new.self ∙ length-set gs k none)

pub returns-clause-joined : goal.returns-clause-joined
returns-clause-joined c = λ _. joined (goal.at.returns-clause-joined c).After-join

pub returns-clause-grown : goal.returns-clause-grown
returns-clause-grown c = λ sizes is.
    let gs = c.args.self.now.list.items in let two = c.requires.two in
    let j = c.args.first in let k = c.args.second in
    let none = c.replace-other.new.dest in let second = c.replace-other.result in
    let took = c.replace-other.ensures in
    let emptied : All (IsGroup sizes) (slice_set gs k none) =
    All-set (IsGroup sizes) gs k none
    (subst (λ (g : Group). IsGroup sizes g) (sym took.after) (c.none.ensures.group sizes)) is.each
    in
    let is_first : IsGroup sizes c.index_mut-2.result.now =
    subst (λ (g : Group). IsGroup sizes g) (sym c.index_mut-2.ensures.value)
    (emptied j c.index_mut-2.result.now
    (let e = length-set gs k none in let l = two.first in omega (arith, e, l))) in
    let is_second : IsGroup sizes second =
    subst (λ (g : Group). IsGroup sizes g) (sym (took.value ∙ c.index_mut.ensures.value))
    (is.each k c.index_mut.result.now two.second) in
    record {
      each = All-set (IsGroup sizes) (slice_set gs k none) j c.join.new.self
          (c.join.ensures.grown sizes is_first is_second) emptied;
      apart = joined_apart gs (slice_set (slice_set gs k none) j c.join.new.self) j k
          (joined (goal.at.returns-clause-grown c).After-join) is.apart;
      room = is.room;
      few = omega (
        arith,
        is.few,
        length-set gs k none,
        length-set (slice_set gs k none) j c.join.new.self,
      );
    }
