use Rattle.std.proofs.Common.{◌≡◌, ◌++◌, ◌*◌, ◌≤◌, List, All, sym, ap, subst, ◌∙◌}
use Rattle.std.proofs.lemmas.List.Elements.{All-from_recursion, recursion_from_All}
use Rattle.mk_user_engine.specs.declared.names.Named.{Named}
use Rattle.mk_user_engine.specs.Names.{is_named, AreStrided, IsSized, max_cells}
use Rattle.mk_user_engine.specs.Grouped.{widened}
use Rattle.mk_user_engine.proofs.Join.{is_named_joined, strided_joined, sized_joined}
use Rattle.mk_user_engine.proofs.Grouping.{strides_few}
use Rattle.mk_user_engine.proofs.group.Group.join.Goals as goal

pub append-requires-clause-strides : goal.append-requires-clause-strides
append-requires-clause-strides c =
    let g = c.args.self.now in let h = c.args.other.now in
    let room = c.requires.room in let is = (c.requires.groups).2 in
    subst (λ (ns : List Named). All (λ (n : Named). g.cells * n.stride ≤ max_cells) ns)
    (sym c.deref.ensures.0) (strides_few g.cells h.names.items h.cells max_cells is.strided
    room.few_cells)

pub returns-clause-grown : goal.returns-clause-grown
returns-clause-grown c = λ sizes first next.
    let g = c.args.self.now in let h = c.args.other.now in
    let room = c.requires.room in
    let made : c.append.new.names.items ≡ g.names.items ++ widened g.cells h.names.items =
    c.append.ensures
    ∙ ap (λ (ns : List Named). g.names.items ++ widened g.cells ns) c.deref.ensures.0 in record {
      strided = subst (λ (ns : List Named). AreStrided 1 ns (g.cells * h.cells)) (sym made)
          (strided_joined g.names.items h.names.items g.cells h.cells first.strided next.strided);
      sized = subst (λ (ns : List Named). All (IsSized sizes) ns) (sym made)
          (All-from_recursion (IsSized sizes) (g.names.items ++ widened g.cells h.names.items)
          (sized_joined sizes g.names.items h.names.items g.cells
          (recursion_from_All (IsSized sizes) g.names.items first.sized)
          (recursion_from_All (IsSized sizes) h.names.items next.sized)));
      few_cells = room.few_cells;
    }

pub returns-clause-named : goal.returns-clause-named
returns-clause-named c = λ x.
    let g = c.args.self.now in let h = c.args.other.now in
    let made : c.append.new.names.items ≡ g.names.items ++ widened g.cells h.names.items =
    c.append.ensures
    ∙ ap (λ (ns : List Named). g.names.items ++ widened g.cells ns) c.deref.ensures.0 in
    ap (λ (ns : List Named). is_named ns x) made
    ∙ is_named_joined g.names.items h.names.items g.cells x
