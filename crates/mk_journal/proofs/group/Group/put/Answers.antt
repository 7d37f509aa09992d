use Rattle.std.proofs.Common.{List, ℕ, ◌++◌, ◌∷◌, [], ap, ◌∙◌}
use Rattle.mk_journal.proofs.Grouping.{put_behind}
use Rattle.mk_journal.proofs.group.Group.put.Goals as goal

pub returns : goal.returns
returns c =
    put_behind _ _ _ _ _ _ (c.push_reserved.ensures.items ∙ ap (λ (l : List ℕ). l ++ 1 ∷ []) c.self.view_is) c.to_be_bytes.ensures c.in-Ok.ensures.items c.in-Ok-extend_from_slice.ensures.items
