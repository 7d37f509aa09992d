use Rattle.std.proofs.Common.{◌++◌, ◌∷◌, [], ◌∙◌, sym, subst, ap}
use Rattle.mk_disk.specs.Memory.{FileState, MemoryState, IsImage}
use Rattle.mk_disk.specs.inner.MemoryLaws.{chosen_image}
use Rattle.mk_disk.specs.declared.event.Event.TheVariants.{Crash}
use Rattle.mk_disk.proofs.Events.{file_push}
use Rattle.mk_disk.proofs.memory.MemoryDisk.crash.Goals as goal

pub returns-clause-left : goal.returns-clause-left
returns-clause-left c n =
    let before = ap (λ (d : MemoryState). d.events ++ Crash c.args.choice ∷ []) c.self.view_is in
    file_push n _ _ (Crash c.args.choice) (c.in_ok-push.ensures.items ∙ before)

pub returns-clause-image : goal.returns-clause-image
returns-clause-image c n =
    let before = ap (λ (d : MemoryState). d.events ++ Crash c.args.choice ∷ []) c.self.view_is in
    let left = file_push n _ _ (Crash c.args.choice) (c.in_ok-push.ensures.items ∙ before) in
    subst (λ b. IsImage c.args.self.events n b) (sym (ap (λ (s : FileState). s.seen) left))
    (chosen_image n c.args.self.events c.args.choice)
