use Rattle.std.proofs.Common.{◌++◌, [], ◌∷◌, take, sym, ◌∙◌, ap, subst}
use Rattle.std.proofs.lemmas.List.{take_more}
use Rattle.mk_disk.specs.inner.Contents.{IsContents}
use Rattle.mk_disk.specs.Memory.{FileState}
use Rattle.mk_disk.proofs.Events.{file_push}
use Rattle.mk_disk.proofs.contents.contents_after.Goals as goal

pub loop-event-preserved : goal.loop-event-preserved
loop-event-preserved c =
    let index = c.loop-event.event-index in
    let added = take_more c.args.events.now index c.event-item.result c.loop-event-test.true
    ∙ ap (λ event. take index c.args.events.now ++ event ∷ []) (sym c.event-item.is) in
    subst (λ (s : FileState). IsContents s c.in_ok-contents-2.contents) (sym (file_push c.args.name.now (take index c.args.events.now) _ c.event-item.result added))
    (c.in_ok-contents-2.ensures _ c.loop-event.invariant)
