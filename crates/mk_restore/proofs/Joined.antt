-- Lists of changes, one behind another.
use Rattle.std.proofs.Common.{List, [], ◌∷◌, refl, sym, ◌∙◌, subst}
use Rattle.mk_exact.specs.History.{Entry}
use Rattle.mk_exact.specs.Market.{present}
use Rattle.mk_rules.specs.Answers.{next_history}
use Rattle.mk_restore.specs.Restoring.{Restores}
use Rattle.mk_restore.specs.Laws.{RestoresOne, RestoresJoin, FrontIsRestored}

pub restores_one : RestoresOne
restores_one market old new other [] h k = h ∙ sym k
restores_one market old new other (change ∷ changes) h k =
    let next = next_history (present market old) old (change.0) (change.1) in
    restores_one market next new other changes h.1 k.1

pub restores_join : RestoresJoin
restores_join market old middle new [] second h k =
    subst (λ (H : List Entry). Restores market H second new) h k
restores_join market old middle new (change ∷ first) second h k =
    let next = next_history (present market old) old (change.0) (change.1) in
    (h.0, restores_join market next middle new first second h.1 k)

pub front_is_restored : FrontIsRestored
front_is_restored market old new [] second h = (old, refl, h)
front_is_restored market old new (change ∷ first) second h =
    let next = next_history (present market old) old (change.0) (change.1) in
    let later = front_is_restored market next new first second h.1 in
    (later.0, (h.0, later.1), later.2)
