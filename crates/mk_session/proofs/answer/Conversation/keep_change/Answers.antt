use Rattle.std.proofs.Common.{◌≡◌, ℕ, ◌-◌, List, [], ◌∷◌, ◌++◌, length, take, sym, ap, ap₂, subst}
use Rattle.std.proofs.Common.{◌∙◌, MatchResult}
use Rattle.std.proofs.lemmas.List.{append-nil}
use Rattle.mk_exact.specs.History.{Entry}
use Rattle.mk_session.specs.Left.{LeavesSince}
use Rattle.mk_session.specs.inner.Keeping.{HoldsSince}
use Rattle.mk_session.proofs.Spoken.{spared_since}
use Rattle.mk_session.proofs.answer.Conversation.keep_change.Goals as goal

pub returns-else-keeps-clause-taken : goal.returns-else-keeps-clause-taken
returns-else-keeps-clause-taken g c = λ begun name bytes first least all records held made.
    spared_since (g.J.Keeper.holds c.args.self.now.keeper c.args.disk.now name bytes)
    (g.J.Keeper.passes begun c.args.disk.now name bytes)
    (λ change kept waiting h. c.keeps.ensures c.if-keeps.false c.args.disk.now name bytes change
    kept waiting h)
    (g.met.J.Keeper.fewer_pass begun c.args.disk.now name bytes) first least all records held

pub returns-else-length-before-clause-taken : goal.returns-else-length-before-clause-taken
returns-else-length-before-clause-taken g c = λ begun name bytes first least all records held made.
    let holds = g.J.Keeper.holds c.args.self.now.keeper c.args.disk.now name bytes in
    let passes = g.J.Keeper.passes begun c.args.disk.now name bytes in
    let is : c.length.result ≡ length c.args.market.now.standing.history =
    c.length.ensures ∙ ap (λ (l : List Entry). length l) c.history.ensures.same in
    subst (λ (rs : List (List ℕ)). HoldsSince holds passes first least (all ++ rs))
    (sym (made.none (sym is ∙ c.if-length-before.false)))
    (subst (λ (l : List (List ℕ)). HoldsSince holds passes first least l) (sym (append-nil all))
    held)

pub returns-then-length-before-clause-taken : goal.returns-then-length-before-clause-taken
returns-then-length-before-clause-taken g c = λ begun name bytes first least all records held made.
    let holds = g.J.Keeper.holds c.take_change.new.keeper c.take_change.new.disk name bytes in
    let leaves = g.J.Keeper.leaves c.take_change.new.disk name bytes in
    let passes = g.J.Keeper.passes begun c.take_change.new.disk name bytes in
    let is : c.length.result ≡ length c.args.market.now.standing.history =
    c.length.ensures ∙ ap (λ (l : List Entry). length l) c.history.ensures.same in
    let same = ap₂ (λ (l t : List ℕ). (l ++ 10 ∷ take (length t - 1) t) ∷ []) c.line-line.ensures
    (c.as_bytes-printed.ensures.value ∙ c.as_str.ensures.value)
    ∙ sym (made.one (λ same. c.if-length-before.true (is ∙ same))) in
    subst (λ (rs : List (List ℕ)). MatchResult c.take_change.result
    (λ _. HoldsSince holds passes first least (all ++ rs))
    (λ _. LeavesSince leaves passes first (all ++ rs) least)) same
    (c.take_change.ensures.taken begun name bytes first least all held)
