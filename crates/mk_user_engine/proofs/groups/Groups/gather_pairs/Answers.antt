use Rattle.std.proofs.Common.{List, take, sym, subst}
use Rattle.std.proofs.lemmas.List.{take_more}
use Rattle.std.proofs.lemmas.List.Elements.{All-nil}
use Rattle.mk_net.specs.declared.words.Pair.{Pair}
use Rattle.mk_net.specs.Network.{sizes}
use Rattle.mk_user_engine.proofs.Naming.{is_size}
use Rattle.mk_user_engine.proofs.Gathering.{HasGatheredPairs, gathered_none, gathered_more}
use Rattle.mk_user_engine.proofs.Gathering.{gathered_next}
use Rattle.mk_user_engine.specs.Grouped.{names}
use Rattle.std.proofs.Common.{◌≡◌, true}
use Rattle.mk_user_engine.proofs.groups.Groups.gather_pairs.Goals as goal

pub loop-pair-init : goal.loop-pair-init
loop-pair-init c = record {
  grown = λ m has sized. has;
  kept = gathered_none c.args.self.now.list.items c.args.place;
  named = All-nil (λ (p : Pair). names c.args.self.now.list.items c.args.place p.variable ≡ true);
}

pub gather-requires-clause-groups : goal.gather-requires-clause-groups
gather-requires-clause-groups c =
    let a = c.requires.groups in let i = c.loop-pair.pair-index in
    let p : Pair = record { variable = 0; value = 0 } in let size = c.size.ensures in (
      sizes a.0,
      c.loop-pair.invariant.grown a.0 a.1 a.2,
      is_size a.0 c.args.scope.now _ c.size.result (a.2 i p c.loop-pair-test.true) size.size
          size.some,
    )

pub returns-then-not-gather-clause-grown : goal.returns-then-not-gather-clause-grown
returns-then-not-gather-clause-grown c = λ m has sized.
    let i = c.loop-pair.pair-index in let p : Pair = record { variable = 0; value = 0 } in
    let size = c.size.ensures in
    c.gather.ensures.grown (sizes m) (c.loop-pair.invariant.grown m has sized)
    (is_size m c.args.scope.now _ c.size.result (sized i p c.loop-pair-test.true) size.size
    size.some)

pub returns-then-not-gather-clause-kept : goal.returns-then-not-gather-clause-kept
returns-then-not-gather-clause-kept c =
    gathered_more c.args.self.now.list.items c.loop-pair.self.list.items
    c.gather.new.self.list.items c.args.place c.loop-pair.invariant.kept c.gather.ensures.kept

pub loop-pair-preserved : goal.loop-pair-preserved
loop-pair-preserved c =
    let pairs = c.args.pairs.now in let i = c.loop-pair.pair-index in
    let p : Pair = record { variable = 0; value = 0 } in let size = c.size.ensures in
    subst (λ (ps : List Pair). HasGatheredPairs c.args.scope.now pairs ps c.args.self.now
    c.gather.new.self c.args.place) (sym (take_more pairs i p c.loop-pair-test.true))
    (gathered_next c.args.scope.now pairs (take i pairs) _ c.args.self.now c.loop-pair.self
    c.gather.new.self c.args.place c.loop-pair.invariant
    (λ m has sized. c.gather.ensures.grown (sizes m) (c.loop-pair.invariant.grown m has sized)
    (is_size m c.args.scope.now _ c.size.result (sized i p c.loop-pair-test.true) size.size
    size.some)) c.gather.ensures.kept (c.gather.ensures.named c.if-not-gather.false))
