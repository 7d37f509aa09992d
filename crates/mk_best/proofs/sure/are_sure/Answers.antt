use Rattle.std.proofs.Common.{◌≡◌, [], ◌∷◌, take, get_or, refl, sym, subst, arith}
use Rattle.std.specs.List.{AllByRecursion}
use Rattle.std.proofs.lemmas.List.{take_all, take_more}
use Rattle.mk_net.specs.declared.words.Pair.{Pair}
use Rattle.mk_states.proofs.Sums.{each-append}
use Rattle.mk_best.proofs.Failing.{fails, all_sure, one_fails, some_of}
use Rattle.mk_best.proofs.sure.are_sure.Goals as goal

abbrev blank : Pair
blank = record { variable = 0; value = 0 }

pub returns-then-can_fail-clause-sure : goal.returns-then-can_fail-clause-sure
returns-then-can_fail-clause-sure g c = λ H h.
    let net = c.args.net.now in let pairs = c.args.pairs.now in let i = c.loop-pair.pair-index in
    let fail = c.can_fail.ensures.fails H (c.loop-pair.invariant.kept _ h) in
    let some = some_of (fails net H (get_or pairs i blank)) c.can_fail.result fail.1
    c.if-can_fail.true in
    let less = one_fails net H pairs blank i c.loop-pair-test.true some in
    (λ e. absurd (cc), λ e. absurd (omega (arith, less, e)))

pub loop-pair-preserved : goal.loop-pair-preserved
loop-pair-preserved g c =
    let net = c.args.net.now in let pairs = c.args.pairs.now in let i = c.loop-pair.pair-index in
    let before = c.loop-pair.invariant in
    record {
      kept = λ m h. c.can_fail.ensures.kept m (before.kept m h);
      so_far = λ H h.
          subst (AllByRecursion (λ p. fails net H p ≡ 0))
          (sym (take_more pairs i blank c.loop-pair-test.true))
          (each-append (λ p. fails net H p ≡ 0) (take i pairs) (get_or pairs i blank ∷ [])
          (before.so_far H h)
          ((c.can_fail.ensures.fails H (before.kept _ h)).0 c.if-can_fail.false, tt));
    }

pub returns-clause-sure : goal.returns-clause-sure
returns-clause-sure g c = λ H h.
    let net = c.args.net.now in let pairs = c.args.pairs.now in (
      λ e. all_sure net H pairs (subst (AllByRecursion (λ p. fails net H p ≡ 0))
          (take_all c.loop-pair.pair-index pairs c.loop-pair-test.false)
          (c.loop-pair.invariant.so_far H h)),
      λ e. refl,
    )
