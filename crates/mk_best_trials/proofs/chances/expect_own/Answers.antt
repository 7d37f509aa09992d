use Rattle.std.proofs.Common.{◌≡◌, List, [], ◌∷◌, length, take, get_or, sym, subst}
use Rattle.std.proofs.lemmas.List.{take_all, take_more}
use Rattle.std.proofs.lemmas.List.Elements.{All-from_recursion, recursion_from_All}
use Rattle.mk_net.specs.declared.words.Pair.{Pair}
use Rattle.mk_states.specs.OfNetwork.{IsPairOf}
use Rattle.mk_states.proofs.Sums.{each-append}
use Rattle.mk_engine.specs.Meaning.{ArePairsOf}
use Rattle.mk_best_trials.proofs.chances.expect_own.Goals as goal

abbrev blank : Pair
blank = record { variable = 0; value = 0 }

pub loop-pair-preserved : goal.loop-pair-preserved
loop-pair-preserved g c =
    let net = c.args.net.now in let pairs = c.args.pairs.now in let i = c.loop-pair.pair-index in
    subst (λ (ps : List Pair). ArePairsOf net ps)
    (sym (take_more pairs i blank c.loop-pair-test.true))
    (All-from_recursion (IsPairOf net) _ (each-append (IsPairOf net) (take i pairs)
    (get_or pairs i blank ∷ [])
    (recursion_from_All (IsPairOf net) (take i pairs) c.loop-pair.invariant)
    (c.expect_pair.ensures, tt)))

pub returns-clause-pairs : goal.returns-clause-pairs
returns-clause-pairs g c =
    subst (λ (ps : List Pair). ArePairsOf c.args.net.now ps)
    (take_all c.loop-pair.pair-index c.args.pairs.now c.loop-pair-test.false)
    c.loop-pair.invariant
