use Rattle.std.proofs.Common.{Some, None, sym, ◌∙◌}
use Rattle.std.proofs.lemmas.Slice.Eq.{strip_prefix_is}
use Rattle.std.proofs.lemmas.Bool.Decides.{Decides-eqb}
use Rattle.mk_text.proofs.WordLemmas.{after_text, after_nothing}
use Rattle.mk_text.proofs.Rests.{rest_all, rest_behind}
use Rattle.mk_text.proofs.reader.Reader.skip.Goals as goal

pub returns-in-Some-clause-passed : goal.returns-in-Some-clause-passed
returns-in-Some-clause-passed c =
    let found = strip_prefix_is Decides-eqb c.self.inside.left.now c.args.text.now (Some c.in-Some.left) c.in-Some.ensures.cases in
    rw (← c.self.view_is, found) (after_text c.args.text.now c.in-Some.left.now)

pub returns-in-None-clause-passed : goal.returns-in-None-clause-passed
returns-in-None-clause-passed c =
    let without = strip_prefix_is Decides-eqb c.self.inside.left.now c.args.text.now None c.in-None.ensures.cases in
    rw (← c.self.view_is) (after_nothing c.args.text.now c.self.inside.left.now without)

pub returns-in-Some-clause-rest : goal.returns-in-Some-clause-rest
returns-in-Some-clause-rest c =
    rest_behind c.args.text.now c.args.self.now c.in-Some.left.now (sym c.self.view_is ∙ strip_prefix_is Decides-eqb c.self.inside.left.now c.args.text.now (Some c.in-Some.left) c.in-Some.ensures.cases)

pub returns-in-None-clause-rest : goal.returns-in-None-clause-rest
returns-in-None-clause-rest c = rw (← c.self.view_is) (rest_all c.self.inside.left.now)

pub returns-then-begin_otherwise-clause-passed : goal.returns-then-begin_otherwise-clause-passed
returns-then-begin_otherwise-clause-passed c = rw (← c.self.view_is) (c.begin_otherwise.ensures c.if-begin_otherwise.true)

pub returns-then-begin_otherwise-clause-rest : goal.returns-then-begin_otherwise-clause-rest
returns-then-begin_otherwise-clause-rest c = rw (← c.self.view_is) (rest_all c.self.inside.left.now)
