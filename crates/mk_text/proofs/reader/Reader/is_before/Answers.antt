use Rattle.std.proofs.Common.{Some, None, refl}
use Rattle.std.proofs.lemmas.Slice.Eq.{strip_prefix_is}
use Rattle.std.proofs.lemmas.Bool.Decides.{Decides-eqb}
use Rattle.mk_text.proofs.WordLemmas.{after_text, after_nothing}
use Rattle.mk_text.proofs.reader.Reader.is_before.Goals as goal

pub returns-in-Some : goal.returns-in-Some
returns-in-Some c =
    let found = strip_prefix_is Decides-eqb c.self.inside.left.now c.args.text.now (Some c.in-Some._left) c.in-Some.ensures.cases in
    rw (← c.self.view_is, found, after_text c.args.text.now c.in-Some._left.now) refl

pub returns-in-None : goal.returns-in-None
returns-in-None c =
    let without = strip_prefix_is Decides-eqb c.self.inside.left.now c.args.text.now None c.in-None.ensures.cases in
    rw (← c.self.view_is, after_nothing c.args.text.now c.self.inside.left.now without) refl
