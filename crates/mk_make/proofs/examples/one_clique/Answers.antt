use Rattle.std.proofs.Common.{refl, lit<}
use Rattle.std.proofs.lemmas.Fmt.{decimal_digit}
use Rattle.mk_make.specs.Sample.{clique_of, cliques_line, links_line}
use Rattle.mk_make.proofs.examples.one_clique.Goals as goal

pub returns : goal.returns
unfolding clique_of cliques_line links_line
returns c = record { cliques = rw (decimal_digit 1 (lit< tt), decimal_digit 2 (lit< tt)); links = refl }
