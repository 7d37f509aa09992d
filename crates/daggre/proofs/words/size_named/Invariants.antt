use Rattle.std.proofs.Common.{◌≡◌, ℕ, ◌<◌, ◌≤◌, decimal, false}
use Rattle.mk_names.specs.Texts.{same_text}
use Rattle.daggre.proofs.words.size_named.Given as goal

abbrev pub invariant-loop-size : goal.invariant-loop-size
invariant-loop-size l = (k : ℕ) → 2 ≤ k → k < l.size → same_text (decimal k) l.word ≡ false
