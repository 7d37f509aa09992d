use Rattle.std.proofs.Common.{◌≡◌, ℕ, ◌<◌, List, length, false, ◌==◌, sym, arith}
use Rattle.std.proofs.lemmas.Bool.{not-true, eqb-false}
use Rattle.mk_text.proofs.WordLemmas.{after_otherwise}
use Rattle.mk_text.proofs.reader.begin_otherwise.Goals as goal

some_there : (bytes : List ℕ) → false ≡ (length bytes == 0) → 0 < length bytes
some_there bytes h = let other = eqb-false (length bytes) 0 (sym h) in omega arith

pub returns : goal.returns
returns c = λ other.
    after_otherwise c.args.text.now c.args.bytes.now (some_there c.args.text.now c.if-is_empty-2.ensures) (some_there c.args.bytes.now c.if-is_empty.ensures) (eqb-false _ _ (not-true _ other))
