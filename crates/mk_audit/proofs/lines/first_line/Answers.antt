use Rattle.std.proofs.Common.{◌≡◌, ◌≢◌, ℕ, ◌+◌, ◌<◌, List, ◌∷◌, ◌++◌, length, take, drop, get_or}
use Rattle.std.proofs.Common.{All, sym, ap, subst, ◌∙◌}
use Rattle.std.proofs.lemmas.List.{take-append-drop, drop_more, take_all}
use Rattle.mk_audit.proofs.lines.first_line.Goals as goal

split_at : (bytes : List ℕ) (i : ℕ) → i < length bytes → get_or bytes i 0 ≡ 10
    → bytes ≡ take i bytes ++ 10 ∷ drop (i + 1) bytes
split_at bytes i within lf =
    sym (take-append-drop i bytes) ∙ ap (λ (rest : List ℕ). take i bytes ++ rest)
    (drop_more bytes i 0 within ∙ ap (λ (b : ℕ). b ∷ drop (i + 1) bytes) lf)

pub returns-then-byte-eq10 : goal.returns-then-byte-eq10
returns-then-byte-eq10 c = record {
  no_lf = c.loop-i.invariant;
  rest = drop (c.loop-i.i + 1) c.args.bytes.now;
  parts = split_at c.args.bytes.now c.loop-i.i c.loop-i-test.true c.if-byte-eq10.true;
}

pub returns : goal.returns
returns c =
    subst (λ (bytes : List ℕ). All (λ b. b ≢ 10) bytes)
    (take_all c.loop-i.i c.args.bytes.now c.loop-i-test.false) c.loop-i.invariant
