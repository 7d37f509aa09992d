use Rattle.std.proofs.Common.{ℕ, List, drop, length, map, string_bytes, ap, ◌∙◌, sym, arith}
use Rattle.std.proofs.Common.{length-append}
use Rattle.std.proofs.lemmas.Bool.{eqb-true}
use Rattle.std.proofs.lemmas.List.{length-map}
use Rattle.std.specs.Vec.Iter.{into_iter_items}
use Rattle.daggre.proofs.Many.{too_many}
use Rattle.daggre.proofs.call.words_behind_name.Goals as goal

pub returns-then-is_full-clause-others : goal.returns-then-is_full-clause-others
returns-then-is_full-clause-others c =
    let held = map string_bytes c.words.words.items in
    let left = map string_bytes (into_iter_items c.words.arguments) in
    let full = eqb-true _ 131 (sym c.is_full.ensures.value ∙ c.if-is_full.true) in
    let whole = ap (λ (xs : List (List ℕ)). length xs) c.words.invariant
    ∙ length-append held left in
    let more = ap length c.in-Some.ensures.items in
    too_many (drop 1 (map string_bytes (into_iter_items c.args.arguments))) (omega (
      arith,
      full,
      whole,
      more,
      length-map c.words.words.items string_bytes,
      length-map (into_iter_items c.words.arguments) string_bytes,
      length-append {A = ℕ},
    ))
