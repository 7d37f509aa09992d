use Rattle.std.proofs.Common.{◌≡◌, ◌++◌, ℕ, List, length, rules, arith, ap, ◌∙◌}
use Rattle.std.proofs.lemmas.Str.{IsCharBoundary-from_ascii}
use Rattle.mk_text.proofs.NumberLemmas.{ten_behind_one, length-places, behind_first, length-behind_first}
use Rattle.mk_text.proofs.writers.put_ten_places.Goals as goal

pub range_from-requires : goal.range_from-requires
range_from-requires g c =
    let digits = c.format-digits.ensures.text ∙ ten_behind_one c.args.part c.requires.below in
    λ _. IsCharBoundary-from_ascii c.format-digits.result.now 1 c.format-digits.ensures.ascii (length-behind_first _ _ digits)

pub push_str-requires : goal.push_str-requires
push_str-requires g c =
    let digits = c.format-digits.ensures.text ∙ ten_behind_one c.args.part c.requires.below in
    let size : length c.range_from.result.now ≡ 10 = ap length (c.range_from.ensures.value ∙ behind_first _ _ digits) ∙ length-places 10 c.args.part in
    search rules

pub returns-clause-text : goal.returns-clause-text
returns-clause-text g c =
    let digits = c.format-digits.ensures.text ∙ ten_behind_one c.args.part c.requires.below in
    c.push_str.ensures.bytes ∙ ap (λ (written : List ℕ). c.args.out.now.bytes ++ written) (c.range_from.ensures.value ∙ behind_first _ _ digits)

pub returns-clause-growth : goal.returns-clause-growth
returns-clause-growth g c =
    let digits = c.format-digits.ensures.text ∙ ten_behind_one c.args.part c.requires.below in
    let size : length c.range_from.result.now ≡ 10 = ap length (c.range_from.ensures.value ∙ behind_first _ _ digits) ∙ length-places 10 c.args.part in
    omega (arith, c.push_str.ensures.len, size)
