use Rattle.std.proofs.Common.{◌≡◌, ℕ, ◌<◌, ◌≤◌, ◌⊎◌, inl, inr, Bool, true, false, cond, List, Option, Some, sym, ap, ap₂, subst, ◌∙◌, arith}
use Rattle.std.specs.Prelude.{option_map}
use Rattle.mk_net.specs.declared.words.Pair.{Pair}
use Rattle.mk_net.specs.Asked.{Asked}
use Rattle.mk_net.specs.Events.{speaks_of, IsQuestion}
use Rattle.mk_reply.specs.declared.refusal.Refusal.TheVariants.{Twice}
use Rattle.mk_rules.proofs.Unrefused.{question_known}
use Rattle.mk_record.proofs.Gathering.{refused_for, all_known, question_is}
use Rattle.mk_record.proofs.asking.ask.Goals as goal

spoken : (n : ℕ) (b : Bool) → n ≤ 8 → (8 < n) ⊎ (b ≡ true) → b ≡ true
spoken n b few (inl h) = absurd (omega arith)
spoken n b few (inr h) = h

unspoken : (asked : Asked) (target : Pair) (condition : List Pair) → asked ≡ record { target = target; condition = condition } → IsQuestion asked → speaks_of condition target.variable ≡ false
unspoken asked target condition e question = subst (λ (a : Asked). speaks_of a.condition a.target.variable ≡ false) e question.target_apart

pub returns-in_default-clause-refusal : goal.returns-in_default-clause-refusal
returns-in_default-clause-refusal c =
    let target = c.in_ok-target.target in let found = c.in_ok-found.found in let q = c.args.question.now in
    let said = spoken _ (speaks_of found.condition target.variable) c.in_ok-found.ensures.gathered.few c.in_default.ensures.none in
    sym (refused_for c.args.net.now q target c.as_slice.result.now found.condition found.repeated c.in_ok-target.ensures.named c.as_slice.ensures.value c.in_ok-found.ensures.refusal c.in_ok-found.ensures.gathered
    ∙ ap (λ (b : Bool). option_map Twice (cond b (Some q.target.variable) found.repeated)) said)

pub returns-in-Some-repeated-clause-refusal : goal.returns-in-Some-repeated-clause-refusal
returns-in-Some-repeated-clause-refusal c =
    let target = c.in_ok-target.target in let found = c.in_ok-found.found in let q = c.args.question.now in
    let not_said = unspoken c.in-Some.asked target found.condition c.in-Some.ensures.some c.in-Some.ensures.question in
    sym (refused_for c.args.net.now q target c.as_slice.result.now found.condition found.repeated c.in_ok-target.ensures.named c.as_slice.ensures.value c.in_ok-found.ensures.refusal c.in_ok-found.ensures.gathered
    ∙ ap₂ (λ (b : Bool) (o : Option (List ℕ)). option_map Twice (cond b (Some q.target.variable) o)) not_said c.in-Some-repeated.is)

pub returns-in-None-clause-refusal : goal.returns-in-None-clause-refusal
returns-in-None-clause-refusal c =
    let target = c.in_ok-target.target in let found = c.in_ok-found.found in let q = c.args.question.now in
    let not_said = unspoken c.in-Some.asked target found.condition c.in-Some.ensures.some c.in-Some.ensures.question in
    sym (refused_for c.args.net.now q target c.as_slice.result.now found.condition found.repeated c.in_ok-target.ensures.named c.as_slice.ensures.value c.in_ok-found.ensures.refusal c.in_ok-found.ensures.gathered
    ∙ ap₂ (λ (b : Bool) (o : Option (List ℕ)). option_map Twice (cond b (Some q.target.variable) o)) not_said c.in-None.is)

pub returns-in-None-clause-named : goal.returns-in-None-clause-named
returns-in-None-clause-named c =
    question_is c.args.net.now c.args.question.now c.in_ok-target.target c.as_slice.result.now c.in-Some.asked c.in_ok-found.found.condition c.in_ok-found.found.repeated c.in_ok-target.ensures.named
    c.as_slice.ensures.value c.in_ok-found.ensures.gathered c.in-None.is c.in-Some.ensures.some

pub returns-in-None-clause-in_range : goal.returns-in-None-clause-in_range
returns-in-None-clause-in_range c =
    question_known c.args.net.now c.args.question.now c.in-Some.asked
    (all_known c.args.net.now c.args.question.now c.in_ok-target.target c.as_slice.result.now c.in_ok-target.ensures.named c.as_slice.ensures.value c.in_ok-found.ensures.refusal)
    (question_is c.args.net.now c.args.question.now c.in_ok-target.target c.as_slice.result.now c.in-Some.asked c.in_ok-found.found.condition c.in_ok-found.found.repeated c.in_ok-target.ensures.named
    c.as_slice.ensures.value c.in_ok-found.ensures.gathered c.in-None.is c.in-Some.ensures.some)
