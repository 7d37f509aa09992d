use Rattle.std.proofs.Common.{◌≡◌, ◌^◌, arith, sym, ap, ◌∙◌, lit≤, refl}
use Rattle.std.proofs.lemmas.Option.{none-some, same_Some}
use Rattle.mk_text.specs.Numbers.{places}
use Rattle.mk_text.proofs.NumberLemmas.{places_writing, number_found, number_refused, told_same, told_apart}
use Rattle.mk_text.proofs.numbers.ten_places_of.Goals as goal

pub returns-in_err-number-clause-found : goal.returns-in_err-number-clause-found
returns-in_err-number-clause-found c = c.from_residual.ensures ∙ sym (number_refused (places 10) (10 ^ 10) c.args.word.now c.value_of.result
    places_writing (lit≤ tt) c.value_of.ensures
    (λ n read below same. none-some n (sym c.in_err-number.was ∙ read)))

pub returns-then-number-ge-PRICE_UNIT-clause-found :
    goal.returns-then-number-ge-PRICE_UNIT-clause-found
returns-then-number-ge-PRICE_UNIT-clause-found c = sym (number_refused (places 10) (10 ^ 10) c.args.word.now c.value_of.result
    places_writing (lit≤ tt) c.value_of.ensures
    (λ n read below same. let own : c.in_ok-number.number ≡ n = same_Some c.in_ok-number.number n (sym c.in_ok-number.was ∙ read) in omega arith))

pub returns-then-eq-clause-found : goal.returns-then-eq-clause-found
returns-then-eq-clause-found c = sym (number_found (places 10) (10 ^ 10) c.in_ok-number.number c.args.word.now
    places_writing c.if-number-ge-PRICE_UNIT.false
    (told_same _ _ c.args.word.now _ (c.as_bytes.ensures.value ∙ c.deref.ensures.0 ∙ c.put_ten_places.ensures.text ∙ rw c.new-written.ensures refl) c.eq.ensures c.if-eq.true))

pub returns-else-eq-clause-found : goal.returns-else-eq-clause-found
returns-else-eq-clause-found c = sym (number_refused (places 10) (10 ^ 10) c.args.word.now c.value_of.result
    places_writing (lit≤ tt) c.value_of.ensures
    (λ n read below same. let own : c.in_ok-number.number ≡ n = same_Some c.in_ok-number.number n (sym c.in_ok-number.was ∙ read) in
    told_apart _ _ c.args.word.now _ (c.as_bytes.ensures.value ∙ c.deref.ensures.0 ∙ c.put_ten_places.ensures.text ∙ rw c.new-written.ensures refl) c.eq.ensures c.if-eq.false (ap (places 10) own ∙ same)))
