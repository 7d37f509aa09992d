use Rattle.std.proofs.Common.{ℕ, List, [], ◌∷◌, Option, None, refl, sym, ap, subst, arith, rules}
use Rattle.mk_exact.specs.Examples.{coin, heads_taken}
use Rattle.mk_spread.specs.Spreads.{SpreadAsked}
use Rattle.mk_spread.specs.Told.{CoversValue, ArePricesOf, IsPositionOf}
use Rattle.mk_reply.specs.declared.reply.Reply.{Reply}
use Rattle.mk_reply.specs.declared.reply.Reply.TheVariants.{Prices as Told, Position as Positioned}
use Rattle.mk_rules.specs.Told.{ArePrices, IsPosition}
use Rattle.mk_rules.specs.ToldExamples.{prices, position, half}
use Rattle.mk_rules.proofs.examples.example_told.Goals as goal

abbrev over_coin : SpreadAsked
over_coin = record { variable = 0; condition = [] }

-- the intervals of a reply
said : Reply → List (ℕ × ℕ)
said (Told intervals) = intervals.items
said _ = []

sure : Reply → List (Option (ℕ × ℕ))
sure (Positioned intervals) = intervals.items
sure _ = []

cover : (xs : List (ℕ × ℕ)) → ArePrices coin [] 1000 over_coin (prices xs) →
    ArePricesOf coin [] 1000 over_coin xs
unfolding said
cover xs h = subst (ArePricesOf coin [] 1000 over_coin) (sym (ap said h.printed)) h.covers

cover_sure : (xs : List (Option (ℕ × ℕ))) →
    IsPosition coin heads_taken 1000 0 100 over_coin (position xs) →
    IsPositionOf coin heads_taken 1000 0 100 over_coin xs
unfolding sure
cover_sure xs h =
    subst (IsPositionOf coin heads_taken 1000 0 100 over_coin) (sym (ap sure h.printed)) h.covers

first_half : CoversValue coin [] 1000 over_coin 0 half
first_half = search rules

second_half : CoversValue coin [] 1000 over_coin 1 half
second_half = search rules

halves : ArePrices coin [] 1000 over_coin (prices (half ∷ half ∷ []))
halves = record {
  intervals = record { items = half ∷ half ∷ [] };
  printed = refl;
  covers = (first_half, (second_half, tt));
}

not_narrow : ArePrices coin [] 1000 over_coin (prices (half ∷ (4999999999, 5000000000) ∷ [])) → ⊥
not_narrow h =
    let second = (cover (half ∷ (4999999999, 5000000000) ∷ []) h).1.0 in
    omega (arith, second.floor (omega arith))

both_come : (ends : Option (ℕ × ℕ)) →
    IsPosition coin heads_taken 1000 0 100 over_coin (position (ends ∷ None ∷ [])) → ⊥
both_come ends h = let none = (cover_sure (ends ∷ None ∷ []) h).1.0 in cc

pub returns : goal.returns
returns c = record {
  halves = halves;
  not_one = λ h. (cover (half ∷ []) h).1;
  not_three = λ h. (cover (half ∷ half ∷ half ∷ []) h).1.1;
  not_narrow = not_narrow;
  both_come = both_come;
  status = refl;
  later = refl;
  not_now = λ h. cc;
  not_open = λ h. cc;
  history_stays = refl;
  quotes_stay = refl;
}
