-- Payments are told, one after another.
use Rattle.std.specs.Prelude.{◌≡◌, ℕ, ◌+◌, zero, suc, List, [], ◌∷◌, ◌++◌, length, map, take}
use Rattle.std.specs.Prelude.{Some, slice_get}
use Rattle.std.specs.List.{AllByRecursion}
use Rattle.std.proofs.Common.{sym, ap, ◌∙◌, subst, arith}
use Rattle.std.proofs.lemmas.List.{map-append, length_push}
use Rattle.mk_states.proofs.Sums.{each-append}
use Rattle.mk_reply.specs.declared.payments.Payment.{Payment}
use Rattle.mk_rules.specs.Answers.{ends_of}
use Rattle.mk_history.specs.declared.entry.Payout.{Payout}
use Rattle.mk_history.specs.Entries.{ends}

some_is : {X : Type 0} (x y : X) → Some x ≡ Some y → x ≡ y
some_is x y e = cc

-- one more of the first
take_more : {X : Type 0} (xs : List X) (n : ℕ) (x : X) → slice_get xs n ≡ Some x
    → take (n + 1) xs ≡ take n xs ++ x ∷ []
take_more [] n x e = cc
take_more (y ∷ xs) zero x e = ap (λ (z : _). z ∷ []) (some_is y x e)
take_more {X} (y ∷ xs) (suc n) x e =
    let k : suc n + 1 ≡ suc (n + 1) = omega arith in
    ap (λ (j : ℕ). take j (y ∷ xs)) k
    ∙ ap (λ (rest : List X). y ∷ rest) (take_more xs n x e)

-- those before a place are told
pub record AreToldBefore (names : List (List ℕ)) (rows : List Payout) (n : ℕ)
    (payments : List Payment) : Type 0 where
  pub made : length payments ≡ n
  pub in_order : map (λ (p : Payment). p.user) payments ≡ take n names
  pub both_ends : map ends_of payments ≡ map ends (take n rows)
  pub low_ends : AllByRecursion (λ (p : Payment). p.paid ≡ p.low) payments

pub one_told : (names : List (List ℕ)) (rows : List Payout) (n : ℕ) (before now : List Payment)
    (payment : Payment) (row : Payout) → AreToldBefore names rows n before
    → slice_get names n ≡ Some payment.user → slice_get rows n ≡ Some row
    → ends_of payment ≡ ends row → payment.paid ≡ payment.low → now ≡ before ++ payment ∷ []
    → AreToldBefore names rows (n + 1) now
one_told names rows n before now payment row so_far its_name its_row same low pushed = record {
  made = ap (λ (ps : List Payment). length ps) pushed ∙ length_push before payment
      ∙ ap (λ (k : ℕ). k + 1) so_far.made;
  in_order = ap (map (λ (p : Payment). p.user)) pushed
      ∙ map-append (λ (p : Payment). p.user) before (payment ∷ [])
      ∙ ap (λ (all : List (List ℕ)). all ++ payment.user ∷ []) so_far.in_order
      ∙ sym (take_more names n payment.user its_name);
  both_ends = ap (map ends_of) pushed ∙ map-append ends_of before (payment ∷ [])
      ∙ ap (λ (all : List (ℕ × ℕ)). all ++ ends_of payment ∷ []) so_far.both_ends
      ∙ ap (λ (own : ℕ × ℕ). map ends (take n rows) ++ own ∷ []) same
      ∙ sym (map-append ends (take n rows) (row ∷ []))
      ∙ ap (map ends) (sym (take_more rows n row its_row));
  low_ends = subst (AllByRecursion (λ (p : Payment). p.paid ≡ p.low)) (sym pushed)
      (each-append (λ (p : Payment). p.paid ≡ p.low) before (payment ∷ []) so_far.low_ends
      (low, tt));
}
