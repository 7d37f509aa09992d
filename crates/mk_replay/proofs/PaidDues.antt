-- What is due is paid.
use Rattle.std.proofs.Common.{◌≡◌, ℕ, ◌+◌, ◌≤◌, List, [], ◌∷◌, ◌++◌, map, length, take}
use Rattle.std.proofs.Common.{drop, refl, sym, ap, subst, ◌∙◌, arith}
use Rattle.std.proofs.lemmas.List.{take_all}
use Rattle.std.proofs.lemmas.List.FromFn.{map-range_with_len_more}
use Rattle.mk_states.specs.States.{numbers_below}
use Rattle.mk_exact.specs.History as history
use Rattle.mk_exact.specs.History.{users}
use Rattle.mk_exact.specs.ByRule.{payment_by_rule, payments_by_rule, first_state}
use Rattle.mk_exact.specs.Weight.{possible_states}
use Rattle.mk_net.specs.Network.{Variable}
use Rattle.mk_states.specs.Events.{always}
use Rattle.mk_cash.specs.Dues.{DueOf, no_due, due_of, due_payment}
use Rattle.mk_replay.specs.ByRule.{CanBePaid}
use Rattle.mk_replay.specs.inner.Dues.{no_dues, dues_of, CanTakeDue, dues_after}
use Rattle.mk_replay.proofs.Replayed.{around}
use Rattle.mk_replay.proofs.ListedDues.{dues_more, can_take_here}

-- nothing is due to one user more
pub no_dues_more : (n : ℕ) → no_dues (n + 1) ≡ no_dues n ++ no_due ∷ []
no_dues_more n = map-range_with_len_more (λ u. no_due) 0 n n (omega arith)

map-map : {X Y Z : Type 0} (g : Y → Z) (f : X → Y) (xs : List X)
    → map g (map f xs) ≡ map (λ x. g (f x)) xs
map-map g f [] = refl
map-map g f (x ∷ xs) = ap (λ ys. g (f x) ∷ ys) (map-map g f xs)

-- what is due after a whole history is the payment by rule
pub paid_by_rule : (joined b : ℕ) (s : List ℕ) (H : List history.Entry)
    → map (due_payment b) (dues_of joined s H) ≡ map (payment_by_rule H b s) (numbers_below joined)
paid_by_rule joined b s H =
    map-map (due_payment b) (λ u. due_of H u s) (numbers_below joined)

module _ (H : List history.Entry) (e : history.Entry) (i : ℕ)
    (next : take (i + 1) H ≡ take i H ++ e ∷ []) (s : List ℕ) (can : CanBePaid H s) where
  -- each entry can be taken after those before it
  pub can_take : CanTakeDue s e (dues_of (length (users H)) s (take i H))
  can_take =
      let whole = around H e i next in
      subst (λ (n : ℕ). CanTakeDue s e (dues_of n s (take i H)))
      (ap (λ (H : List history.Entry). length (users H)) (sym whole))
      (can_take_here (take i H) (drop (i + 1) H) s e
      (subst (λ (H : List history.Entry). CanBePaid H s) whole can))

  -- and what is due then is what is due after it
  pub taken : dues_after s e (dues_of (length (users H)) s (take i H))
      ≡ dues_of (length (users H)) s (take (i + 1) H)
  taken =
      dues_more (length (users H)) s (take i H) e can_take
      ∙ ap (dues_of (length (users H)) s) (sym next)

-- after the last entry all payments of what is due are those by rule
pub paid_off : (b : ℕ) (s : List ℕ) (H : List history.Entry) (i last : ℕ) (dues read : List DueOf)
    (paid : List (ℕ × ℕ)) → last ≡ length H → last ≤ i
    → dues ≡ dues_of (length (users H)) s (take i H) → read ≡ dues
    → paid ≡ map (due_payment b) read
    → paid ≡ map (payment_by_rule H b s) (numbers_below (length (users H)))
paid_off b s H i last dues read paid all past due same is =
    let end : length H ≤ i = omega arith in
    is
    ∙ ap (map (due_payment b)) (same ∙ due ∙ ap (dues_of (length (users H)) s) (take_all i H end))
    ∙ paid_by_rule (length (users H)) b s H

-- and where this state alone is possible, those of the outcome
pub in_outcome : (network : List Variable) (H : List history.Entry) (b : ℕ) (s : List ℕ)
    → possible_states network H always ≡ s ∷ []
    → map (payment_by_rule H b s) (numbers_below (length (users H))) ≡ payments_by_rule network H b
in_outcome network H b s one =
    ap (λ (states : List (List ℕ)). map (payment_by_rule H b (first_state states))
    (numbers_below (length (users H)))) (sym one)
