-- What a reply to `bound` says stays so: each state that is possible later was possible then.
use Rattle.std.proofs.Common.{◌≡◌, ℕ, ◌+◌, ◌*◌, ◌≤◌, true, false, Bool, length, sum, sum_by, ◌&&◌}
use Rattle.std.proofs.Common.{List, [], ◌∷◌, ◌++◌, map, Option, Some, None, MatchOption}
use Rattle.std.proofs.Common.{All, filter}
use Rattle.std.proofs.Common.{cond, refl, sym, ap, ◌∙◌, subst}
use Rattle.std.specs.Prelude.{option_to_list}
use Rattle.std.specs.List.{AllByRecursion}
use Rattle.std.proofs.lemmas.Bool.{and_parts, and_from}
use Rattle.std.proofs.lemmas.List.Elements.{All-from_recursion, recursion_from_All, All-head, filter_map-append}
use Rattle.mk_net.specs.declared.words.Pair.{Pair}
use Rattle.mk_states.specs.States.{numbers_below}
use Rattle.mk_states.specs.Events.{has, holds, always}
use Rattle.mk_states.specs.InitialWeight.{all_states, initial_total}
use Rattle.mk_exact.specs.History.{Entry, Addition, resolution_in, resolutions, additions}
use Rattle.mk_exact.specs.History.{deposited, withdrawn, users}
use Rattle.mk_exact.specs.Weight.{is_possible, possible_states}
use Rattle.mk_exact.specs.Risk.{least_weight, CoversBound}
use Rattle.mk_exact.specs.Laws.{LossIsBounded}
use Rattle.mk_exact.specs.Market.{Market, present}
use Rattle.mk_exact.proofs.Risk.{bound_holds}
use Rattle.mk_states.proofs.Sums.{list_all-append}
use Rattle.mk_command.specs.declared.command.Command.TheVariants.{Settle, Bound}
use Rattle.mk_reply.specs.declared.refusal.Refusal.{Refusal}
use Rattle.mk_reply.specs.declared.reply.Reply.{Reply}
use Rattle.mk_reply.specs.declared.reply.Reply.TheVariants.{Settled, Bound as Risked, Refused}
use Rattle.mk_rules.specs.Refusals.{first_refusal}
use Rattle.mk_rules.specs.Answers.{IsBound, entry_of}
use Rattle.mk_rules.specs.Transcript.{Standing, opening, Line, OfCommand, NoCommand, LongLine, IsAllowedFor, after, Run}
use Rattle.mk_rules.specs.Standings.{IsMarket}
use Rattle.mk_rules.specs.Laws.{paid_by, CostsAtMost, CostsNoMoreThan}
use Rattle.mk_rules.proofs.Options.{value_of}
use Rattle.mk_rules.proofs.Keeps.{run_keeps, opening_present}
use Rattle.mk_rules.proofs.Paid.{settlement_keeps}
use Rattle.mk_rules.specs.Laws.{PaysWithin, PaysNoMoreThan}
use Rattle.mk_reply.specs.declared.reply.Reply.TheVariants.{Joined, Deposited, Withdrawn, Price as Priced, Limits as Limited, Traded, Bounded, Spreaded}
use Rattle.mk_reply.specs.declared.reply.Reply.TheVariants.{Worst as Worsted, Resolved, SettledAll, Prices as Told, Position as Positioned, Status as Counted, Added, Paid as PaidOut}

-- a state that is possible behind more entries was possible before them
possible_before : (H more : List Entry) (s : List ℕ) → is_possible (H ++ more) s ≡ true → is_possible H s ≡ true
possible_before H more s e =
    (and_parts (holds (resolutions H) s) (holds (resolutions more) s)
    (sym (list_all-append (λ (p : Pair). has p s) (resolutions H) (resolutions more)) ∙ sym (ap (λ (ps : List Pair). holds ps s) (filter_map-append resolution_in H more)) ∙ e)).0

line_narrows : (market : Market) (now : Standing) (line : Line) (reply : Reply) (s : List ℕ) → is_possible (after market now line reply).history s ≡ true → is_possible now.history s ≡ true
line_narrows market now (OfCommand command) reply s e = possible_before now.history (option_to_list (entry_of market now.history command reply)) s e
line_narrows market now NoCommand reply s e = e
line_narrows market now LongLine reply s e = e

run_narrows : (market : Market) (old new : Standing) (lines : List Line) (replies : List Reply) → Run market old lines replies new → (s : List ℕ)
    → is_possible new.history s ≡ true → is_possible old.history s ≡ true
run_narrows market old new [] [] run s e = ap (λ (now : Standing). is_possible now.history s) (sym run) ∙ e
run_narrows market old new [] (reply ∷ replies) run s e = absurd run
run_narrows market old new (line ∷ lines) [] run s e = absurd run
run_narrows market old new (line ∷ lines) (reply ∷ replies) run s e =
    let here = present market old.history in
    let next = after here old line reply in
    line_narrows here old line reply s (run_narrows market next new lines replies run.1 s e)

-- what holds of all that pass a test holds of those that pass a stronger one
each_fewer : {X : Type 0} (P : X → Type 0) (p q : X → Bool) (xs : List X) → ((x : X) → q x ≡ true → p x ≡ true) → AllByRecursion P (filter p xs) → AllByRecursion P (filter q xs)
each_fewer P p q [] stronger h = tt
each_fewer {X} P p q (x ∷ xs) stronger h = at (p x) (q x) (stronger x) h (each_fewer P p q xs stronger)
  where
    at : (a b : Bool) → (b ≡ true → a ≡ true) → AllByRecursion P (cond a (x ∷ filter p xs) (filter p xs))
        → (AllByRecursion P (filter p xs) → AllByRecursion P (filter q xs)) → AllByRecursion P (cond b (x ∷ filter q xs) (filter q xs))
    at true true s h rest = (h.0, rest h.1)
    at true false s h rest = rest h.1
    at false true s h rest = absurd (let e = s refl in cc)
    at false false s h rest = rest h

-- a reply to `bound` that is allowed is one of its answers
is_bound : (market : Market) (now : Standing) (low high : ℕ) → IsAllowedFor market now (OfCommand Bound) (Risked low high)
    → IsBound market.network now.history market.points_per_bit (Risked low high)
is_bound market now low high h = at (first_refusal market now.history Bound) h
  where
    at : (o : Option Refusal) → MatchOption o (IsBound market.network now.history market.points_per_bit (Risked low high)) (λ why. Risked low high ≡ Refused why)
        → IsBound market.network now.history market.points_per_bit (Risked low high)
    at None h = h
    at (Some why) e = absurd (cc)

-- a market is what was added to it
same_market : (market : Market) (H later : List Entry) → additions later ≡ additions H
    → present market later ≡ present market H
same_market market H later same = ap (λ (more : List Addition). with_additions more) same
  where
    with_additions : List Addition → Market
    with_additions more = record {
      network = market.network ++ map (λ (a : Addition). a.variable) more;
      cliques = market.cliques ++ map (λ (a : Addition). a.clique) more;
      points_per_bit = market.points_per_bit;
      max_trades = market.max_trades;
      max_users = market.max_users;
      max_transfers = market.max_transfers;
      zeros = market.zeros;
    }

-- what a settlement costs is within a reply to `bound` where each state that can come could then
bound_covers : (market : Market) (middle new : Standing) (low high : ℕ) (paid : List ℕ)
    → IsAllowedFor market middle (OfCommand Bound) (Risked low high)
    → ((s : List ℕ) → is_possible new.history s ≡ true → is_possible middle.history s ≡ true)
    → CostsAtMost market new.history paid → CostsNoMoreThan market new.history paid high
bound_covers market middle new low high paid asked narrows costs =
    let bound = is_bound market middle low high asked in
    let least = value_of (λ (n : ℕ). CoversBound (initial_total market.network) n market.points_per_bit bound.low bound.high) (least_weight market.network middle.history) bound.covers in
    let later = All-from_recursion (Holds bound.high) (possible_states market.network new.history always)
    (each_fewer (Holds bound.high) (λ s. is_possible middle.history s && always s) (λ s. is_possible new.history s && always s) (all_states market.network)
    (λ s e. and_from (is_possible middle.history s) true
    (narrows s (and_parts (is_possible new.history s) true e).0) refl)
    (recursion_from_All (Holds bound.high) (possible_states market.network middle.history always)
    (bound_holds market.network middle.history new.history market.points_per_bit least.0 bound.low bound.high paid least.1 least.2))) in
    record {
      bound = subst (λ (most : ℕ). sum paid + market.points_per_bit * sum_by (withdrawn new.history) (numbers_below (length (users new.history)))
          ≤ market.points_per_bit * sum_by (deposited new.history) (numbers_below (length (users new.history))) + most) (let e = bound.printed in cc)
          (All-head (Holds bound.high) costs.state [] (subst (All (Holds bound.high)) costs.one_state later) costs.bounded);
    }
  where
    Holds : ℕ → List ℕ → Type 0
    Holds most s = LossIsBounded market.network new.history market.points_per_bit s paid
        → sum paid + market.points_per_bit * sum_by (withdrawn new.history) (numbers_below (length (users new.history)))
        ≤ market.points_per_bit * sum_by (deposited new.history) (numbers_below (length (users new.history))) + most

pays_no_more : (market : Market) (middle new : Standing) (low high : ℕ) (reply : Reply)
    → IsAllowedFor market middle (OfCommand Bound) (Risked low high)
    → ((s : List ℕ) → is_possible new.history s ≡ true → is_possible middle.history s ≡ true)
    → PaysWithin market new.history reply → PaysNoMoreThan market new.history high reply
pays_no_more market middle new low high (Settled at payments) asked narrows costs = bound_covers market middle new low high (paid_by payments) asked narrows costs
pays_no_more market middle new low high (SettledAll at users total) asked narrows costs = bound_covers market middle new low high (total ∷ []) asked narrows costs
pays_no_more market middle new low high (Joined u at) asked narrows costs = tt
pays_no_more market middle new low high (Deposited u bits at) asked narrows costs = tt
pays_no_more market middle new low high (Withdrawn u bits at) asked narrows costs = tt
pays_no_more market middle new low high (Priced least greatest) asked narrows costs = tt
pays_no_more market middle new low high (Limited limits at) asked narrows costs = tt
pays_no_more market middle new low high (Traded hit miss at) asked narrows costs = tt
pays_no_more market middle new low high (Bounded intervals at) asked narrows costs = tt
pays_no_more market middle new low high (Spreaded factors at) asked narrows costs = tt
pays_no_more market middle new low high (Worsted least greatest) asked narrows costs = tt
pays_no_more market middle new low high (Resolved p at) asked narrows costs = tt
pays_no_more market middle new low high (Risked least greatest) asked narrows costs = tt
pays_no_more market middle new low high (Told intervals) asked narrows costs = tt
pays_no_more market middle new low high (Positioned intervals) asked narrows costs = tt
pays_no_more market middle new low high (Counted at users trades most moves more left all) asked narrows costs = tt
pays_no_more market middle new low high (Added v at) asked narrows costs = tt
pays_no_more market middle new low high (PaidOut payment) asked narrows costs = tt
pays_no_more market middle new low high (Refused why) asked narrows costs = tt

PaysIn : List Entry → Reply → Market → Type 0
PaysIn H reply market = PaysWithin market H reply

PaysNoMoreIn : List Entry → ℕ → Reply → Market → Type 0
PaysNoMoreIn H most reply market = PaysNoMoreThan market H most reply

-- it speaks of the points of a bit alone
of_points : (market other : Market) (H : List Entry) (most : ℕ) (reply : Reply) → market.points_per_bit ≡ other.points_per_bit
    → PaysNoMoreThan market H most reply → PaysNoMoreThan other H most reply
of_points market other H most (Settled at payments) same h = record { bound = rw same at h.bound }
of_points market other H most (SettledAll at users total) same h = record { bound = rw same at h.bound }
of_points market other H most (Joined u at) same h = tt
of_points market other H most (Deposited u bits at) same h = tt
of_points market other H most (Withdrawn u bits at) same h = tt
of_points market other H most (Priced low high) same h = tt
of_points market other H most (Limited limits at) same h = tt
of_points market other H most (Traded hit miss at) same h = tt
of_points market other H most (Bounded intervals at) same h = tt
of_points market other H most (Spreaded factors at) same h = tt
of_points market other H most (Worsted low high) same h = tt
of_points market other H most (Resolved p at) same h = tt
of_points market other H most (Risked low high) same h = tt
of_points market other H most (Told intervals) same h = tt
of_points market other H most (Positioned intervals) same h = tt
of_points market other H most (Counted at users trades greatest moves more left all) same h = tt
of_points market other H most (Added v at) same h = tt
of_points market other H most (PaidOut payment) same h = tt
of_points market other H most (Refused why) same h = tt

pub bound_is_kept : (market : Market) (middle new : Standing) (first second : List Line)
    (replies more : List Reply) (low high : ℕ) (reply : Reply)
    → IsMarket market → Run market opening first replies middle
    → IsAllowedFor (present market middle.history) middle (OfCommand Bound) (Risked low high)
    → Run market middle second more new → additions new.history ≡ additions middle.history
    → IsAllowedFor (present market new.history) new (OfCommand Settle) reply
    → PaysNoMoreThan market new.history high reply
unfolding PaysIn PaysNoMoreIn
bound_is_kept market middle new first second replies more low high reply is_market run asked
    behind same settled =
    let opened = opening_present market is_market in
    let stands = run_keeps market middle new second more
    (run_keeps market opening middle first replies opened run) behind in
    let here = present market new.history in
    let costs = settlement_keeps here new (OfCommand Settle) reply stands settled in
    let costs_then = subst (PaysIn new.history reply)
    (same_market market middle.history new.history same) costs in
    let bounded = pays_no_more (present market middle.history) middle new low high reply asked
    (run_narrows market middle new second more behind) costs_then in
    of_points (present market middle.history) market new.history high reply refl bounded
