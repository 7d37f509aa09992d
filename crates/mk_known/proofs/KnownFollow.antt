-- What is known stays known: each user has a place, and the flag tells of the history.
use Rattle.std.proofs.Common.{◌≡◌, ℕ, ◌+◌, List, [], ◌∷◌, ◌++◌, Bool, true, false, Option, Some, None, length, refl, sym, ap, ◌∙◌, subst, ◌↔◌, append-nil, length-append}
use Rattle.std.specs.Prelude.{option_map, option_to_list, IfSome}
use Rattle.std.proofs.Math.ListN.{length-set}
use Rattle.mk_net.specs.Network.{IsNetwork}
use Rattle.arrayvec.specs.ArrayVec.{ArrayVec}
use Rattle.mk_exact.specs.History.{Entry, join_in, trade_in, addition_in, users}
use Rattle.mk_exact.specs.Weight.{IsSmall}
use Rattle.mk_exact.specs.Proper.{IsProper}
use Rattle.mk_exact.specs.Market.{Market, with_entry}
use Rattle.mk_exact.proofs.After.{users_kept, users_more}
use Rattle.mk_command.specs.declared.command.Command.{Command}
use Rattle.mk_command.specs.declared.command.Command.TheVariants.{User, Deposit, Withdraw, Price}
use Rattle.mk_command.specs.declared.command.Command.TheVariants.{Limits, Edit, Bounds, Spread}
use Rattle.mk_command.specs.declared.command.Command.TheVariants.{Worst, Resolve, Settle, Bound}
use Rattle.mk_command.specs.declared.command.Command.TheVariants.{Prices, Position, Status, Add}
use Rattle.mk_command.specs.declared.command.Command.TheVariants.{Paid}
use Rattle.mk_reply.specs.declared.refusal.Refusal.TheVariants.{Beyond, Outside}
use Rattle.mk_reply.specs.declared.reply.Reply.{Reply}
use Rattle.mk_reply.specs.declared.reply.Reply.TheVariants as reply
use Rattle.mk_rules.specs.Refusals.{question_named, spread_named}
use Rattle.mk_net.specs.Named.{pair_named}
use Rattle.mk_rules.specs.Quotes.{Quotes}
use Rattle.mk_rules.specs.Answers.{IsAllowed, entry_of, next_history, next_quotes}
use Rattle.mk_rules.specs.Transcript.{with_entries}
use Rattle.mk_restore.specs.Restoring.{IsFit}
use Rattle.mk_restore.proofs.Taken.{allowed_fits}
use Rattle.mk_known.specs.Known.{Knowledge, IsKnown}
use Rattle.mk_known.specs.inner.Walks.{LeavesWeights}
use Rattle.mk_known.proofs.SmallWeights.{same_weights, no_addition, small_before}

-- ---- the change that a reply is

-- what is allowed and no change appends nothing
unfit_is_none : (market : Market) (H : List Entry) (quotes : Quotes) (command : Command)
    (told : Reply) → IsAllowed market H quotes command told
    → (IsFit market H command told → ⊥) → entry_of market H command told ≡ None
unfit_is_none market H quotes command told allowed unfit = at (entry_of market H command told) refl
  where
    at : (o : Option Entry) → entry_of market H command told ≡ o → o ≡ None
    at None e = refl
    at (Some entry) e = absurd (unfit (allowed_fits market H quotes command told entry allowed e))

-- so it leaves the history, and the market
pub unfit_stays : (market : Market) (H : List Entry) (quotes : Quotes) (command : Command)
    (told : Reply) → IsAllowed market H quotes command told
    → (IsFit market H command told → ⊥) → H ≡ next_history market H command told
unfit_stays market H quotes command told allowed unfit =
    sym (ap (λ (o : Option Entry). H ++ option_to_list o)
    (unfit_is_none market H quotes command told allowed unfit) ∙ append-nil H)

pub unfit_adds_nothing : (market : Market) (H : List Entry) (quotes : Quotes) (command : Command)
    (told : Reply) → IsAllowed market H quotes command told
    → (IsFit market H command told → ⊥)
    → market ≡ with_entries (entry_of market H command told) market
unfit_adds_nothing market H quotes command told allowed unfit =
    sym (ap (λ (o : Option Entry). with_entries o market)
    (unfit_is_none market H quotes command told allowed unfit))

mapped : {X Y : Type 0} (P : Y → Type 0) (f : X → Y) → ((x : X) → P (f x)) → (o : Option X)
    → IfSome (option_map f o) P
mapped P f each None = tt
mapped P f each (Some x) = each x

-- ---- the flag

SmallIn : Bool → List Entry → Market → Type 0
SmallIn was H market = (was ≡ true) ↔ IsSmall market.network H

-- a history that was not small is not small
pub large_stays : (market after : Market) (H G : List Entry) (change : Option Entry) (was : Bool)
    → IsNetwork after.network → IsProper market.network H → IsProper after.network G
    → after ≡ with_entries change market → G ≡ H ++ option_to_list change → was ≡ false
    → (was ≡ true) ↔ IsSmall market.network H → (was ≡ true) ↔ IsSmall after.network G
large_stays market after H G change was net proper later same next large known =
    (λ yes. absurd (cc), λ small. known.1 (at change same next small))
  where
    at : (change : Option Entry) → after ≡ with_entries change market
        → G ≡ H ++ option_to_list change → IsSmall after.network G → IsSmall market.network H
    at None same next small =
        subst (IsSmall market.network) (next ∙ append-nil H)
        (subst (λ (m : Market). IsSmall m.network G) same small)
    at (Some entry) same next small =
        let there = subst (λ (m : Market). IsProper m.network G × IsSmall m.network G) same
        (later, small) in
        let here = subst (λ (F : List Entry). IsProper (with_entry entry market).network F
        × IsSmall (with_entry entry market).network F) next there in
        small_before market H entry (subst (λ (m : Market). IsNetwork m.network) same net) proper
        here.0 here.1

-- behind what leaves the weights a history is small where it was small before
pub stays_alike : (market after : Market) (H G : List Entry) (change : Option Entry) (was : Bool)
    → LeavesWeights change → after ≡ with_entries change market → G ≡ H ++ option_to_list change
    → (was ≡ true) ↔ IsSmall market.network H → (was ≡ true) ↔ IsSmall after.network G
unfolding SmallIn
stays_alike market after H G change was leaves same next known =
    subst (SmallIn was G) (sym same)
    (subst (λ (F : List Entry). SmallIn was F (with_entries change market)) (sym next)
    (at change leaves))
  where
    at : (change : Option Entry) → LeavesWeights change
        → SmallIn was (H ++ option_to_list change) (with_entries change market)
    at None leaves = subst (λ (F : List Entry). SmallIn was F market) (sym (append-nil H)) known
    at (Some entry) leaves = subst (SmallIn was (H ++ entry ∷ []))
        (sym (no_addition market entry leaves.1)) (
          λ yes. rw (same_weights market.network H entry leaves.0) (known.0 yes),
          λ small. known.1 (rw (same_weights market.network H entry leaves.0) at small),
        )

-- a reply that tells of no trade and of no added question leaves the weights
WeighsNothing : Market → List Entry → Command → Reply → Type 0
WeighsNothing market H command told = LeavesWeights (entry_of market H command told)

none_weighs : (market : Market) (H : List Entry) (command : Command) (told : Reply)
    → ((hit miss at : ℕ) → told ≡ reply.Traded hit miss at → ⊥)
    → ((factors : ArrayVec ℕ) (at : ℕ) → told ≡ reply.Spreaded factors at → ⊥)
    → ((variable : List ℕ) (at : ℕ) → told ≡ reply.Added variable at → ⊥)
    → WeighsNothing market H command told
unfolding WeighsNothing
none_weighs market H (User u) (reply.Joined v at) edit spread add = (refl, refl)
none_weighs market H (User u) told edit spread add = tt
none_weighs market H (Deposit u bits) (reply.Deposited v n at) edit spread add = (refl, refl)
none_weighs market H (Deposit u bits) told edit spread add = tt
none_weighs market H (Withdraw u bits) (reply.Withdrawn v n at) edit spread add = (refl, refl)
none_weighs market H (Withdraw u bits) told edit spread add = tt
none_weighs market H (Edit u q X seen) (reply.Traded hit miss at) edit spread add =
    absurd (edit hit miss at refl)
none_weighs market H (Edit u q X seen) told edit spread add = tt
none_weighs market H (Spread u v condition to seen) (reply.Spreaded factors at) edit spread add =
    absurd (spread factors at refl)
none_weighs market H (Spread u v condition to seen) told edit spread add = tt
none_weighs market H (Resolve p) (reply.Resolved q at) edit spread add =
    mapped (λ (e : Entry). (trade_in e ≡ None) × (addition_in e ≡ None)) _ (λ pair. (refl, refl))
    (pair_named market.network p)
none_weighs market H (Resolve p) told edit spread add = tt
none_weighs market H Settle (reply.Settled at payments) edit spread add = (refl, refl)
none_weighs market H Settle (reply.SettledAll at n total) edit spread add = (refl, refl)
none_weighs market H Settle told edit spread add = tt
none_weighs market H (Paid u) told edit spread add = tt
none_weighs market H (Price q) told edit spread add = tt
none_weighs market H (Limits u q) told edit spread add = tt
none_weighs market H (Bounds u v condition) told edit spread add = tt
none_weighs market H (Worst u) told edit spread add = tt
none_weighs market H Bound told edit spread add = tt
none_weighs market H (Prices v condition) told edit spread add = tt
none_weighs market H (Position u v condition) told edit spread add = tt
none_weighs market H Status told edit spread add = tt
none_weighs market H (Add question) (reply.Added variable at) edit spread add =
    absurd (add variable at refl)
none_weighs market H (Add question) told edit spread add = tt

pub leaves_weights : (market : Market) (H : List Entry) (command : Command) (told : Reply)
    → ((hit miss at : ℕ) → told ≡ reply.Traded hit miss at → ⊥)
    → ((factors : ArrayVec ℕ) (at : ℕ) → told ≡ reply.Spreaded factors at → ⊥)
    → ((variable : List ℕ) (at : ℕ) → told ≡ reply.Added variable at → ⊥)
    → LeavesWeights (entry_of market H command told)
unfolding WeighsNothing
leaves_weights market H command told edit spread add =
    none_weighs market H command told edit spread add

-- ---- the places

-- nobody joins by another change
none_joins : (H : List Entry) (o : Option Entry) → IfSome o (λ e. join_in e ≡ None) → users (H ++ option_to_list o) ≡ users H
none_joins H None h = ap users (append-nil H)
none_joins H (Some e) h = users_kept H e h

JoinsNobody : Market → List Entry → Command → Reply → Type 0
JoinsNobody market H command told = IfSome (entry_of market H command told) (λ e. join_in e ≡ None)

no_joining : (market : Market) (H : List Entry) (command : Command) (told : Reply) → ((u : List ℕ) → command ≡ User u → ⊥) → JoinsNobody market H command told
unfolding JoinsNobody
no_joining market H (User u) told h = absurd (h u refl)
no_joining market H (Deposit u bits) (reply.Deposited v n at) h = refl
no_joining market H (Deposit u bits) told h = tt
no_joining market H (Withdraw u bits) (reply.Withdrawn v n at) h = refl
no_joining market H (Withdraw u bits) told h = tt
no_joining market H (Edit u q X seen) (reply.Traded hit miss at) h = mapped (λ (e : Entry). join_in e ≡ None) _ (λ asked. refl) (question_named market.network q)
no_joining market H (Edit u q X seen) told h = tt
no_joining market H (Spread u v condition to seen) (reply.Spreaded factors at) h = mapped (λ (e : Entry). join_in e ≡ None) _ (λ spread. refl) (spread_named market.network v condition.items)
no_joining market H (Spread u v condition to seen) told h = tt
no_joining market H (Resolve p) (reply.Resolved q at) h = mapped (λ (e : Entry). join_in e ≡ None) _ (λ pair. refl) (pair_named market.network p)
no_joining market H (Resolve p) told h = tt
no_joining market H Settle (reply.Settled at payments) h = refl
no_joining market H Settle (reply.SettledAll at n total) h = refl
no_joining market H Settle told h = tt
no_joining market H (Paid u) told h = tt
no_joining market H (Price q) told h = tt
no_joining market H (Limits u q) told h = tt
no_joining market H (Bounds u v condition) told h = tt
no_joining market H (Worst u) told h = tt
no_joining market H Bound told h = tt
no_joining market H (Prices v condition) told h = tt
no_joining market H (Position u v condition) told h = tt
no_joining market H Status told h = tt
no_joining market H (Add question) (reply.Added variable at) h = refl
no_joining market H (Add question) told h = tt

HasSamePlaces : Market → List Entry → Quotes → Command → Reply → Type 0
HasSamePlaces market H quotes command told = length (next_quotes market H quotes command told) ≡ length quotes

same_places : (market : Market) (H : List Entry) (quotes : Quotes) (command : Command) (told : Reply) → ((u : List ℕ) → command ≡ User u → ⊥) → HasSamePlaces market H quotes command told
unfolding HasSamePlaces
same_places market H quotes (User u) told h = absurd (h u refl)
same_places market H quotes (Deposit u bits) told h = refl
same_places market H quotes (Withdraw u bits) told h = refl
same_places market H quotes (Price q) told h = refl
same_places market H quotes (Limits u q) (reply.Limits limits at) h = length-set quotes _ _
same_places market H quotes (Limits u q) told h = refl
same_places market H quotes (Edit u q X seen) (reply.Refused (Beyond limits)) h = length-set quotes _ _
same_places market H quotes (Edit u q X seen) told h = refl
same_places market H quotes (Bounds u v condition) (reply.Bounded box at) h = length-set quotes _ _
same_places market H quotes (Bounds u v condition) told h = refl
same_places market H quotes (Spread u v condition to seen) (reply.Refused (Outside box)) h = length-set quotes _ _
same_places market H quotes (Spread u v condition to seen) told h = refl
same_places market H quotes (Worst u) told h = refl
same_places market H quotes (Resolve p) told h = refl
same_places market H quotes Settle told h = refl
same_places market H quotes (Paid u) told h = refl
same_places market H quotes Bound told h = refl
same_places market H quotes (Prices v condition) told h = refl
same_places market H quotes (Position u v condition) told h = refl
same_places market H quotes Status told h = refl
same_places market H quotes (Add question) told h = refl

other_places : (market : Market) (H : List Entry) (quotes : Quotes) (command : Command) (told : Reply) → ((u : List ℕ) → command ≡ User u → ⊥)
    → length quotes ≡ length (users H) → length (next_quotes market H quotes command told) ≡ length (users (next_history market H command told))
unfolding HasSamePlaces JoinsNobody
other_places market H quotes command told other h = same_places market H quotes command told other ∙ h
    ∙ sym (ap (λ (names : List (List ℕ)). length names) (none_joins H (entry_of market H command told) (no_joining market H command told other)))

-- each user has a place behind a reply
pub places : (market : Market) (H : List Entry) (quotes : Quotes) (command : Command) (told : Reply) → length quotes ≡ length (users H)
    → length (next_quotes market H quotes command told) ≡ length (users (next_history market H command told))
places market H quotes (User u) told h = at told
  where
    stays : length quotes ≡ length (users (H ++ []))
    stays = h ∙ sym (ap (λ (G : List Entry). length (users G)) (append-nil H))

    at : (told : Reply) → length (next_quotes market H quotes (User u) told) ≡ length (users (next_history market H (User u) told))
    at (reply.Joined v n) = length-append quotes (None ∷ []) ∙ ap (λ (n : ℕ). n + 1) h ∙ sym (length-append (users H) (u ∷ [])) ∙ sym (ap length (users_more H u))
    at other = stays
places market H quotes (Deposit u bits) told h = other_places market H quotes (Deposit u bits) told (λ v e. cc) h
places market H quotes (Withdraw u bits) told h = other_places market H quotes (Withdraw u bits) told (λ v e. cc) h
places market H quotes (Price q) told h = other_places market H quotes (Price q) told (λ v e. cc) h
places market H quotes (Limits u q) told h = other_places market H quotes (Limits u q) told (λ v e. cc) h
places market H quotes (Edit u q X seen) told h = other_places market H quotes (Edit u q X seen) told (λ v e. cc) h
places market H quotes (Bounds u v condition) told h = other_places market H quotes (Bounds u v condition) told (λ v e. cc) h
places market H quotes (Spread u v condition to seen) told h = other_places market H quotes (Spread u v condition to seen) told (λ v e. cc) h
places market H quotes (Worst u) told h = other_places market H quotes (Worst u) told (λ v e. cc) h
places market H quotes (Resolve p) told h = other_places market H quotes (Resolve p) told (λ v e. cc) h
places market H quotes Settle told h = other_places market H quotes Settle told (λ v e. cc) h
places market H quotes (Paid u) told h =
    other_places market H quotes (Paid u) told (λ v e. cc) h
places market H quotes Bound told h = other_places market H quotes Bound told (λ v e. cc) h
places market H quotes (Prices v condition) told h = other_places market H quotes (Prices v condition) told (λ v e. cc) h
places market H quotes (Position u v condition) told h = other_places market H quotes (Position u v condition) told (λ v e. cc) h
places market H quotes Status told h = other_places market H quotes Status told (λ v e. cc) h
places market H quotes (Add question) told h =
    other_places market H quotes (Add question) told (λ v e. cc) h

-- what is known behind a reply
pub known_next : (market after : Market) (H G : List Entry) (old new : Knowledge)
    (command : Command) (told : Reply) (was : Bool) → IsProper market.network H
    → IsKnown market H old → after ≡ with_entries (entry_of market H command told) market
    → G ≡ next_history market H command told
    → new.quotes ≡ next_quotes market H old.quotes command told → was ≡ old.small
    → ((before : Market) (F : List Entry) (asked : Command) → IsProper before.network F
    → after ≡ with_entries (entry_of before F asked told) before
    → G ≡ next_history before F asked told → (was ≡ true) ↔ IsSmall before.network F
    → (new.small ≡ true) ↔ IsSmall after.network G)
    → IsKnown after G new
known_next market after H G old new command told was proper known same next quotes is small =
    record {
      one_place_each = ap (λ (qs : Quotes). length qs) quotes
          ∙ places market H old.quotes command told known.one_place_each
          ∙ sym (ap (λ (l : List Entry). length (users l)) next);
      small = small market H command proper same next
          (λ yes. known.small.0 (sym is ∙ yes), λ few. is ∙ known.small.1 few);
    }
