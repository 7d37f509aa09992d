-- One change more is kept.
use Rattle.std.specs.Prelude.{◌≡◌, ℕ, ◌+◌, ◌*◌, ◌≤◌, List, [], ◌∷◌, ◌++◌, length, slice_range, All}
use Rattle.std.proofs.Common.{refl, sym, ◌∙◌, arith, length-append, append-nil}
use Rattle.std.proofs.Math.Seq.{get_or-append_seam, drop-append_seam}
use Rattle.std.proofs.lemmas.List.{map-append}
use Rattle.std.proofs.lemmas.List.Elements.{All-append, All-from_recursion}
use Rattle.std.proofs.lemmas.Slice.{between_to_end}
use Rattle.mk_net.specs.declared.words.Pair.{Pair}
use Rattle.mk_net.specs.Asked.{TradeRatio}
use Rattle.mk_net.specs.Bounds.{max_condition, max_values}
use Rattle.mk_exact.specs.History as history
use Rattle.mk_exact.specs.History.{Entry, users, trades, additions}
use Rattle.mk_history.specs.declared.change.Change.{Change}
use Rattle.mk_history.specs.declared.change.Change.TheVariants.{Join, Deposit, Withdraw, Trade}
use Rattle.mk_history.specs.declared.change.Change.TheVariants.{Resolve, Settle, Add}
use Rattle.mk_history.specs.declared.change.KeptTrade.{KeptTrade}
use Rattle.mk_history.specs.declared.history.Limits.{Limits}
use Rattle.mk_history.specs.inner.Kept.{Lists, ratio_kept, entry_kept, alone, IsKept, IsRatio, no_addition}
use Rattle.mk_history.specs.Histories.{HistoryOf}
use Rattle.mk_history.specs.inner.Counted.{entries_kept, AreKept, AreMeasured, HasPlaceAlone}
use Rattle.mk_history.proofs.Counts.{HasPlace, within_more, one_more, IsOneMore}
use Rattle.mk_history.proofs.Longer.{Grows, entries_more, all_more}

-- the lists grow by as much as the change asks for
pub record IsMeasuredBy (e : Entry) (names : List (List ℕ)) (pairs : List Pair) (factors : List ℕ)
    (added : List history.Addition) : Type 0 where
  pub its_names : length names ≡ length (users (e ∷ []))
  pub its_pairs : length pairs ≤ max_condition * length (trades (e ∷ []))
  pub its_factors : length factors ≤ max_values * length (trades (e ∷ []))
  pub its_additions : length added ≡ length (additions (e ∷ []))

-- the changes with one more are kept, and are the history with one entry more
pub record IsAdded (old new : Lists) (changes : List Change) (limits : Limits) (change : Change) (e : Entry) : Type 0 where
  pub kept : AreKept new (changes ++ change ∷ []) limits
  pub same : entries_kept new (changes ++ change ∷ []) ≡ entries_kept old changes ++ e ∷ []

one_kept : (P : Change → Type 0) (change : Change) → P change → All P (change ∷ [])
one_kept P change h = All-from_recursion P (change ∷ []) (h, tt)

module _ (old new : Lists) (names : List (List ℕ)) (pairs : List Pair) (factors : List ℕ) (added : List history.Addition)
    (more : Grows old new names pairs factors added) where
  measured_more : (H : List Entry) (e : Entry) → AreMeasured H old → IsMeasuredBy e names pairs factors added
      → AreMeasured (H ++ e ∷ []) new
  measured_more H e kept by =
      let one : IsOneMore H e = one_more H e in
      record {
        names = rw more.same_names (omega (arith, length-append old.names names, kept.names, by.its_names, one.users));
        pairs = rw more.same_pairs (omega (arith, length-append old.pairs pairs, kept.pairs, by.its_pairs, one.trades));
        factors = rw more.same_factors (omega (arith, length-append old.factors factors, kept.factors, by.its_factors, one.trades));
        additions = rw more.same_additions
            (omega (arith, length-append old.additions added, kept.additions, by.its_additions, one.additions));
      }

  pub added_more : (changes : List Change) (limits : Limits) (change : Change) (e : Entry) → AreKept old changes limits
      → HasPlace (entries_kept old changes) limits e → IsMeasuredBy e names pairs factors added
      → entry_kept new change ≡ e → IsKept new change → IsAdded old new changes limits change e
  added_more changes limits change e kept room by is there =
      let same : entries_kept new (changes ++ change ∷ []) ≡ entries_kept old changes ++ e ∷ []
      = map-append (entry_kept new) changes (change ∷ [])
      ∙ rw (entries_more old new names pairs factors added more changes kept.kept, is) refl in
      record {
        kept = record {
          kept = All-append (IsKept new) changes (change ∷ [])
              (all_more old new names pairs factors added more changes kept.kept) (one_kept (IsKept new) change there);
          within = rw same (within_more (entries_kept old changes) limits e kept.within room);
          measured = rw same (measured_more (entries_kept old changes) e kept.measured by);
        };
        same = same;
      }

same_lists : (lists : Lists) → Grows lists lists [] [] [] []
same_lists lists = record {
  same_names = sym (append-nil lists.names);
  same_pairs = sym (append-nil lists.pairs);
  same_factors = sym (append-nil lists.factors);
  same_payments = refl;
  same_additions = sym (append-nil lists.additions);
}

module _ (lists : Lists) (changes : List Change) (limits : Limits) (kept : AreKept lists changes limits) where
  -- a change that names nothing beside it
  pub short_added : (change : Change) (e : Entry) → HasPlace (entries_kept lists changes) limits e → IsMeasuredBy e [] [] [] []
      → entry_kept lists change ≡ e → IsKept lists change → IsAdded lists lists changes limits change e
  short_added change e = added_more lists lists [] [] [] [] (same_lists lists) changes limits change e kept

  abbrev here : HistoryOf
  here = record {
    history = entries_kept lists changes;
    max_trades = limits.trades;
    max_users = limits.users;
    max_transfers = limits.transfers;
  }

  pub place_alone : (change : Change) → HasPlaceAlone here change
      → HasPlace (entries_kept lists changes) limits (alone change)
  place_alone (Deposit user bits) room = room
  place_alone (Withdraw user bits) room = room
  place_alone (Resolve pair) room = room
  place_alone (Join name) room = elim room [ ]
  place_alone (Trade trade) room = elim room [ ]
  place_alone Settle room = elim room [ ]
  place_alone (Add question) room = elim room [ ]

  pub alone_added : (change : Change) → HasPlaceAlone here change
      → IsAdded lists lists changes limits change (alone change)
  alone_added (Deposit user bits) room = short_added (Deposit user bits) (history.Deposit user bits) room
      (record { its_names = refl; its_pairs = omega arith; its_factors = omega arith; its_additions = refl }) refl tt
  alone_added (Withdraw user bits) room = short_added (Withdraw user bits) (history.Withdraw user bits) room
      (record { its_names = refl; its_pairs = omega arith; its_factors = omega arith; its_additions = refl }) refl tt
  alone_added (Resolve pair) room = short_added (Resolve pair) (history.Resolve pair) room
      (record { its_names = refl; its_pairs = omega arith; its_factors = omega arith; its_additions = refl }) refl tt
  alone_added (Join name) room = elim room [ ]
  alone_added (Trade trade) room = elim room [ ]
  alone_added Settle room = elim room [ ]
  alone_added (Add question) room = elim room [ ]

  pub join_added : (names : List (List ℕ)) (name : ℕ) (user : List ℕ)
      → names ≡ lists.names ++ user ∷ [] → name ≡ length lists.names
      → HasPlace (entries_kept lists changes) limits (history.Join user)
      → IsAdded lists (record lists { names = names }) changes limits (Join name) (history.Join user)
  join_added names name user longer last room =
      let more : Grows lists (record lists { names = names }) (user ∷ []) [] [] [] = record {
        same_names = longer;
        same_pairs = sym (append-nil lists.pairs);
        same_factors = sym (append-nil lists.factors);
        same_payments = refl;
        same_additions = sym (append-nil lists.additions);
      } in
      added_more lists (record lists { names = names }) (user ∷ []) [] [] [] more changes limits (Join name) (history.Join user) kept room
      (record { its_names = refl; its_pairs = omega arith; its_factors = omega arith; its_additions = refl })
      (rw (longer, last, get_or-append_seam lists.names user [] []) refl)
      (rw (longer, last) (omega (arith, length-append lists.names (user ∷ []))))

  pub addition_added : (added : List history.Addition) (number : ℕ) (addition : history.Addition)
      → added ≡ lists.additions ++ addition ∷ [] → number ≡ length lists.additions
      → HasPlace (entries_kept lists changes) limits (history.Add addition)
      → IsAdded lists (record lists { additions = added }) changes limits (Add number) (history.Add addition)
  addition_added added number addition longer last room =
      let more : Grows lists (record lists { additions = added }) [] [] [] (addition ∷ []) = record {
        same_names = sym (append-nil lists.names);
        same_pairs = sym (append-nil lists.pairs);
        same_factors = sym (append-nil lists.factors);
        same_payments = refl;
        same_additions = longer;
      } in
      added_more lists (record lists { additions = added }) [] [] [] (addition ∷ []) more changes limits (Add number)
      (history.Add addition) kept room
      (record { its_names = refl; its_pairs = omega arith; its_factors = omega arith; its_additions = refl })
      (rw (longer, last, get_or-append_seam lists.additions addition [] no_addition) refl)
      (rw (longer, last) (omega (arith, length-append lists.additions (addition ∷ []))))

behind : {X : Type 0} (xs ys : List X) (i n : ℕ) → i ≡ length xs → n ≡ length ys → slice_range (xs ++ ys) i (i + n) ≡ ys
behind xs ys i n e f = rw (e, f)
    (between_to_end (xs ++ ys) (length xs) (length xs + length ys) (omega (arith, length-append xs ys)) ∙ drop-append_seam xs ys)

-- where a trade's parts begin, and how many there are
pub record IsPlacedAt (lists : Lists) (ratio : TradeRatio) (trade : KeptTrade) : Type 0 where
  pub variable : trade.variable ≡ ratio.variable
  pub first_pair : trade.first_pair ≡ length lists.pairs
  pub first_factor : trade.first_factor ≡ length lists.factors
  pub pairs : trade.pairs ≡ length ratio.condition
  pub factors : trade.factors ≡ length ratio.factors

module _ (lists : Lists) (changes : List Change) (limits : Limits) (kept : AreKept lists changes limits) where
  pub trade_added : (pairs : List Pair) (factors : List ℕ) (trade : KeptTrade) (ratio : TradeRatio)
      → pairs ≡ lists.pairs ++ ratio.condition → factors ≡ lists.factors ++ ratio.factors → IsPlacedAt lists ratio trade → IsRatio ratio
      → HasPlace (entries_kept lists changes) limits (history.Trade trade.user ratio)
      → IsAdded lists (record lists { pairs = pairs; factors = factors }) changes limits (Trade trade) (history.Trade trade.user ratio)
  trade_added pairs factors trade ratio longer_pairs longer_factors at lawful room =
      let new : Lists = record lists { pairs = pairs; factors = factors } in
      let more : Grows lists new [] ratio.condition ratio.factors [] = record {
        same_names = sym (append-nil lists.names);
        same_pairs = longer_pairs;
        same_factors = longer_factors;
        same_payments = refl;
        same_additions = sym (append-nil lists.additions);
      } in
      let same : ratio_kept pairs factors trade ≡ ratio = rw (
        longer_pairs,
        longer_factors,
        behind lists.pairs ratio.condition trade.first_pair trade.pairs at.first_pair at.pairs,
        behind lists.factors ratio.factors trade.first_factor trade.factors at.first_factor at.factors,
        at.variable,
      ) refl in
      added_more lists new [] ratio.condition ratio.factors [] more changes limits (Trade trade) (history.Trade trade.user ratio) kept room
      (record { its_names = refl; its_pairs = lawful.few_pairs; its_factors = lawful.few_factors; its_additions = refl })
      (rw same refl)
      (record {
        pairs_there = rw longer_pairs (omega (arith, length-append lists.pairs ratio.condition, at.first_pair, at.pairs));
        factors_there = rw longer_factors (omega (arith, length-append lists.factors ratio.factors, at.first_factor, at.factors));
        ratio = rw same lawful;
      })
