-- The quote that judges a spread: the user's last one, or one made anew.
use Rattle.std.specs.Prelude.{◌≡◌, ℕ, zero, suc, true, false, List, [], ◌∷◌, Option, Some, None, IfNone, Result, Ok, Err, MatchResult, slice_get, slice_set}
use Rattle.std.proofs.Common.{refl, sym, ap, ◌∙◌, subst}
use Rattle.arrayvec.specs.ArrayVec.{ArrayVec}
use Rattle.mk_net.specs.Network.{Variable}
use Rattle.mk_exact.specs.History.{Entry, revision}
use Rattle.mk_spread.specs.Spreads.{SpreadAsked}
use Rattle.mk_tree.specs.Given.{GivenTree}
use Rattle.mk_quote.specs.declared.spread_quote.SpreadQuote.{SpreadQuote}
use Rattle.mk_quote.specs.Spreads.{IsSpreadFor}
use Rattle.mk_record.specs.declared.last_quote.LastQuote.{LastQuote}
use Rattle.mk_record.specs.declared.last_quote.LastQuote.TheVariants.{Bounds}
use Rattle.mk_asking.specs.declared.possible.Stopped.{Stopped}
use Rattle.mk_asking.specs.declared.possible.Stopped.TheVariants.{Decided, ImpossibleShare, MissingShare, Outside}
use Rattle.mk_asking.specs.Keeping.{AreKeptQuotes}
use Rattle.mk_asking.specs.Quoting.{IsSpreadQuoteOf, IsJudge, IsInside, IsStopped, IsTaken, IsTurnedDown, quotes_behind}
use Rattle.mk_asking.specs.Stopped.{is_outside}

-- an item that is there already is set
set_same : {X : Type 0} (xs : List X) (i : ℕ) (x : X) → slice_get xs i ≡ Some x → slice_set xs i x ≡ xs
set_same [] i x e = cc
set_same (y ∷ xs) zero x e = ap (λ z. z ∷ xs) (let same : y ≡ x = cc in sym same)
set_same (y ∷ xs) (suc i) x e = ap (λ rest. y ∷ rest) (set_same xs i x e)

same_bounds : (first second : SpreadQuote) → Some (Some (Bounds first)) ≡ Some (Some (Bounds second)) → first ≡ second
same_bounds first second e = cc

-- where no last quote for a spread was found, none that is kept is for it
none_held : {X : Type 0} (quotes : List (Option LastQuote)) (u : ℕ) (spread : SpreadAsked)
    (now present : ℕ) (o : Option X) → ((x : X) → o ≡ Some x → ⊥) → now ≡ present
    → IfNone o ((held : SpreadQuote) → slice_get quotes u ≡ Some (Some (Bounds held)) → ¬ IsSpreadFor held spread now)
    → (held : SpreadQuote) → slice_get quotes u ≡ Some (Some (Bounds held)) → ¬ IsSpreadFor held spread present
none_held quotes u spread now present None not_some same h held at for = h held at (subst (IsSpreadFor held spread) (sym same) for)
none_held quotes u spread now present (Some x) not_some same h held at for = not_some x refl

module _ (network : List Variable) (tree : GivenTree) (H : List Entry) (u : ℕ) (spread : SpreadAsked) (quotes : List (Option LastQuote)) where
  -- the user's last quote judges, where it is of this spread and of the present revision
  pub last_judges : (quote : SpreadQuote) → AreKeptQuotes network tree H quotes → slice_get quotes u ≡ Some (Some (Bounds quote)) → IsSpreadFor quote spread (revision H)
      → IsJudge network tree H u spread quotes quote
  last_judges quote all_kept at for =
      let kept = all_kept u (Bounds quote) at in
      record {
        its = record { same_user = kept.same_user; question = for.same_question; at_present = for.same_revision; current = kept.current for.same_revision };
        last = λ held there _. same_bounds quote held (sym at ∙ there);
      }

  -- and else one made anew
  fresh_judges : (quote : SpreadQuote) → IsSpreadQuoteOf network tree H u spread quote
      → ((held : SpreadQuote) → slice_get quotes u ≡ Some (Some (Bounds held)) → ¬ IsSpreadFor held spread (revision H)) → IsJudge network tree H u spread quotes quote
  fresh_judges quote its none = record { its = its; last = λ held there for. absurd (none held there for) }

  -- so it is where no last quote was found
  pub anew_judges : {X : Type 0} (quote : SpreadQuote)
      → IsSpreadQuoteOf network tree H u spread quote → (now : ℕ) (o : Option X)
      → ((x : X) → o ≡ Some x → ⊥) → now ≡ revision H
      → IfNone o ((held : SpreadQuote) → slice_get quotes u ≡ Some (Some (Bounds held))
      → ¬ IsSpreadFor held spread now)
      → IsJudge network tree H u spread quotes quote
  anew_judges quote its now o not_some same none = fresh_judges quote its
      (none_held quotes u spread now (revision H) o not_some same none)

  module _ (quote : SpreadQuote) (judge : IsJudge network tree H u spread quotes quote) (Xs : List ℕ) where
    pub turned_down : (new_quotes : List (Option LastQuote)) (why : Stopped) → new_quotes ≡ quotes_behind quotes u quote why → IsStopped quote Xs why
        → IsTurnedDown network tree H u spread quotes new_quotes Xs why
    turned_down new_quotes (Decided why) set h = absurd h
    turned_down new_quotes (ImpossibleShare value) set h = record { quote = quote; judge = judge; is_stopped = h; quotes_left = set }
    turned_down new_quotes MissingShare set h = record { quote = quote; judge = judge; is_stopped = h; quotes_left = set }
    turned_down new_quotes (Outside box) set h = record { quote = quote; judge = judge; is_stopped = h; quotes_left = set }

    -- what the last quote says leaves it as it is
    left_behind : slice_get quotes u ≡ Some (Some (Bounds quote)) → (why : Stopped) → quotes ≡ quotes_behind quotes u quote why
    left_behind at (Decided why) = refl
    left_behind at (ImpossibleShare value) = refl
    left_behind at MissingShare = refl
    left_behind at (Outside box) = sym (set_same quotes u (Some (Bounds quote)) at)

    pub judged_by_last : slice_get quotes u ≡ Some (Some (Bounds quote)) → (r : Result (ArrayVec ℕ) Stopped)
        → MatchResult r (λ units. IsInside quote Xs units.items) (λ why. IsStopped quote Xs why)
        → MatchResult r (λ units. IsTaken network tree H u spread quotes quotes Xs units.items) (λ why. IsTurnedDown network tree H u spread quotes quotes Xs why)
    judged_by_last at (Ok units) h = record { quote = quote; judge = judge; is_inside = h; same_quotes = refl }
    judged_by_last at (Err why) h = turned_down quotes why (left_behind at why) h

    -- a quote made anew is set exactly where the shares are outside of it
    pub behind_set : (new_quotes : List (Option LastQuote)) (why : Stopped) → is_outside why ≡ true → new_quotes ≡ slice_set quotes u (Some (Bounds quote))
        → new_quotes ≡ quotes_behind quotes u quote why
    behind_set new_quotes (Decided why) e set = cc
    behind_set new_quotes (ImpossibleShare value) e set = cc
    behind_set new_quotes MissingShare e set = cc
    behind_set new_quotes (Outside box) e set = set

    pub behind_left : (new_quotes : List (Option LastQuote)) (why : Stopped) → is_outside why ≡ false → new_quotes ≡ quotes → new_quotes ≡ quotes_behind quotes u quote why
    behind_left new_quotes (Decided why) e same = same
    behind_left new_quotes (ImpossibleShare value) e same = same
    behind_left new_quotes MissingShare e same = same
    behind_left new_quotes (Outside box) e same = cc

    pub taken : (new_quotes : List (Option LastQuote)) (Fs : List ℕ) → new_quotes ≡ quotes → IsInside quote Xs Fs → IsTaken network tree H u spread quotes new_quotes Xs Fs
    taken new_quotes Fs same h = record { quote = quote; judge = judge; is_inside = h; same_quotes = same }
