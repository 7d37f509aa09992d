-- What a quote, and a trade by it, leave of the parts of a market.
use Rattle.std.specs.Prelude.{◌≡◌, ℕ, ◌<◌, ◌≤◌, List, length, true, false, Option, Some}
use Rattle.std.specs.Prelude.{None, slice_get, slice_set}
use Rattle.arrayvec.specs.ArrayVec.{ArrayVec}
use Rattle.mk_net.specs.Network.{Variable}
use Rattle.mk_net.specs.Asked.{Asked, TradeRatio, ratio_pairs}
use Rattle.mk_net.specs.Bounds.{max_market_trades}
use Rattle.mk_exact.specs.History.{Entry, trades, revision}
use Rattle.mk_states.specs.OfNetwork.{IsRatioOf}
use Rattle.mk_spread.specs.Spreads.{SpreadAsked}
use Rattle.mk_spread.specs.Bounds.{InsideEach}
use Rattle.mk_tree.specs.Given.{GivenTree, home}
use Rattle.mk_engine.specs.Meaning.{Meaning}
use Rattle.mk_beliefs.specs.Meanings.{weights_of}
use Rattle.mk_assets.specs.declared.assets.Assets.{Assets}
use Rattle.mk_assets.specs.Holdings.{Holding, Owns}
use Rattle.mk_quote.specs.declared.quote.Quote.{Quote}
use Rattle.mk_quote.specs.declared.spread_quote.SpreadQuote.{SpreadQuote}
use Rattle.mk_quote.specs.Quotes.{user_of, question_of, revision_of}
use Rattle.mk_quote.specs.Spreads as spreads
use Rattle.mk_quote.specs.Values.{AreFairForEach, AreRightForEach, impossible_share_in, misses_share_in}
use Rattle.mk_reply.specs.Refusals.{given_in}
use Rattle.mk_answers.specs.Open.{IsOpen}
use Rattle.mk_record.specs.declared.last_quote.LastQuote.{LastQuote}
use Rattle.mk_record.specs.declared.last_quote.LastQuote.TheVariants.{Bounds}
use Rattle.mk_record.specs.declared.users.Member.{Member}
use Rattle.mk_record.specs.Journals.{JournalOf}
use Rattle.mk_record.specs.Members.{assets_of}
use Rattle.mk_asking.specs.declared.possible.SpreadDecided.{SpreadDecided}
use Rattle.mk_asking.specs.declared.possible.Stopped.{Stopped}
use Rattle.mk_asking.specs.declared.possible.Stopped.TheVariants.{Decided, ImpossibleShare, MissingShare, Outside}
use Rattle.mk_asking.specs.Keeping.{AreHeld, IsCurrent, IsSpreadCurrent}
use Rattle.mk_asking.specs.Stopped.{IsSpreadDecidedBy}

-- the assets of one user stand for a holding: they have learnt all pairs that are known there
abbrev pub OwnsAt : {A Plan : Type 0} → (A → Meaning → Type 0) → List (Member A Plan) → ℕ → Holding → Type 0
OwnsAt {A} {Plan} gains_stand members u h = (assets : Assets A Plan) → slice_get (assets_of members) u ≡ Some assets → Owns gains_stand assets h

-- the engine has the weights of a market in use, and each user's assets are those that its history leaves
pub record AreInUse {P A Plan : Type 0} (weights_stand : P → Meaning → Type 0) (gains_stand : A → Meaning → Type 0) (network : List Variable) (tree : GivenTree)
    (H : List Entry) (prices : P) (members : List (Member A Plan)) : Type 0 where
  pub is_open : IsOpen network tree H
  pub weights : weights_stand prices (weights_of network tree H)
  pub held : AreHeld gains_stand network tree H members

-- a quote of this question for this user, made at the present revision, whose bounds enclose both sides
pub record IsQuoteOf (network : List Variable) (tree : GivenTree) (H : List Entry) (u : ℕ) (asked : Asked) (quote : Quote) : Type 0 where
  pub same_user : user_of quote ≡ u
  pub question : question_of quote ≡ asked
  pub at_present : revision_of quote ≡ revision H
  pub current : IsCurrent network tree H u quote

-- so is one of a spread, whose bounds enclose the side of each value
pub record IsSpreadQuoteOf (network : List Variable) (tree : GivenTree) (H : List Entry) (u : ℕ) (spread : SpreadAsked) (quote : SpreadQuote) : Type 0 where
  pub same_user : spreads.user_of quote ≡ u
  pub question : spreads.question_of quote ≡ spread
  pub at_present : spreads.revision_of quote ≡ revision H
  pub current : IsSpreadCurrent network tree H u quote

-- one that judges a spread: the user's last quote where that is of this spread and of the present revision
pub record IsJudge (network : List Variable) (tree : GivenTree) (H : List Entry) (u : ℕ) (spread : SpreadAsked) (quotes : List (Option LastQuote))
    (quote : SpreadQuote) : Type 0 where
  pub its : IsSpreadQuoteOf network tree H u spread quote
  pub last : (held : SpreadQuote) → slice_get quotes u ≡ Some (Some (Bounds held)) → spreads.IsSpreadFor held spread (revision H) → quote ≡ held

-- shares inside of a quote, with the units for them
pub record IsInside (quote : SpreadQuote) (Xs Fs : List ℕ) : Type 0 where
  pub inside : InsideEach (spreads.intervals_of quote) Xs
  pub fair : AreFairForEach (spreads.sides_of quote) Xs Fs

-- shares at the right places that are outside of it, with its intervals
pub record IsOutside (quote : SpreadQuote) (Xs : List ℕ) (box : Option (ArrayVec (ℕ × ℕ))) : Type 0 where
  pub no_impossible : impossible_share_in (spreads.sides_of quote) Xs ≡ None
  pub no_missing : misses_share_in (spreads.sides_of quote) Xs ≡ false
  pub outside : ¬ InsideEach (spreads.intervals_of quote) Xs
  pub given : given_in box ≡ spreads.intervals_of quote
  pub right : AreRightForEach (spreads.sides_of quote) (given_in box)

-- what stops shares by a quote, which is there because nothing decides its question
abbrev pub IsStopped : SpreadQuote → List ℕ → Stopped → Type 0
IsStopped quote Xs (Decided why) = ⊥
IsStopped quote Xs (ImpossibleShare value) = impossible_share_in (spreads.sides_of quote) Xs ≡ Some value
IsStopped quote Xs MissingShare = (impossible_share_in (spreads.sides_of quote) Xs ≡ None) × (misses_share_in (spreads.sides_of quote) Xs ≡ true)
IsStopped quote Xs (Outside box) = IsOutside quote Xs box

-- the last quotes behind shares that are stopped: the user's is the judge where they are outside of it
abbrev pub quotes_behind : List (Option LastQuote) → ℕ → SpreadQuote → Stopped → List (Option LastQuote)
quotes_behind quotes u quote (Outside box) = slice_set quotes u (Some (Bounds quote))
quotes_behind quotes u quote why = quotes

-- a spread that its judge takes leaves the last quotes
pub record IsTaken (network : List Variable) (tree : GivenTree) (H : List Entry) (u : ℕ) (spread : SpreadAsked) (quotes new_quotes : List (Option LastQuote))
    (Xs Fs : List ℕ) : Type 0 where
  pub quote : SpreadQuote
  pub judge : IsJudge network tree H u spread quotes quote
  pub is_inside : IsInside quote Xs Fs
  pub same_quotes : new_quotes ≡ quotes

-- so does one that its judge stops
pub record IsStoppedByJudge (network : List Variable) (tree : GivenTree) (H : List Entry) (u : ℕ) (spread : SpreadAsked)
    (quotes new_quotes : List (Option LastQuote)) (Xs : List ℕ) (why : Stopped) : Type 0 where
  pub quote : SpreadQuote
  pub judge : IsJudge network tree H u spread quotes quote
  pub is_stopped : IsStopped quote Xs why
  pub quotes_left : new_quotes ≡ quotes_behind quotes u quote why

-- one that is decided leaves them as they were, and has no judge
pub record IsDecidedSpread (network : List Variable) (H : List Entry) (spread : SpreadAsked) (quotes new_quotes : List (Option LastQuote)) (why : SpreadDecided) : Type 0 where
  pub decided : IsSpreadDecidedBy network H spread why
  pub same_quotes : new_quotes ≡ quotes

-- a spread that is turned down
abbrev pub IsTurnedDown : List Variable → GivenTree → List Entry → ℕ → SpreadAsked → List (Option LastQuote) → List (Option LastQuote) → List ℕ → Stopped → Type 0
IsTurnedDown network tree H u spread quotes new_quotes Xs (Decided why) = IsDecidedSpread network H spread quotes new_quotes why
IsTurnedDown network tree H u spread quotes new_quotes Xs why = IsStoppedByJudge network tree H u spread quotes new_quotes Xs why

-- a trade that can be made: some market is in use, its user has assets there, its ratio is of the
-- network and has this home, and there is room for one more
pub record CanBeMade {P A Plan : Type 0} (weights_stand : P → Meaning → Type 0) (gains_stand : A → Meaning → Type 0) (prices : P) (members : List (Member A Plan))
    (journal : JournalOf) (user at : ℕ) (ratio : TradeRatio) : Type 0 where
  pub network : List Variable
  pub tree : GivenTree
  pub in_use : AreInUse weights_stand gains_stand network tree journal.history prices members
  pub within : user < length members
  pub in_range : IsRatioOf network ratio
  pub at_home : home tree (ratio_pairs ratio) ≡ Some at
  pub room : length (trades journal.history) < journal.max_trades
  pub few : journal.max_trades ≤ max_market_trades
