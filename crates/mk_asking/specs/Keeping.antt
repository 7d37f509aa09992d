-- How the last quotes and the assets of users are kept.
use Rattle.std.specs.Prelude.{◌≡◌, ℕ, ◌≤◌, List, length, Option, Some, slice_get}
use Rattle.mk_net.specs.Network.{Variable}
use Rattle.mk_exact.specs.Limits.{Side}
use Rattle.mk_exact.specs.Sides.{AreSides}
use Rattle.mk_spread.specs.Markets.{AreValueSides, values_left}
use Rattle.mk_exact.specs.Weight.{IsSmall}
use Rattle.mk_exact.specs.History.{Entry, revision}
use Rattle.mk_tree.specs.Given.{GivenTree}
use Rattle.mk_engine.specs.Meaning.{Meaning}
use Rattle.mk_assets.specs.declared.assets.Assets.{Assets}
use Rattle.mk_assets.specs.Holdings.{Holding, Holds}
use Rattle.mk_quote.specs.declared.quote.Quote.{Quote}
use Rattle.mk_quote.specs.declared.spread_quote.SpreadQuote.{SpreadQuote}
use Rattle.mk_quote.specs.Quotes.{user_of, question_of, revision_of, bounds_of}
use Rattle.mk_quote.specs.Spreads as spreads
use Rattle.mk_answers.specs.Results.{AreBothLeft}
use Rattle.mk_answers.specs.Open.{CanBeAnswered, CanBeSpreadHere, AreBoundsFor, AreSideBoundsFor, holding_of}
use Rattle.mk_record.specs.declared.last_quote.LastQuote.{LastQuote}
use Rattle.mk_record.specs.declared.last_quote.LastQuote.TheVariants.{Limits, Bounds}
use Rattle.mk_record.specs.declared.users.Member.{Member}
use Rattle.mk_record.specs.Journals.{JournalOf}
use Rattle.mk_record.specs.Members.{assets_of}

-- the user and the revision of a quote
abbrev pub user_in : LastQuote → ℕ
user_in (Limits quote) = user_of quote
user_in (Bounds quote) = spreads.user_of quote

abbrev pub revision_in : LastQuote → ℕ
revision_in (Limits quote) = revision_of quote
revision_in (Bounds quote) = spreads.revision_of quote

-- the bounds of a quote enclose both sides of its question, which can be answered and is not decided
pub record IsCurrent (network : List Variable) (tree : GivenTree) (H : List Entry) (u : ℕ) (quote : Quote) : Type 0 where
  pub answered : CanBeAnswered network tree H (question_of quote)
  pub left : AreBothLeft network H (question_of quote)
  pub bounds : (hit miss : Side) → AreSides network H u (question_of quote) hit miss → AreBoundsFor (bounds_of quote) (IsSmall network H) hit miss

-- the bounds of a quote enclose the side of each value that can come, of which there are two, and its question can be answered
pub record IsSpreadCurrent (network : List Variable) (tree : GivenTree) (H : List Entry) (u : ℕ) (quote : SpreadQuote) : Type 0 where
  pub answered : CanBeSpreadHere network tree H (spreads.question_of quote)
  pub two_left : 2 ≤ length (values_left network H (spreads.question_of quote))
  pub bounds : (sides : List (Option Side)) → AreValueSides network H u (spreads.question_of quote) sides
      → AreSideBoundsFor (spreads.sides_of quote) (IsSmall network H) sides

-- the bounds of a quote enclose what they are bounds of
abbrev pub IsLastCurrent : List Variable → GivenTree → List Entry → ℕ → LastQuote → Type 0
IsLastCurrent network tree H u (Limits quote) = IsCurrent network tree H u quote
IsLastCurrent network tree H u (Bounds quote) = IsSpreadCurrent network tree H u quote

-- so they do where it was made at the present revision; it was made for this user, and at no later one
pub record IsKeptQuote (network : List Variable) (tree : GivenTree) (H : List Entry) (u : ℕ) (quote : LastQuote) : Type 0 where
  pub same_user : user_in quote ≡ u
  pub not_later : revision_in quote ≤ revision H
  pub current : revision_in quote ≡ revision H → IsLastCurrent network tree H u quote

-- so is each last quote
abbrev pub AreKeptQuotes : List Variable → GivenTree → List Entry → List (Option LastQuote) → Type 0
AreKeptQuotes network tree H quotes = (u : ℕ) (quote : LastQuote) → slice_get quotes u ≡ Some (Some quote) → IsKeptQuote network tree H u quote

-- the assets of one user are those of a holding, and may not have learnt the last pairs that are known there
abbrev pub HoldsAt : {A Plan : Type 0} → (A → Meaning → Type 0) → List (Member A Plan) → ℕ → Holding → Type 0
HoldsAt {A} {Plan} gains_stand members u h = (assets : Assets A Plan) → slice_get (assets_of members) u ≡ Some assets → Holds gains_stand assets h

-- each user's assets are those that a history leaves
abbrev pub AreHeld : {A Plan : Type 0} → (A → Meaning → Type 0) → List Variable → GivenTree → List Entry → List (Member A Plan) → Type 0
AreHeld gains_stand network tree H members = (u : ℕ) → HoldsAt gains_stand members u (holding_of network tree H u)

-- a journal takes as many trades, users and transfers as another
pub record TakesAsMuch (journal new_journal : JournalOf) : Type 0 where
  pub trades : new_journal.max_trades ≡ journal.max_trades
  pub users : new_journal.max_users ≡ journal.max_users
  pub transfers : new_journal.max_transfers ≡ journal.max_transfers
