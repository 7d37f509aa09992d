-- A user's last quote is set.
use Rattle.std.specs.Prelude.{◌≡◌, ℕ, ◌<◌, List, [], ◌++◌, ◌⊎◌, map, length, Option, Some, option_map, slice_get, slice_set}
use Rattle.std.proofs.Common.{sym, ap, ap₂, ◌∙◌, subst, inl, inr, append-nil}
use Rattle.std.proofs.lemmas.List.{map-set}
use Rattle.mk_net.specs.Network.{Variable}
use Rattle.mk_exact.specs.History.{Entry, users, revision}
use Rattle.mk_tree.specs.Given.{GivenTree}
use Rattle.mk_file.specs.declared.market_file.MarketFile.{MarketFile}
use Rattle.mk_file.specs.MarketOf.{market_of}
use Rattle.mk_engine.specs.Meaning.{Meaning}
use Rattle.mk_beliefs.specs.Meanings.{weights_of}
use Rattle.mk_assets.specs.declared.assets.Assets.{Assets}
use Rattle.mk_assets.specs.Holdings.{Holding, Owns}
use Rattle.mk_cash.specs.Accounts.{LedgerOf}
use Rattle.mk_command.specs.declared.command.Command.{Command}
use Rattle.mk_reply.specs.declared.payments.Payment.{Payment}
use Rattle.mk_reply.specs.declared.reply.Reply.{Reply}
use Rattle.mk_rules.specs.Answers as rules
use Rattle.mk_rules.specs.Refusals.{user_number}
use Rattle.mk_rules.specs.Quotes.{Quoted, Quote, Quotes}
use Rattle.mk_record.specs.declared.last_quote.LastQuote.{LastQuote}
use Rattle.mk_record.specs.declared.users.Member.{Member}
use Rattle.mk_record.specs.Journals.{JournalOf}
use Rattle.mk_record.specs.Members.{names_of, assets_of, quotes_of, with_assets, with_quote}
use Rattle.mk_market.specs.Trading.{Trading, LeavesOthers, IsAnswered}
use Rattle.mk_asking.specs.Keeping.{AreHeld, IsKeptQuote, AreKeptQuotes}
use Rattle.mk_market.specs.inner.Keeping.{quoted, standing_of, IsKept}
use Rattle.mk_market.proofs.Apart.{AreApart, each_owns}
use Rattle.mk_market.proofs.Growing.{kept_by, kept_still}
use Rattle.mk_asking.specs.Apart.{OwnApart}
use Rattle.mk_asking.proofs.Apart.{apart_quoted}
use Rattle.mk_asking.proofs.Lent.{in_range, read_set}
use Rattle.mk_asking.proofs.Learnt.{holds_still}
use Rattle.mk_asking.proofs.Owned.{names_same, quotes_same, all_still}
use Rattle.mk_asking.proofs.Quotes.{AreQuoted, quote_was_set}
use Rattle.mk_replay.specs.Tills.{TillOf}

-- a market as its callers see it
abbrev pub trading : {A Plan : Type 0} → MarketFile → LedgerOf → JournalOf
    → List (Member A Plan) → Trading (Assets A Plan)
trading file ledger journal members = record {
  market = market_of file;
  standing = standing_of journal members;
  accounts = ledger.accounts;
  assets = assets_of members;
}

some_is : {X : Type 0} (x y : X) → Some x ≡ Some y → x ≡ y
some_is x y e = cc

-- what holds of each last quote holds once one more was set of which it holds
each_set : (P : ℕ → LastQuote → Type 0) (user : ℕ) (quote : LastQuote) (qs : List (Option LastQuote)) → P user quote
    → ((u : ℕ) (held : LastQuote) → slice_get qs u ≡ Some (Some held) → P u held)
    → (u : ℕ) (held : LastQuote) → slice_get (slice_set qs user (Some quote)) u ≡ Some (Some held) → P u held
each_set P user quote qs new old u held at = by (read_set qs user u (Some quote) (Some held) at)
  where
    by : ((u ≡ user) × (Some held ≡ Some quote))
        ⊎ ((u ≡ user → ⊥) × (slice_get qs u ≡ Some (Some held))) → P u held
    by (inl p) = subst (λ (n : ℕ). P n held) (sym (p.0)) (subst (P user) (sym (some_is held quote (p.1))) new)
    by (inr p) = old u held (p.1)

-- in the standing the user was quoted what the quote says
pub quote_said : {A Plan : Type 0} (H : List Entry) (members new_members : List (Member A Plan)) (name : List ℕ) (user : ℕ) (quote : LastQuote) (said : Quoted)
    → user ≡ user_number H name → quoted quote ≡ record { says = said; at = revision H } → quotes_of new_members ≡ slice_set (quotes_of members) user (Some quote)
    → map (option_map quoted) (quotes_of new_members) ≡ rules.with_quote H (map (option_map quoted) (quotes_of members)) name (Some said)
quote_said H members new_members name user quote said numbered says set =
    ap (map (option_map quoted)) set
    ∙ map-set (option_map quoted) (quotes_of members) user (Some quote)
    ∙ ap₂ (λ (n : ℕ) (q : Quote). slice_set (map (option_map quoted) (quotes_of members)) n (Some q)) numbered says

-- and the history is the same
pub standing_quoted : {A Plan : Type 0} (journal : JournalOf) (new_members : List (Member A Plan)) (quotes : Quotes) → map (option_map quoted) (quotes_of new_members) ≡ quotes
    → standing_of journal new_members ≡ record { history = journal.history ++ []; quotes = quotes }
standing_quoted journal new_members quotes said =
    ap₂ (λ (H : List Entry) (qs : Quotes). record { history = H; quotes = qs }) (sym (append-nil journal.history)) said

module _ {P A Plan : Type 0} (weights_stand : P → Meaning → Type 0) (gains_stand : A → Meaning → Type 0) (plan_for : Plan → List Variable → GivenTree → Type 0)
    (file : MarketFile) (prices new_prices : P) (rows : A) (plan : Plan) (members new_members : List (Member A Plan)) (ledger : LedgerOf) (journal : JournalOf)
    (payments : Option (List Payment)) (till : Option TillOf) (kept : IsKept weights_stand gains_stand plan_for file prices rows plan members ledger journal payments till)
    (user : ℕ) (quote : LastQuote) (is : IsKeptQuote file.net file.tree journal.history user quote) (are : AreQuoted gains_stand file.net file.tree journal.history members new_members user quote) where
  quotes_kept_then : AreKeptQuotes file.net file.tree journal.history (quotes_of new_members)
  quotes_kept_then =
      subst (AreKeptQuotes file.net file.tree journal.history) (sym are.quotes)
      (each_set (IsKeptQuote file.net file.tree journal.history) user quote (quotes_of members) is kept.quotes_kept)

  -- a market that was kept is kept beside a new quote
  pub kept_quoted : ((m : Meaning) → weights_stand prices m → weights_stand new_prices m)
      → IsKept weights_stand gains_stand plan_for file new_prices rows plan new_members ledger journal payments till
  kept_quoted still_prices =
      kept_by weights_stand gains_stand plan_for file prices new_prices rows rows plan members
      new_members ledger journal payments till kept
      (still_prices (weights_of file.net file.tree journal.history) kept.prices_stand)
      kept.rows_stand (are.names ∙ kept.named) are.held quotes_kept_then

-- or beside no new quote
module _ {P A Plan : Type 0} (weights_stand : P → Meaning → Type 0) (gains_stand : A → Meaning → Type 0) (plan_for : Plan → List Variable → GivenTree → Type 0)
    (file : MarketFile) (prices new_prices : P) (rows : A) (plan : Plan) (members new_members : List (Member A Plan)) (ledger : LedgerOf) (journal : JournalOf)
    (payments : Option (List Payment)) (till : Option TillOf) (kept : IsKept weights_stand gains_stand plan_for file prices rows plan members ledger journal payments till) where
  pub kept_unquoted : ((m : Meaning) → weights_stand prices m → weights_stand new_prices m) → names_of new_members ≡ names_of members → quotes_of new_members ≡ quotes_of members
      → AreHeld gains_stand file.net file.tree journal.history new_members
      → IsKept weights_stand gains_stand plan_for file new_prices rows plan new_members ledger journal payments till
  kept_unquoted still same_names same_quotes held =
      kept_by weights_stand gains_stand plan_for file prices new_prices rows rows plan members
      new_members ledger journal payments till kept
      (still (weights_of file.net file.tree journal.history) kept.prices_stand)
      kept.rows_stand (same_names ∙ kept.named) held
      (subst (AreKeptQuotes file.net file.tree journal.history) (sym same_quotes) kept.quotes_kept)

-- a user's quote was set, and nothing of another's changed
abbrev pub IsSet : {A Plan : Type 0} → (A → Meaning → Type 0) → MarketFile → JournalOf
    → List (Member A Plan) → List (Member A Plan) → ℕ → LastQuote → Type 0
IsSet gains_stand file journal members new_members user quote =
    AreQuoted gains_stand file.net file.tree journal.history members new_members user quote
    × AreApart user journal.history members new_members

-- a market that is kept says by itself of what it is kept
module _ {P A Plan : Type 0} {weights_stand : P → Meaning → Type 0}
    {gains_stand : A → Meaning → Type 0} {plan_for : Plan → List Variable → GivenTree → Type 0}
    {file : MarketFile} {prices : P} {rows : A} {plan : Plan} {members : List (Member A Plan)}
    {ledger : LedgerOf} {journal : JournalOf} {payments : Option (List Payment)}
    {till : Option TillOf}
    (kept : IsKept weights_stand gains_stand plan_for file prices rows plan members ledger journal
    payments till) where
  -- it is kept beside engines and users that were asked
  pub kept_asked : {new_prices : P} {new_members : List (Member A Plan)}
      → ((m : Meaning) → weights_stand prices m → weights_stand new_prices m)
      → names_of new_members ≡ names_of members → quotes_of new_members ≡ quotes_of members
      → AreHeld gains_stand file.net file.tree journal.history new_members
      → IsKept weights_stand gains_stand plan_for file new_prices rows plan new_members ledger
      journal payments till
  kept_asked {new_prices} {new_members} still same_names same_quotes held =
      kept_unquoted weights_stand gains_stand plan_for file prices new_prices rows plan members
      new_members ledger journal payments till kept still same_names same_quotes held

  -- so it is beside users who have learnt what is known
  pub kept_learnt : {learnt : List (Member A Plan)}
      → names_of learnt ≡ names_of members → quotes_of learnt ≡ quotes_of members
      → AreHeld gains_stand file.net file.tree journal.history learnt
      → IsKept weights_stand gains_stand plan_for file prices rows plan learnt ledger journal
      payments till
  kept_learnt {learnt} same_names same_quotes held =
      kept_asked {new_prices = prices} {new_members = learnt} (λ m stands. stands) same_names
      same_quotes held

  -- and one whose assets were asked
  pub kept_lent : {new_prices : P} {before now : Assets A Plan} (user : ℕ)
      → slice_get (assets_of members) user ≡ Some before
      → ((h : Holding) → Owns gains_stand before h → Owns gains_stand now h)
      → ((m : Meaning) → weights_stand prices m → weights_stand new_prices m)
      → IsKept weights_stand gains_stand plan_for file new_prices rows plan
      (with_assets members user now) ledger journal payments till
  kept_lent {new_prices} {before} {now} user there still stands_still =
      kept_still weights_stand gains_stand plan_for file prices new_prices rows plan members
      (with_assets members user now) ledger journal payments till kept
      (record {
        prices_still = stands_still;
        names_still = names_same members user before now there;
        quotes_still = quotes_same members user before now there;
        held_still = all_still members user before now there gains_stand
            (holds_still gains_stand before now still);
      })

  -- and beside a user's new quote
  pub quoted_kept : {new_prices : P} {new_members : List (Member A Plan)} (user : ℕ)
      (quote : LastQuote) → IsKeptQuote file.net file.tree journal.history user quote
      → AreQuoted gains_stand file.net file.tree journal.history members new_members user quote
      → ((m : Meaning) → weights_stand prices m → weights_stand new_prices m)
      → IsKept weights_stand gains_stand plan_for file new_prices rows plan new_members ledger
      journal payments till
  quoted_kept {new_prices} {new_members} user quote is are still =
      kept_quoted weights_stand gains_stand plan_for file prices new_prices rows plan members
      new_members ledger journal payments till kept user quote is are still

  -- which was set beside users that were asked
  pub quote_set : (mid new_members : List (Member A Plan)) (user : ℕ) (quote : LastQuote)
      → user < length (users journal.history)
      → names_of mid ≡ names_of members → quotes_of mid ≡ quotes_of members
      → AreHeld gains_stand file.net file.tree journal.history mid
      → OwnApart user members mid → new_members ≡ with_quote mid user quote
      → IsSet gains_stand file journal members new_members user quote
  quote_set mid new_members user quote within same_names same_quotes held apart set =
      let are = quote_was_set gains_stand file.net file.tree journal.history members mid new_members
      user quote same_names same_quotes held
      (in_range members (users journal.history) user kept.named within) set in (
        are,
        record {
          named = are.names ∙ kept.named;
          apart = apart_quoted user members mid new_members quote apart set;
        },
      )

-- an answer behind users who have learnt what is known, and were quoted the same, is one behind those before
pub answered_learnt : {A Plan : Type 0} (file : MarketFile) (ledger : LedgerOf) (journal : JournalOf) (members learnt : List (Member A Plan))
    → quotes_of learnt ≡ quotes_of members → (new : Trading (Assets A Plan)) (command : Command) (reply : Reply)
    → LeavesOthers (trading file ledger journal members) new command
    → IsAnswered (trading file ledger journal learnt) new command reply → IsAnswered (trading file ledger journal members) new command reply
answered_learnt {A} {Plan} file ledger journal members learnt same new command reply others is =
    let quoted_as : List (Option LastQuote) → Trading (Assets A Plan) = λ qs. record {
      market = market_of file;
      standing = record { history = journal.history; quotes = map (option_map quoted) qs };
      accounts = ledger.accounts;
      assets = assets_of members;
    } in
    subst (λ (qs : List (Option LastQuote)). IsAnswered (quoted_as qs) new command reply) same
    (record {
      market = is.market;
      allowed = is.allowed;
      next = is.next;
      paid = is.paid;
      one_each = is.one_each;
      others = subst (λ (qs : List (Option LastQuote)). LeavesOthers (quoted_as qs) new command)
          (sym same) others;
    })

-- so is one before users who have learnt it, where they are those of the history
pub answered_before : {A Plan : Type 0} (file : MarketFile) (ledger : LedgerOf)
    (journal : JournalOf) (members learnt : List (Member A Plan))
    → quotes_of learnt ≡ quotes_of members → names_of learnt ≡ users journal.history
    → (command : Command) (reply : Reply)
    → LeavesOthers (trading file ledger journal members)
    (trading file ledger journal learnt) command
    → IsAnswered (trading file ledger journal members)
    (trading file ledger journal members) command reply
    → IsAnswered (trading file ledger journal members)
    (trading file ledger journal learnt) command reply
answered_before file ledger journal members learnt same named command reply others is = record {
  market = is.market;
  allowed = is.allowed;
  next = ap (λ (qs : List (Option LastQuote)). record
      { history = journal.history; quotes = map (option_map quoted) qs }) same ∙ is.next;
  paid = is.paid;
  one_each = each_owns learnt (users journal.history) named;
  others = others;
}
