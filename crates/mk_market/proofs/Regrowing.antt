-- A market is kept with one question more.
use Rattle.std.specs.Prelude.{◌≡◌, ℕ, ◌+◌, List, [], ◌∷◌, ◌++◌, length, false, Option}
use Rattle.std.specs.Prelude.{Some, None, map, option_map, slice_get}
use Rattle.std.proofs.Common.{refl, sym, ap, ap₂, ◌∙◌, subst, inl, inr}
use Rattle.std.proofs.lemmas.List.{length_push, length-map}
use Rattle.mk_net.specs.Network.{Variable}
use Rattle.mk_exact.specs.History.{Entry, Addition, Add as Adds, users}
use Rattle.mk_exact.specs.History.{join_in, is_settled, revision}
use Rattle.mk_exact.specs.Market.{Market, with_entry}
use Rattle.mk_tree.specs.Given.{GivenTree}
use Rattle.mk_file.specs.declared.market_file.MarketFile.{MarketFile}
use Rattle.mk_file.specs.MarketOf.{market_of}
use Rattle.mk_engine.specs.Meaning.{Meaning}
use Rattle.mk_beliefs.specs.Meanings.{weights_of, rows_of}
use Rattle.mk_beliefs.proofs.Grown.{weights_grow}
use Rattle.mk_beliefs.proofs.Initials.{rows_grow}
use Rattle.mk_assets.specs.declared.assets.Assets.{Assets}
use Rattle.mk_assets.specs.Holdings.{Holds}
use Rattle.mk_cash.specs.declared.ledger.Account.{Account}
use Rattle.mk_cash.specs.Accounts.{account_of, LedgerOf}
use Rattle.mk_addition.specs.Adds.{IsAddText}
use Rattle.mk_addition.specs.declared.add.AddText.{AddText}
use Rattle.mk_command.specs.declared.command.Command.TheVariants.{Add}
use Rattle.mk_reply.specs.declared.payments.Payment.{Payment}
use Rattle.mk_reply.specs.declared.refusal.Refusal.TheVariants.{Memory}
use Rattle.mk_reply.specs.declared.reply.Reply.{Reply}
use Rattle.mk_reply.specs.declared.reply.Reply.TheVariants.{Added, Refused}
use Rattle.mk_rules.specs.Additions.{addition_of as addition_in}
use Rattle.mk_rules.specs.Refusals.{first_refusal}
use Rattle.mk_restore.specs.Laws.{IsSafe}
use Rattle.mk_restore.specs.Restoring.{IsFit}
use Rattle.mk_restore.proofs.Safe.{fit_keeps_safe}
use Rattle.mk_answers.specs.Open.{holding_of}
use Rattle.mk_record.specs.declared.last_quote.LastQuote.{LastQuote}
use Rattle.mk_record.specs.declared.users.Member.{Member}
use Rattle.mk_history.specs.Entries.{addition_of}
use Rattle.mk_record.specs.Journals.{JournalOf}
use Rattle.mk_record.specs.Members.{names_of, assets_of, quotes_of}
use Rattle.mk_record.proofs.Appends.{not_found}
use Rattle.mk_parts.specs.declared.adding.Regrown.{Regrown}
use Rattle.mk_market.specs.Points.{AreAccounts}
use Rattle.mk_market.specs.Trading.{Trading, IsAnswered}
use Rattle.mk_parts.specs.Adding.{AreRegrown}
use Rattle.mk_market.specs.inner.Adding.{HasGrown}
use Rattle.mk_market.specs.inner.Restored.{IsTakenBack}
use Rattle.mk_asking.specs.Keeping.{IsKeptQuote, TakesAsMuch}
use Rattle.mk_market.specs.inner.Keeping.{quoted, standing_of, IsKept}
use Rattle.mk_market.proofs.Accounted.{accounts_kept}
use Rattle.mk_market.proofs.Apart.{EachOwns, each_owns_then}
use Rattle.mk_market.proofs.Growing.{SafeIn, quote_later}
use Rattle.mk_asking.proofs.Owned.{holding_same}
use Rattle.mk_market.proofs.Replies.{answer_allowed, refused_stays, unsettled}
use Rattle.mk_market.proofs.TakenBack.{taken_back}
use Rattle.mk_replay.specs.Tills.{TillOf}
use Rattle.mk_replay.specs.Tills.{room_for}

-- there are as many users as names
pub as_many_users : {A Plan : Type 0} (members : List (Member A Plan)) (H : List Entry)
    → names_of members ≡ users H → length members ≡ length (users H)
as_many_users {A} {Plan} members H named =
    sym (length-map members (λ (m : Member A Plan). m.name))
    ∙ ap (λ (all : List (List ℕ)). length all) named

module _ (file : MarketFile) (H : List Entry) (add : AddText) (safe : IsSafe (market_of file) H)
    (text : IsAddText add) (none : first_refusal (market_of file) H (Add add) ≡ None) where
  added : Addition
  added = addition_in file.net add

  fit : IsFit (market_of file) H (Add add) (Added add.variable (revision H + 1))
  fit = record { unrefused = none; agrees = (text, refl) }

  -- the market with the question is safe
  pub longer_is_safe : IsSafe (with_entry (Adds (addition_in file.net add)) (market_of file))
      (H ++ Adds (addition_in file.net add) ∷ [])
  longer_is_safe =
      fit_keeps_safe (market_of file) H (Add add) (Added add.variable (revision H + 1)) tt tt safe
      fit

-- accounts look at a market's points alone
same_accounts : (market : Market) (a : Addition) (H : List Entry) (accounts : List Account)
    → AreAccounts market H accounts → AreAccounts (with_entry (Adds a) market) H accounts
same_accounts market a H accounts are = record {
  one_each = are.one_each;
  each = λ u within.
      let account = are.each u within in
      record { paid_in = account.paid_in; taken_out = account.taken_out; paid_to = account.paid_to };
}

AccountsIn : List Entry → List Account → Market → Type 0
AccountsIn H accounts market = AreAccounts market H accounts

module _ {P A E Plan : Type 0} (weights_stand : P → Meaning → Type 0)
    (gains_stand : A → Meaning → Type 0) (plan_for : Plan → List Variable → GivenTree → Type 0)
    (file : MarketFile) (prices : P) (rows : A) (plan : Plan)
    (members : List (Member A Plan)) (ledger : LedgerOf) (journal : JournalOf)
    (payments : Option (List Payment)) (till : Option TillOf)
    (kept : IsKept weights_stand gains_stand plan_for file prices rows plan members ledger journal
    payments till)
    (add : AddText) (text : IsAddText add)
    (none : first_refusal (market_of file) journal.history (Add add) ≡ None)
    (parts : Regrown P A E Plan)
    (are : AreRegrown weights_stand gains_stand plan_for file journal.history
    (addition_in file.net add) parts)
    (new_members : List (Member A Plan)) (names : names_of new_members ≡ names_of members)
    (assets : assets_of new_members ≡ parts.assets.items)
    (quotes : quotes_of new_members ≡ quotes_of members)
    (new_journal : JournalOf)
    (history : new_journal.history
    ≡ journal.history ++ Adds (addition_of parts.question.value) ∷ []) where
  abbrev a : Addition
  a = addition_in file.net add

  abbrev H : List Entry
  H = journal.history

  grown : new_journal.history ≡ H ++ Adds a ∷ []
  grown = history ∙ ap (λ (b : Addition). H ++ Adds b ∷ []) are.question

  still_open : is_settled H ≡ false
  still_open = unsettled (market_of file) H (Add add) (sym none)

  new_accounts : AreAccounts (market_of parts.file) (H ++ Adds a ∷ []) ledger.accounts
  unfolding AccountsIn
  new_accounts =
      subst (AccountsIn (H ++ Adds a ∷ []) ledger.accounts) (sym are.longer.market)
      (same_accounts (market_of file) a (H ++ Adds a ∷ []) ledger.accounts
      (accounts_kept (market_of file) H still_open (Adds a) ledger.accounts refl refl (λ u. (refl, refl))
      kept.accounts_kept))

  new_safe : IsSafe (market_of parts.file) (H ++ Adds a ∷ [])
  new_safe =
      subst (SafeIn (H ++ Adds a ∷ [])) (sym are.longer.market)
      (longer_is_safe file H add kept.safe text none)

  pub kept_regrown : TakesAsMuch journal new_journal
      → IsKept weights_stand gains_stand plan_for parts.file parts.prices parts.rows parts.plan
      new_members ledger new_journal payments till
  kept_regrown limits =
      let net = parts.file.net in let tree = parts.file.tree in
      let back : H ++ Adds a ∷ [] ≡ new_journal.history = sym grown in
      record {
        beside = record {
          legal = are.longer.legal;
          tree = are.longer.tree;
          planned = are.planned;
          accounts_kept =
              subst (λ (K : List Entry). AreAccounts (market_of parts.file) K ledger.accounts) back
              new_accounts;
          ledger_room = kept.ledger_room ∙ sym (ap (λ (m : Market). m.max_users) are.longer.market);
          safe = subst (IsSafe (market_of parts.file)) back new_safe;
          max_trades = limits.trades ∙ kept.max_trades
              ∙ sym (ap (λ (m : Market). m.max_trades) are.longer.market);
          max_users = limits.users ∙ kept.max_users
              ∙ sym (ap (λ (m : Market). m.max_users) are.longer.market);
          max_transfers = limits.transfers ∙ kept.max_transfers
              ∙ sym (ap (λ (m : Market). m.max_transfers) are.longer.market);
          room = λ open_still. kept.room still_open;
          till_room = λ open_still. kept.till_room still_open
              ∙ ap (λ (m : Market). Some (room_for m.max_users)) (sym are.longer.market);
        };
        prices_stand =
            subst (λ (K : List Entry). weights_stand parts.prices (weights_of net tree K)) back
            (subst (weights_stand parts.prices) (sym (weights_grow net tree H (Adds a)))
            are.prices_stand);
        rows_stand = subst (λ (K : List Entry). gains_stand parts.rows (rows_of net tree K)) back
            (subst (gains_stand parts.rows) (sym (rows_grow net tree H (Adds a))) are.rows_stand);
        named = names ∙ kept.named ∙ sym (not_found H (Adds a) join_in refl) ∙ ap users back;
        held = λ u own at.
            subst (λ (K : List Entry). Holds gains_stand own (holding_of net tree K u)) back
            (subst (Holds gains_stand own) (sym (holding_same net tree H (Adds a) u refl refl refl))
            (are.held u own
            (subst (λ (all : List (Assets A Plan)). slice_get all u ≡ Some own) assets at)));
        quotes_kept = λ u quote at.
            subst (λ (K : List Entry). IsKeptQuote net tree K u quote) back
            (quote_later file.net net file.tree tree H (Adds a) u quote
            (kept.quotes_kept u quote
            (subst (λ (qs : List (Option LastQuote)). slice_get qs u ≡ Some (Some quote)) quotes
            at)));
      }

  -- as its callers see it
  pub has_grown : (old new : Trading (Assets A Plan))
      → old ≡ record {
        market = market_of file;
        standing = standing_of journal members;
        accounts = ledger.accounts;
        assets = assets_of members;
      }
      → new ≡ record {
        market = market_of parts.file;
        standing = standing_of new_journal new_members;
        accounts = ledger.accounts;
        assets = assets_of new_members;
      } → HasGrown old new add
  has_grown old new before later =
      rw (before, later) (record {
        market = are.longer.market;
        next = ap₂ (λ (K : List Entry) (qs : List (Option LastQuote)). record
            { history = K; quotes = map (option_map quoted) qs }) grown quotes;
        accounts = refl;
        one_each = each_owns_then new_members H new_journal.history (Adds a)
            (names ∙ kept.named) grown refl;
      })

-- where memory is wanting nothing changes
pub no_memory_answered : {Own : Type 0} → (now : Trading Own) → EachOwns now → (add : AddText)
    → None ≡ first_refusal now.market now.standing.history (Add add)
    → IsAnswered now now (Add add) (Refused Memory)
no_memory_answered now owns add none = record {
  market = refl;
  allowed = λ sound.
      answer_allowed now.market now.standing (Add add) (Refused Memory) none (inr refl);
  next = refused_stays now.market now.standing (Add add) Memory tt;
  paid = λ u. refl;
  one_each = owns;
  others = tt;
}

-- a market that has grown answers with the next revision
pub grown_answered : {Own : Type 0} → (old new : Trading Own) (add : AddText) → IsAddText add
    → None ≡ first_refusal old.market old.standing.history (Add add) → HasGrown old new add
    → (at : ℕ) → at ≡ revision new.standing.history
    → IsAnswered old new (Add add) (Added add.variable at)
grown_answered old new add text none has at now =
    let H = old.standing.history in
    let later : at ≡ revision H + 1 = now ∙ ap (λ (s : _). length s.history) has.next
    ∙ length_push H (Adds (addition_in old.market.network add)) in
    record {
      market = has.market;
      allowed = λ sound.
          answer_allowed old.market old.standing (Add add) (Added add.variable at) none
          (inl (text, ap (λ (n : ℕ). Added add.variable n) later));
      next = has.next;
      paid = λ u. ap (λ (all : List Account). (account_of all u).paid) has.accounts;
      one_each = has.one_each;
      others = tt;
    }

-- so does one to which a question is added again
pub grown_taken_back : {Own : Type 0} → (old new : Trading Own) (add : AddText) (reply : Reply)
    → IsAddText add
    → None ≡ first_refusal old.market old.standing.history (Add add) → HasGrown old new add
    → reply ≡ Added add.variable (revision old.standing.history + 1)
    → IsTakenBack old new (Add add) reply
grown_taken_back old new add reply text none has told =
    taken_back old new (Add add) reply (Added add.variable (revision old.standing.history + 1)) told
    has.market none (text, refl) has.next
    (λ u. ap (λ (all : List Account). (account_of all u).paid) has.accounts)
