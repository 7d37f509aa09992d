-- Replies, and how they are written.
use Rattle.std.specs.Prelude.{◌≡◌, ◌≢◌, ℕ, ◌≤◌, ◌<◌, List, ◌++◌, length, codes, decimal, All}
use Rattle.mk_net.specs.Bounds.{max_users, max_payments}
use Rattle.mk_names.specs.Name.{IsName}
use Rattle.mk_text.specs.Joined.{◌&◌, items_text, spaced, AreSeveral}
use Rattle.mk_text.specs.Numbers.{IsLong, IsNarrow, IsPrice, price_text, range_text, AreLimits, limits_text, AreIntervals, intervals_text}
use Rattle.mk_text.specs.Numbers.{ArePrices, prices_text, AreEnds, ends_text}
use Rattle.mk_text.specs.Texts.{IsPairText, pair_text}
use Rattle.mk_reply.specs.Refusals.{refusal_text, given_in, IsRefusal}
use Rattle.mk_reply.specs.declared.payments.Payment.{Payment}
use Rattle.mk_reply.specs.declared.reply.Reply.{Reply}
use Rattle.mk_reply.specs.declared.reply.Reply.TheVariants.{Joined, Deposited, Withdrawn, Price, Limits, Traded, Bounded, Spreaded, Worst, Resolved, Settled, Bound, Refused}
use Rattle.mk_reply.specs.declared.reply.Reply.TheVariants.{Prices, Position, Status, Added}
use Rattle.mk_reply.specs.declared.reply.Reply.TheVariants.{Paid, SettledAll}
use Rattle.mk_reply.specs.declared.unread.Unread.{Unread}
use Rattle.mk_reply.specs.declared.unread.Unread.TheVariants.{Syntax, Memory}

-- the revision after the reply
abbrev pub at_text : ℕ → List ℕ
at_text at = codes " at " & decimal at

abbrev pub payment_text : Payment → List ℕ
payment_text p = p.user & codes " " & range_text p.low p.high & codes " paid " & decimal p.paid

-- a number, and how many there may be
abbrev pub of_text : ℕ × ℕ → List ℕ
of_text number = decimal number.0 & codes " of " & decimal number.1

abbrev pub reply_text : Reply → List ℕ
reply_text (Joined user at) = codes "user " & user & at_text at
reply_text (Deposited user bits at) = codes "deposit " & user & codes " " & decimal bits & at_text at
reply_text (Withdrawn user bits at) = codes "withdraw " & user & codes " " & decimal bits & at_text at
reply_text (Price low high) = codes "price " & price_text low & codes ".." & price_text high
reply_text (Limits limits at) = codes "limits " & limits_text limits & at_text at
reply_text (Traded hit miss at) = codes "trade " & decimal hit & codes " " & decimal miss & at_text at
reply_text (Bounded intervals at) = codes "bounds " & intervals_text (given_in intervals) & at_text at
reply_text (Spreaded factors at) = codes "spread " & spaced decimal factors.items & at_text at
reply_text (Worst low high) = codes "worst " & range_text low high
reply_text (Paid payment) = codes "paid " & payment_text payment
reply_text (Resolved pair at) = codes "resolve " & pair_text pair & at_text at
reply_text (Settled at payments) = codes "settle" & at_text at & items_text (codes ", ") payment_text payments
reply_text (SettledAll at users total) =
    codes "settle" & at_text at & codes " users " & decimal users & codes " paid " & decimal total
reply_text (Bound low high) = codes "bound " & range_text low high
reply_text (Prices intervals) = codes "prices " & spaced prices_text intervals.items
reply_text (Position intervals) = codes "position " & spaced ends_text intervals.items
reply_text (Status at users trades most transfers most_transfers unresolved questions) =
    codes "status" & at_text at & codes " users " & decimal users
    & codes " trades " & of_text (trades, most)
    & codes " transfers " & of_text (transfers, most_transfers)
    & codes " open " & of_text (unresolved, questions)
reply_text (Added variable at) = codes "add " & variable & at_text at
reply_text (Refused why) = codes "refused " & refusal_text why

-- a ratio of a trade
pub record IsRatio (n : ℕ) : Type 0 where
  pub positive : 1 ≤ n
  pub below : IsLong n

-- a user is paid the low end
pub record IsPayment (p : Payment) : Type 0 where
  pub user : IsName p.user
  pub low : IsLong p.low
  pub high : IsLong p.high
  pub paid : p.paid ≡ p.low

-- the payments that a settlement lists: no more than fit
pub record ArePayments (payments : List Payment) : Type 0 where
  pub few : length payments ≤ max_payments
  pub each : All IsPayment payments

-- so many users that a settlement does not list what each is paid
pub record IsManyUsers (n : ℕ) : Type 0 where
  pub many : max_payments < n
  pub most : n ≤ max_users

-- the replies that are read
abbrev pub IsReply : Reply → Type 0
IsReply (Joined user at) = IsName user × IsLong at
IsReply (Deposited user bits at) = IsName user × IsNarrow bits × IsLong at
IsReply (Withdrawn user bits at) = IsName user × IsNarrow bits × IsLong at
IsReply (Price low high) = IsPrice low × IsPrice high
IsReply (Limits limits at) = AreLimits limits × IsLong at
IsReply (Traded hit miss at) = IsRatio hit × IsRatio miss × IsLong at
IsReply (Bounded intervals at) = AreIntervals (given_in intervals) × IsLong at
IsReply (Spreaded factors at) = AreSeveral IsRatio factors.items × IsLong at
IsReply (Worst low high) = IsLong low × IsLong high
IsReply (Paid payment) = IsPayment payment
IsReply (Resolved pair at) = IsPairText pair × IsLong at
IsReply (Settled at payments) = IsLong at × ArePayments payments
IsReply (SettledAll at users total) = IsLong at × IsManyUsers users × IsLong total
IsReply (Bound low high) = IsLong low × IsLong high
IsReply (Prices intervals) = AreSeveral ArePrices intervals.items
IsReply (Position intervals) = AreSeveral AreEnds intervals.items
IsReply (Status at users trades most transfers most_transfers unresolved questions) =
    IsLong at × IsNarrow users × IsNarrow trades × IsNarrow most
    × IsNarrow transfers × IsNarrow most_transfers × IsNarrow unresolved × IsNarrow questions
IsReply (Added variable at) = IsName variable × IsLong at
IsReply (Refused why) = IsRefusal why

-- bytes that are not read: the text of no reply, or the front of a settlement, for which memory was wanting
abbrev pub IsUnread : List ℕ → Unread → Type 0
IsUnread line Syntax = (r : Reply) → IsReply r → line ≢ reply_text r
IsUnread line Memory = (rest : List ℕ) × (line ≡ codes "settle" ++ rest)

-- bytes that begin with a revision, as it stands behind a reply
pub record BeginsWithRevision (bytes : List ℕ) : Type 0 where
  pub at : ℕ
  pub rest : List ℕ
  pub is_long : IsLong at
  pub begins : bytes ≡ at_text at ++ rest

-- a line that begins as the text of a settlement does: with its word, a revision, and what follows
-- these
abbrev pub BeginsSettlement : List ℕ → Type 0
BeginsSettlement line = (rest : List ℕ) × (line ≡ codes "settle" ++ rest) × BeginsWithRevision rest

-- memory was wanting only for a line that begins as a settlement does
abbrev pub IsCausedBy : List ℕ → Unread → Type 0
IsCausedBy line Syntax = Unit {0}
IsCausedBy line Memory = BeginsSettlement line
