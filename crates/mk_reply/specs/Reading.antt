-- Reading a reply: the word by which its form is known, and then the parts of that form.
use Rattle.std.specs.Prelude.{ℕ, ◌^◌, List, [], ◌∷◌, codes, ◌==◌, Option, option_map}
use Rattle.std.specs.Prelude.{◌&&◌, nat_le, nat_lt, option_and_then}
use Rattle.arrayvec.specs.ArrayVec.{ArrayVec}
use Rattle.mk_text.specs.Reading.{Read, both, behind, made, passed, given, never, items, choose, nothing, read_name, read_number, read_short, read_units, read_pair, read_price, read_range, read_limits, read_several, read_intervals}
use Rattle.mk_text.specs.Reading.{either, read_two_prices, read_ends}
use Rattle.mk_net.specs.Bounds.{max_variables, max_users, max_payments}
use Rattle.mk_reply.specs.declared.refusal.Refusal.{Refusal}
use Rattle.mk_reply.specs.declared.refusal.Refusal.TheVariants.{Syntax, Long, Settled, User, Exists, Users, Unknown, Twice, Stale, Resolved, Impossible, Wide, Range, Full, Beyond, Short, Unresolved, NoVariable, Numbers, Sum, Outside, Sure, Memory}
use Rattle.mk_reply.specs.declared.refusal.Refusal.TheVariants.{Variables, Taken, ValueTwice}
use Rattle.mk_reply.specs.declared.refusal.Refusal.TheVariants.{RowCount, RowWidth, Cells, Link}
use Rattle.mk_reply.specs.declared.refusal.Refusal.TheVariants.{Uncovered, NotRunning, Unsettled}
use Rattle.mk_reply.specs.declared.payments.Payment.{Payment}
use Rattle.mk_reply.specs.declared.reply.Reply.{Reply}
use Rattle.mk_reply.specs.declared.reply.Reply.TheVariants.{Joined, Deposited, Withdrawn, Price, Limits as Limited, Traded, Bounded, Spreaded, Worst, Resolved as ResolvedPair, Settled as Listed, SettledAll, Bound, Refused}
use Rattle.mk_reply.specs.declared.reply.Reply.TheVariants.{Paid, Prices, Position, Status, Added}

unfoldable pub read_long : Read ℕ
read_long = read_number (2 ^ 63)

-- a number that a field of 32 bits holds
unfoldable pub read_narrow : Read ℕ
read_narrow = read_number (2 ^ 32)

-- intervals as a reply holds them
abbrev pub boxed : Option (List (ℕ × ℕ)) → Option (ArrayVec (ℕ × ℕ))
boxed intervals = option_map (λ given. record { items = given }) intervals

-- the number of users that a market may hold at most
unfoldable pub read_users_limit : Read ℕ
read_users_limit = passed (λ n. nat_le 1 n && nat_le n max_users) read_narrow

-- the number of variables that a market holds at most
unfoldable pub read_held : Read ℕ
read_held = passed (λ n. n == max_variables) read_narrow

unfoldable pub read_stale : Read Refusal
read_stale = made (λ parts. Stale (parts.0) (parts.1)) (both read_narrow (behind (codes " ") read_long))

-- a row of an added question, and how many numbers it gives
unfoldable pub read_width : Read Refusal
read_width =
    made (λ parts. RowWidth (parts.0) (parts.1)) (both read_short (behind (codes " ") read_short))

-- refusals without parts, with a name, with a pair, with numbers, and of a whole distribution, and
-- those of an added question with a name and with numbers
abbrev pub plain_forms : List (List ℕ × Read Refusal)
plain_forms =
    (codes "syntax", given Syntax)
    ∷ (codes "long", given Long)
    ∷ (codes "settled", given Settled)
    ∷ (codes "unsettled", given Unsettled)
    ∷ (codes "wide", given Wide)
    ∷ (codes "memory", given Memory)
    ∷ []

abbrev pub named_forms : List (List ℕ × Read Refusal)
named_forms =
    (codes "user ", made (λ user. User user) read_name)
    ∷ (codes "exists ", made (λ user. Exists user) read_name)
    ∷ (codes "twice ", made (λ variable. Twice variable) read_name)
    ∷ (codes "resolved ", made (λ variable. Resolved variable) read_name)
    ∷ (codes "open ", made (λ variable. Unresolved variable) read_name)
    ∷ (codes "variable ", made (λ variable. NoVariable variable) read_name)
    ∷ []

abbrev pub paired_forms : List (List ℕ × Read Refusal)
paired_forms =
    (codes "name ", made (λ pair. Unknown pair) read_pair)
    ∷ (codes "impossible ", made (λ pair. Impossible pair) read_pair)
    ∷ (codes "sure ", made (λ pair. Sure pair) read_pair)
    ∷ []

abbrev pub numbered_forms : List (List ℕ × Read Refusal)
numbered_forms =
    (codes "users ", made (λ held. Users held) read_users_limit)
    ∷ (codes "stale ", read_stale)
    ∷ (codes "range ", made (λ number. Range number) read_narrow)
    ∷ (codes "full ", made (λ held. Full held) read_narrow)
    ∷ (codes "beyond ", made (λ limits. Beyond limits) read_limits)
    ∷ (codes "short ", made (λ bits. Short bits) read_long)
    ∷ []

abbrev pub spread_out_forms : List (List ℕ × Read Refusal)
spread_out_forms =
    (codes "numbers ", made (λ given. Numbers given) read_short)
    ∷ (codes "sum ", made (λ sum. Sum sum) read_short)
    ∷ (codes "outside ", made (λ intervals. Outside (boxed intervals)) read_intervals)
    ∷ []

abbrev pub not_added_forms : List (List ℕ × Read Refusal)
not_added_forms =
    (codes "taken ", made (λ variable. Taken variable) read_name)
    ∷ (codes "value ", made (λ value. ValueTwice value) read_name)
    ∷ (codes "cover ", made (λ variable. Uncovered variable) read_name)
    ∷ (codes "running ", made (λ variable. NotRunning variable) read_name)
    ∷ []

abbrev pub miscounted_forms : List (List ℕ × Read Refusal)
miscounted_forms =
    (codes "variables ", made (λ held. Variables held) read_held)
    ∷ (codes "rows ", made (λ given. RowCount given) read_short)
    ∷ (codes "width ", read_width)
    ∷ (codes "cells ", made (λ total. Cells total) read_short)
    ∷ (codes "link ", made (λ number. Link number) read_short)
    ∷ []

unfoldable pub read_miscounted : Read Refusal
read_miscounted = choose miscounted_forms nothing

unfoldable pub read_not_added : Read Refusal
read_not_added = choose not_added_forms read_miscounted

unfoldable pub read_spread_out : Read Refusal
read_spread_out = choose spread_out_forms read_not_added

unfoldable pub read_numbered : Read Refusal
read_numbered = choose numbered_forms read_spread_out

unfoldable pub read_paired : Read Refusal
read_paired = choose paired_forms read_numbered

unfoldable pub read_named : Read Refusal
read_named = choose named_forms read_paired

unfoldable pub read_refusal : Read Refusal
read_refusal = choose plain_forms read_named

-- a thing and the revision behind it
abbrev pub dated : {X : Type 0} → Read X → Read (X × ℕ)
dated read = both read (behind (codes " at ") read_long)

unfoldable pub read_joined : Read Reply
read_joined = made (λ parts. Joined (parts.0) (parts.1)) (dated read_name)

unfoldable pub read_added : Read Reply
read_added = made (λ parts. Added (parts.0) (parts.1)) (dated read_name)

-- a user, a number of bits and the revision
unfoldable pub read_moved : Read (List ℕ × (ℕ × ℕ))
read_moved = both read_name (behind (codes " ") (dated read_narrow))

unfoldable pub read_prices : Read Reply
read_prices = made (λ prices. Price (prices.0) (prices.1)) (both read_price (behind (codes "..") read_price))

unfoldable pub read_limited : Read Reply
read_limited = made (λ parts. Limited (parts.0) (parts.1)) (dated read_limits)

unfoldable pub read_traded : Read Reply
read_traded = made (λ parts. Traded (parts.0) (parts.1.0) (parts.1.1)) (both read_units (behind (codes " ") (dated read_units)))

unfoldable pub read_bounded : Read Reply
read_bounded = made (λ parts. Bounded (boxed (parts.0)) (parts.1)) (dated read_intervals)

unfoldable pub read_spreaded : Read Reply
read_spreaded = made (λ parts. Spreaded (record { items = parts.0 }) (parts.1)) (dated (read_several read_units))

unfoldable pub read_worst : Read Reply
read_worst = made (λ range. Worst (range.0) (range.1)) (read_range (2 ^ 63))

unfoldable pub read_bound : Read Reply
read_bound = made (λ range. Bound (range.0) (range.1)) (read_range (2 ^ 63))

unfoldable pub read_resolved : Read Reply
read_resolved = made (λ parts. ResolvedPair (parts.0) (parts.1)) (dated read_pair)

-- a payment, whose user is paid the low end
unfoldable pub read_payment : Read Payment
read_payment = passed (λ p. p.paid == p.low)
    (made (λ parts. record { user = parts.0; low = parts.1.0.0; high = parts.1.0.1; paid = parts.1.1 })
    (both read_name (behind (codes " ") (both (read_range (2 ^ 63)) (behind (codes " paid ") read_long)))))

unfoldable pub read_payments : Read (List Payment)
read_payments = items never (codes ", ") read_payment max_payments []

unfoldable pub read_paid : Read Reply
read_paid = made (λ payment. Paid payment) read_payment

-- so many users that a settlement does not list what each is paid
unfoldable pub read_many_users : Read ℕ
read_many_users = passed (λ n. nat_lt max_payments n && nat_le n max_users) read_narrow

-- what stands behind the revision of a settlement: how many users are paid, and how much together,
-- or what each is paid
unfoldable pub read_settled_all : ℕ → Read Reply
read_settled_all at = made (λ parts. SettledAll at (parts.0) (parts.1))
    (both read_many_users (behind (codes " paid ") read_long))

abbrev pub read_listed : ℕ → Read Reply
read_listed at = made (λ payments. Listed at payments) read_payments

unfoldable pub read_settled : Read Reply
read_settled bytes =
    option_and_then
    (λ at. either (codes " users ") (read_settled_all (at.0)) (read_listed (at.0)) (at.1))
    (behind (codes " at ") read_long bytes)

unfoldable pub read_all_prices : Read Reply
read_all_prices = made (λ xs. Prices (record { items = xs })) (read_several read_two_prices)

unfoldable pub read_position : Read Reply
read_position = made (λ xs. Position (record { items = xs })) (read_several read_ends)

-- a number, and how many there may be
unfoldable pub read_of : Read (ℕ × ℕ)
read_of = both read_narrow (behind (codes " of ") read_narrow)

abbrev pub StatusParts : Type 0
StatusParts = ℕ × (ℕ × ((ℕ × ℕ) × ((ℕ × ℕ) × (ℕ × ℕ))))

abbrev pub status_of : StatusParts → Reply
status_of (at, (users, (trades, (transfers, unresolved)))) =
    Status at users trades.0 trades.1 transfers.0 transfers.1 unresolved.0 unresolved.1

-- what stands behind the trades of a status
unfoldable pub read_transfers : Read ((ℕ × ℕ) × (ℕ × ℕ))
read_transfers =
    behind (codes " transfers ") (both read_of (behind (codes " open ") read_of))

unfoldable pub read_status : Read Reply
read_status = made status_of (both read_long (behind (codes " users ")
    (both read_narrow (behind (codes " trades ") (both read_of read_transfers)))))

-- the forms of replies that are looked for first, and the others
abbrev pub other_forms : List (List ℕ × Read Reply)
other_forms =
    (codes "user ", read_joined)
    ∷ (codes "deposit ", made (λ parts. Deposited (parts.0) (parts.1.0) (parts.1.1)) read_moved)
    ∷ (codes "withdraw ", made (λ parts. Withdrawn (parts.0) (parts.1.0) (parts.1.1)) read_moved)
    ∷ (codes "price ", read_prices)
    ∷ (codes "limits ", read_limited)
    ∷ (codes "trade ", read_traded)
    ∷ (codes "bounds ", read_bounded)
    ∷ (codes "spread ", read_spreaded)
    ∷ (codes "worst ", read_worst)
    ∷ (codes "resolve ", read_resolved)
    ∷ (codes "refused ", made (λ why. Refused why) read_refusal)
    ∷ []

abbrev pub later_forms : List (List ℕ × Read Reply)
later_forms =
    (codes "bound ", read_bound)
    ∷ (codes "paid ", read_paid)
    ∷ (codes "prices ", read_all_prices)
    ∷ (codes "position ", read_position)
    ∷ (codes "status at ", read_status)
    ∷ (codes "add ", read_added)
    ∷ []

unfoldable pub read_later : Read Reply
read_later = choose later_forms nothing

unfoldable pub read_other : Read Reply
read_other = choose other_forms read_later

-- a settlement, which alone takes memory, or another reply
unfoldable pub read_form : Read Reply
read_form = choose ((codes "settle", read_settled) ∷ []) read_other
