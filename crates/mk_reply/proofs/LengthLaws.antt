-- No reply is long.
use Rattle.std.specs.Prelude.{ℕ, ◌+◌, ◌≤◌, ◌<◌, List, [], ◌∷◌, ◌++◌, length, codes, decimal, Option, Some, None}
use Rattle.std.proofs.lemmas.List.Elements.{All-head, All-tail}
use Rattle.std.proofs.Common.{◌*◌, arith, length-append}
use Rattle.std.proofs.Math.Nat.{mul-le-mul_left}
use Rattle.mk_text.specs.Joined.{items_text, spaced, AreSeveral}
use Rattle.mk_text.specs.Numbers.{IsLong, IsNarrow, price_text, limits_text, IsInterval, interval_text, AreIntervals, intervals_text}
use Rattle.mk_text.specs.Numbers.{ArePrices, prices_text, AreEnds, ends_text}
use Rattle.mk_text.proofs.LengthLaws.{short_length}
use Rattle.mk_text.proofs.LengthLaws.{long_length, pair_length, price_length, limits_length, items_length}
use Rattle.mk_text.proofs.PartLaws.{interval_ends}
use Rattle.mk_reply.specs.Refusals.{refusal_text, given_in, IsRefusal}
use Rattle.mk_reply.specs.Replies.{reply_text, at_text, payment_text, IsRatio, IsPayment, IsReply}
use Rattle.mk_reply.specs.declared.payments.Payment.{Payment}
use Rattle.mk_reply.specs.declared.reply.Reply.{Reply}
use Rattle.mk_reply.specs.declared.reply.Reply.TheVariants.{Joined, Deposited, Withdrawn, Price, Limits, Traded, Bounded, Spreaded, Worst, Resolved, Settled, Bound, Refused}
use Rattle.mk_reply.specs.declared.reply.Reply.TheVariants.{Prices, Position, Status, Added}
use Rattle.mk_reply.specs.declared.reply.Reply.TheVariants.{Paid, SettledAll}
use Rattle.mk_reply.specs.declared.refusal.Refusal.{Refusal}
use Rattle.mk_reply.specs.declared.refusal.Refusal.TheVariants.{Syntax, Long, Settled as Over, User, Exists, Users, Unknown, Twice, Stale, Resolved as Known, Impossible, Wide, Range, Full, Beyond, Short, Unresolved, NoVariable, Numbers, Sum, Outside, Sure, Memory}
use Rattle.mk_reply.specs.declared.refusal.Refusal.TheVariants.{Variables, Taken, ValueTwice}
use Rattle.mk_reply.specs.declared.refusal.Refusal.TheVariants.{RowCount, RowWidth, Cells, Link}
use Rattle.mk_reply.specs.declared.refusal.Refusal.TheVariants.{Uncovered, NotRunning, Unsettled}

at_length : (at : ℕ) → IsLong at → length (at_text at) ≤ 23
at_length at long = simp length-append (omega (arith, long_length at long))

narrow_length : (n : ℕ) → IsNarrow n → length (decimal n) ≤ 19
narrow_length n narrow = long_length n (omega (arith, narrow))

payment_length : (p : Payment) → IsPayment p → length (codes ", ") + length (payment_text p) ≤ 100
payment_length p fits =
    let paid : IsLong p.paid = rw fits.paid fits.low in
    simp length-append (omega (arith, fits.user.short, long_length p.low fits.low, long_length p.high fits.high, long_length p.paid paid))

ratio_length : (n : ℕ) → IsRatio n → length (decimal n) ≤ 19
ratio_length n fits = long_length n fits.below

interval_length : (interval : ℕ × ℕ) → IsInterval interval → length (interval_text interval) ≤ 40
interval_length interval fits =
    let ends_below = interval_ends interval fits in
    simp length-append (omega (arith, long_length (interval.0) (omega (arith, ends_below.0)), long_length (interval.1) (omega (arith, ends_below.1))))

ratios_length : (factors : List ℕ) → AreSeveral IsRatio factors → length (spaced decimal factors) ≤ 319
ratios_length [] fits = omega arith
ratios_length (first ∷ others) fits =
    let here = ratio_length first (All-head IsRatio first others fits.each) in
    let more = items_length (codes " ") decimal IsRatio 20 (λ n is. let l = ratio_length n is in omega (arith, l)) others (All-tail IsRatio first others fits.each) in
    omega (arith, length-append (decimal first) (items_text (codes " ") decimal others), here, more, fits.few)

given_length : (intervals : List (ℕ × ℕ)) → AreSeveral IsInterval intervals → length (spaced interval_text intervals) ≤ 655
given_length [] fits = omega arith
given_length (first ∷ others) fits =
    let here = interval_length first (All-head IsInterval first others fits.each) in
    let more = items_length (codes " ") interval_text IsInterval 41 (λ i is. let l = interval_length i is in omega (arith, l)) others (All-tail IsInterval first others fits.each) in
    omega (arith, length-append (interval_text first) (items_text (codes " ") interval_text others), here, more, fits.few)

intervals_length : (intervals : Option (List (ℕ × ℕ))) → AreIntervals intervals → length (intervals_text intervals) ≤ 655
intervals_length None fits = omega arith
intervals_length (Some intervals) fits = given_length intervals fits

refusal_length : (why : Refusal) → IsRefusal why → length (refusal_text why) ≤ 700
refusal_length Syntax fits = omega arith
refusal_length Long fits = omega arith
refusal_length Over fits = omega arith
refusal_length Unsettled fits = omega arith
refusal_length (User user) fits = simp length-append (omega (arith, fits.short))
refusal_length (Exists user) fits = simp length-append (omega (arith, fits.short))
refusal_length (Users held) fits =
    simp length-append (omega (arith, narrow_length held (omega (arith, fits.most))))
refusal_length (Unknown pair) fits = simp length-append (omega (arith, pair_length pair fits))
refusal_length (Twice variable) fits = simp length-append (omega (arith, fits.short))
refusal_length (Stale named now) fits = simp length-append (omega (arith, narrow_length named fits.0, long_length now fits.1))
refusal_length (Known variable) fits = simp length-append (omega (arith, fits.short))
refusal_length (Impossible pair) fits = simp length-append (omega (arith, pair_length pair fits))
refusal_length Wide fits = omega arith
refusal_length (Range number) fits = simp length-append (omega (arith, narrow_length number fits))
refusal_length (Full held) fits = simp length-append (omega (arith, narrow_length held fits))
refusal_length (Beyond limits) fits = omega (arith, length-append (codes "beyond ") (limits_text limits), limits_length limits fits)
refusal_length (Short bits) fits = simp length-append (omega (arith, long_length bits fits))
refusal_length (Unresolved variable) fits = simp length-append (omega (arith, fits.short))
refusal_length (NoVariable variable) fits = simp length-append (omega (arith, fits.short))
refusal_length (Numbers given) fits = simp length-append (omega (arith, narrow_length given (omega (arith, fits))))
refusal_length (Sum sum) fits = simp length-append (omega (arith, narrow_length sum (omega (arith, fits))))
refusal_length (Outside intervals) fits =
    omega (arith, length-append (codes "outside ") (intervals_text (given_in intervals)), intervals_length (given_in intervals) fits)
refusal_length (Sure pair) fits = simp length-append (omega (arith, pair_length pair fits))
refusal_length (Variables held) fits =
    simp length-append (omega (arith, narrow_length held (omega (arith, fits))))
refusal_length (Taken variable) fits = simp length-append (omega (arith, fits.short))
refusal_length (ValueTwice value) fits = simp length-append (omega (arith, fits.short))
refusal_length (RowCount given) fits = simp length-append (omega (arith, short_length given fits))
refusal_length (RowWidth row given) fits =
    simp length-append (omega (arith, short_length row fits.0, short_length given fits.1))
refusal_length (Cells total) fits = simp length-append (omega (arith, short_length total fits))
refusal_length (Link number) fits = simp length-append (omega (arith, short_length number fits))
refusal_length (Uncovered variable) fits = simp length-append (omega (arith, fits.short))
refusal_length (NotRunning variable) fits = simp length-append (omega (arith, fits.short))
refusal_length Memory fits = omega arith

two_lengths : (a b : List ℕ) (m n : ℕ) → length a ≤ m → length b ≤ n → length (a ++ b) ≤ m + n
two_lengths a b m n first second = omega (arith, length-append a b, first, second)

-- the lengths of several
several_length : {X : Type 0} (text : X → List ℕ) (Fits : X → Type 0) (most : ℕ) →
    ((x : X) → Fits x → length (text x) ≤ most) →
    (xs : List X) → AreSeveral Fits xs → length (spaced text xs) ≤ most + (1 + most) * 15
several_length text Fits most each [] fits = absurd (omega (arith, fits.two))
several_length text Fits most each (first ∷ others) fits =
    let here = each first (All-head Fits first others fits.each) in
    let all = All-tail Fits first others fits.each in
    let few : length others ≤ 15 = omega (arith, fits.few) in
    let more = items_length (codes " ") text Fits (1 + most)
    (λ x is. let l = each x in omega (arith, l)) others all in
    let fifteen = mul-le-mul_left (1 + most) few in
    let whole = length-append (text first) (items_text (codes " ") text others) in
    omega (arith, whole, here, more, fifteen)

prices_length : (prices : ℕ × ℕ) → ArePrices prices → length (prices_text prices) ≤ 62
prices_length prices fits =
    let low = price_text (prices.0) in
    let high = price_text (prices.1) in
    let behind = two_lengths (codes "..") high 2 30 (omega arith) (price_length (prices.1) fits.1)
    in
    two_lengths low (codes ".." ++ high) 30 32 (price_length (prices.0) fits.0) behind

ends_length : (ends : Option (ℕ × ℕ)) → AreEnds ends → length (ends_text ends) ≤ 40
ends_length None fits = omega arith
ends_length (Some two) fits =
    simp length-append (omega (arith, long_length (two.0) fits.0, long_length (two.1) fits.1))

pub reply_length : (r : Reply) → IsReply r → length (reply_text r) < 32768
reply_length (Joined user at) fits = simp length-append (omega (arith, fits.0.short, long_length at fits.1))
reply_length (Deposited user bits at) fits = simp length-append (omega (arith, fits.0.short, narrow_length bits fits.1, long_length at fits.2))
reply_length (Withdrawn user bits at) fits = simp length-append (omega (arith, fits.0.short, narrow_length bits fits.1, long_length at fits.2))
reply_length (Price low high) fits =
    let ends = two_lengths (codes "..") (price_text high) 2 30 (omega arith) (price_length high fits.1) in
    let both = two_lengths (price_text low) (codes ".." ++ price_text high) 30 32 (price_length low fits.0) ends in
    omega (arith, length-append (codes "price ") (price_text low ++ (codes ".." ++ price_text high)), both)
reply_length (Limits limits at) fits =
    let both = two_lengths (limits_text limits) (at_text at) 40 23 (limits_length limits fits.0) (at_length at fits.1) in
    omega (arith, length-append (codes "limits ") (limits_text limits ++ at_text at), both)
reply_length (Traded hit miss at) fits =
    simp length-append (omega (arith, long_length hit fits.0.below, long_length miss fits.1.below, long_length at fits.2))
reply_length (Bounded intervals at) fits =
    let both = two_lengths (intervals_text (given_in intervals)) (at_text at) 655 23 (intervals_length (given_in intervals) fits.0) (at_length at fits.1) in
    omega (arith, length-append (codes "bounds ") (intervals_text (given_in intervals) ++ at_text at), both)
reply_length (Spreaded factors at) fits =
    let both = two_lengths (spaced decimal factors.items) (at_text at) 319 23 (ratios_length factors.items fits.0) (at_length at fits.1) in
    omega (arith, length-append (codes "spread ") (spaced decimal factors.items ++ at_text at), both)
reply_length (Worst low high) fits = simp length-append (omega (arith, long_length low fits.0, long_length high fits.1))
reply_length (Paid payment) fits =
    omega (arith, length-append (codes "paid ") (payment_text payment), payment_length payment fits)
reply_length (Bound low high) fits = simp length-append (omega (arith, long_length low fits.0, long_length high fits.1))
reply_length (Resolved pair at) fits =
    simp length-append (omega (arith, pair_length pair fits.0, long_length at fits.1))
reply_length (Settled at payments) fits =
    let list = items_length (codes ", ") payment_text IsPayment 100 payment_length payments fits.1.each in
    let both = two_lengths (at_text at) (items_text (codes ", ") payment_text payments) 23 25600 (at_length at fits.0) (omega (arith, list, fits.1.few)) in
    omega (arith, length-append (codes "settle") (at_text at ++ items_text (codes ", ") payment_text payments), both)
reply_length (SettledAll at users total) fits =
    let paid = narrow_length users (omega (arith, fits.1.most)) in
    simp length-append (omega (arith, long_length at fits.0, paid, long_length total fits.2))
reply_length (Prices intervals) fits =
    let list = several_length prices_text ArePrices 62 prices_length intervals.items fits in
    omega (arith, length-append (codes "prices ") (spaced prices_text intervals.items), list)
reply_length (Position intervals) fits =
    let list = several_length ends_text AreEnds 40 ends_length intervals.items fits in
    omega (arith, length-append (codes "position ") (spaced ends_text intervals.items), list)
reply_length (Status at users trades most transfers most_transfers unresolved questions) fits =
    let revision = long_length at fits.0 in
    let first = narrow_length users fits.1 in
    let traded = narrow_length trades fits.2 in
    let limit = narrow_length most fits.3 in
    let moved = narrow_length transfers fits.4 in
    let limit_of_moves = narrow_length most_transfers fits.5 in
    let left = narrow_length unresolved fits.6 in
    let all = narrow_length questions fits.7 in
    simp length-append (omega arith)
reply_length (Added variable at) fits =
    simp length-append (omega (arith, fits.0.short, long_length at fits.1))
reply_length (Refused why) fits = omega (arith, length-append (codes "refused ") (refusal_text why), refusal_length why fits)
