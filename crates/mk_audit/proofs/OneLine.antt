-- The text of a reply has no LF, so a line of a transcript is one reply's.
use Rattle.std.proofs.Common.{◌≡◌, ◌≢◌, ℕ, ◌+◌, ◌^◌, ◌<◌, ◌/◌, ◌%◌, Bool, true, false, not, ◌&&◌}
use Rattle.std.proofs.Common.{List, [], ◌∷◌, ◌++◌, Option, Some, None}
use Rattle.std.proofs.Common.{refl, sym, ap, subst, ◌∙◌, arith, append_assoc}
use Rattle.std.specs.Prelude.{◌==◌, codes, decimal, All}
use Rattle.std.specs.List.{AllByRecursion, list_all}
use Rattle.std.proofs.lemmas.Bool.{eq-eqb, and_parts}
use Rattle.std.proofs.lemmas.Bool.Decides.{nat_tests}
use Rattle.std.proofs.lemmas.Fmt.{decimal_is_IsNumeral}
use Rattle.std.proofs.lemmas.List.{append_cancel_left}
use Rattle.std.proofs.lemmas.List.Elements.{recursion_from_All, All-from_recursion}
use Rattle.std.proofs.lemmas.List.Folds.{list_all-append}
use Rattle.mk_io.specs.Stream.{parts as lf_parts}
use Rattle.mk_io.proofs.Answered.{parts_whole}
use Rattle.mk_names.specs.Name.{IsName, is_name_byte}
use Rattle.mk_net.specs.declared.words.PairText.{PairText}
use Rattle.mk_text.specs.Joined.{◌&◌, items_text, spaced, AreSeveral}
use Rattle.mk_text.specs.Numbers.{IsLong, IsNarrow, places, units, IsPrice, price_text}
use Rattle.mk_text.specs.Numbers.{AreLimits, limits_text, range_text, IsInterval, interval_text}
use Rattle.mk_text.specs.Numbers.{AreIntervals, intervals_text, ArePrices, prices_text}
use Rattle.mk_text.specs.Numbers.{AreEnds, ends_text}
use Rattle.mk_text.specs.Texts.{IsPairText, pair_text}
use Rattle.mk_text.proofs.NumberLemmas.{digits_in_word, ten_behind_one}
use Rattle.mk_text.proofs.PartLaws.{interval_ends}
use Rattle.mk_text.proofs.ReadingLaws.{whole_one}
use Rattle.mk_reply.specs.Refusals.{refusal_text, given_in, IsRefusal}
use Rattle.mk_reply.specs.Replies.{reply_text, at_text, payment_text, of_text, IsRatio, IsPayment}
use Rattle.mk_reply.specs.Replies.{IsReply}
use Rattle.mk_reply.specs.declared.payments.Payment.{Payment}
use Rattle.mk_reply.specs.declared.reply.Reply.{Reply}
use Rattle.mk_reply.specs.declared.reply.Reply.TheVariants.{Joined, Deposited, Withdrawn, Price}
use Rattle.mk_reply.specs.declared.reply.Reply.TheVariants.{Limits, Traded, Bounded, Spreaded}
use Rattle.mk_reply.specs.declared.reply.Reply.TheVariants.{Worst, Resolved, Settled, Bound}
use Rattle.mk_reply.specs.declared.reply.Reply.TheVariants.{Prices, Position, Status, Refused}
use Rattle.mk_reply.specs.declared.reply.Reply.TheVariants.{Added, Paid, SettledAll}
use Rattle.mk_reply.specs.declared.refusal.Refusal.{Refusal}
use Rattle.mk_reply.specs.declared.refusal.Refusal.TheVariants.{Syntax, Long, Settled as Over}
use Rattle.mk_reply.specs.declared.refusal.Refusal.TheVariants.{User, Exists, Users, Unknown}
use Rattle.mk_reply.specs.declared.refusal.Refusal.TheVariants.{Twice, Stale, Resolved as Known}
use Rattle.mk_reply.specs.declared.refusal.Refusal.TheVariants.{Impossible, Wide, Range, Full}
use Rattle.mk_reply.specs.declared.refusal.Refusal.TheVariants.{Beyond, Short, Unresolved}
use Rattle.mk_reply.specs.declared.refusal.Refusal.TheVariants.{NoVariable, Numbers, Sum, Outside}
use Rattle.mk_reply.specs.declared.refusal.Refusal.TheVariants.{Sure, Memory}
use Rattle.mk_reply.specs.declared.refusal.Refusal.TheVariants.{Variables, Taken, ValueTwice}
use Rattle.mk_reply.specs.declared.refusal.Refusal.TheVariants.{RowCount, RowWidth, Cells, Link}
use Rattle.mk_reply.specs.declared.refusal.Refusal.TheVariants.{Uncovered, NotRunning, Unsettled}
use Rattle.mk_reply.proofs.ReplyLaws.{form_tells}
use Rattle.mk_session.specs.Texts.{as_line, reply_line}
use Rattle.mk_audit.specs.Laws.{ReplyIsOneLine}

abbrev is_within : ℕ → Bool
is_within b = not (b == 10)

-- a text without LF
abbrev IsOneLine : List ℕ → Type 0
IsOneLine bytes = list_all is_within bytes ≡ true

both_true : (p q : Bool) → p ≡ true → q ≡ true → (p && q) ≡ true
both_true true true h k = refl
both_true true false h k = cc
both_true false q h k = cc

both : (front behind : List ℕ) → IsOneLine front → IsOneLine behind → IsOneLine (front ++ behind)
both front behind h k =
    list_all-append is_within front behind ∙ both_true (list_all is_within front)
    (list_all is_within behind) h k

byte_within : (b : ℕ) → is_name_byte b ≡ true → is_within b ≡ true
byte_within b h = grind (arith, nat_tests)

-- a word, as a name or a number, is in one line
word_in_line : (bytes : List ℕ) → list_all is_name_byte bytes ≡ true → IsOneLine bytes
word_in_line [] h = refl
word_in_line (b ∷ bytes) h =
    let parts = and_parts (is_name_byte b) (list_all is_name_byte bytes) h in
    both_true (is_within b) (list_all is_within bytes) (byte_within b parts.0)
    (word_in_line bytes parts.1)

name : (word : List ℕ) → IsName word → IsOneLine word
name word is = word_in_line word is.each

number : (n : ℕ) → n < 2 ^ 64 → IsOneLine (decimal n)
number n below =
    word_in_line (decimal n) (digits_in_word (decimal n) ((decimal_is_IsNumeral n below).0.1))

long : (n : ℕ) → IsLong n → IsOneLine (decimal n)
long n is = number n (omega (arith, is))

narrow : (n : ℕ) → IsNarrow n → IsOneLine (decimal n)
narrow n is = number n (omega (arith, is))

module _ {X : Type 0} (Fits : X → Type 0) (text : X → List ℕ)
    (each : (x : X) → Fits x → IsOneLine (text x)) where
  items_in_line : (separator : List ℕ) → IsOneLine separator → (xs : List X)
      → AllByRecursion Fits xs → IsOneLine (items_text separator text xs)
  items_in_line separator h [] fits = refl
  items_in_line separator h (x ∷ xs) fits =
      both (separator ++ text x) (items_text separator text xs)
      (both separator (text x) h (each x fits.0))
      (items_in_line separator h xs fits.1)

  spaced_in_line : (xs : List X) → AllByRecursion Fits xs → IsOneLine (spaced text xs)
  spaced_in_line [] fits = refl
  spaced_in_line (x ∷ xs) fits =
      both (text x) (items_text (codes " ") text xs) (each x fits.0)
      (items_in_line (codes " ") refl xs fits.1)

  several : (xs : List X) → AreSeveral Fits xs → IsOneLine (spaced text xs)
  several xs are = spaced_in_line xs (recursion_from_All Fits xs are.each)

pair : (words : PairText) → IsPairText words → IsOneLine (pair_text words)
pair words is =
    both words.variable (codes "=" & words.value) (name words.variable is.variable)
    (both (codes "=") words.value refl (name words.value is.value))

revision : (at : ℕ) → IsLong at → IsOneLine (at_text at)
revision at is = both (codes " at ") (decimal at) refl (long at is)

ten_places : (n : ℕ) → n < 10 ^ 10 → IsOneLine (places 10 n)
ten_places n below =
    let whole : IsOneLine (49 ∷ places 10 n) =
    subst IsOneLine (ten_behind_one n below) (number (10 ^ 10 + n) (omega arith)) in
    (and_parts (is_within 49) (list_all is_within (places 10 n)) whole).1

price : (n : ℕ) → IsPrice n → IsOneLine (price_text n)
price n is =
    both (decimal (n / units)) (codes "." & places 10 (n % units))
    (number (n / units) (omega arith))
    (both (codes ".") (places 10 (n % units)) refl (ten_places (n % units) (omega arith)))

range : (low high : ℕ) → IsLong low → IsLong high → IsOneLine (range_text low high)
range low high is also =
    both (decimal low) (codes ".." & decimal high) (long low is)
    (both (codes "..") (decimal high) refl (long high also))

limits : (told : Option (ℕ × ℕ)) → AreLimits told → IsOneLine (limits_text told)
limits None are = refl
limits (Some ends) are =
    range (ends.0) (ends.1) (omega (arith, are.ordered, are.below)) (omega (arith, are.below))

interval : (ends : ℕ × ℕ) → IsInterval ends → IsOneLine (interval_text ends)
interval ends is =
    let below = interval_ends ends is in
    range (ends.0) (ends.1) (omega (arith, below.0)) (omega (arith, below.1))

intervals : (told : Option (List (ℕ × ℕ))) → AreIntervals told → IsOneLine (intervals_text told)
intervals None are = refl
intervals (Some told) are = several IsInterval interval_text interval told are

prices : (two : ℕ × ℕ) → ArePrices two → IsOneLine (prices_text two)
prices two are =
    both (price_text (two.0)) (codes ".." & price_text (two.1)) (price (two.0) are.0)
    (both (codes "..") (price_text (two.1)) refl (price (two.1) are.1))

ends : (two : Option (ℕ × ℕ)) → AreEnds two → IsOneLine (ends_text two)
ends None are = refl
ends (Some two) are = range (two.0) (two.1) are.0 are.1

payment : (p : Payment) → IsPayment p → IsOneLine (payment_text p)
payment p is =
    let paid : IsLong p.paid = rw is.paid is.low in
    both p.user (codes " " & range_text p.low p.high & codes " paid " & decimal p.paid)
    (name p.user is.user)
    (both (codes " ") (range_text p.low p.high & codes " paid " & decimal p.paid) refl
    (both (range_text p.low p.high) (codes " paid " & decimal p.paid)
    (range p.low p.high is.low is.high)
    (both (codes " paid ") (decimal p.paid) refl (long p.paid paid))))

pair_of : (n m : ℕ) → IsNarrow n → IsNarrow m → IsOneLine (of_text (n, m))
pair_of n m is also =
    both (decimal n) (codes " of " & decimal m) (narrow n is)
    (both (codes " of ") (decimal m) refl (narrow m also))

why_in_line : (why : Refusal) → IsRefusal why → IsOneLine (refusal_text why)
why_in_line Syntax is = refl
why_in_line Long is = refl
why_in_line Over is = refl
why_in_line (User user) is = both (codes "user ") user refl (name user is)
why_in_line (Exists user) is = both (codes "exists ") user refl (name user is)
why_in_line (Users held) is =
    both (codes "users ") (decimal held) refl (number held (omega (arith, is.most)))
why_in_line (Unknown words) is = both (codes "name ") (pair_text words) refl (pair words is)
why_in_line (Twice variable) is = both (codes "twice ") variable refl (name variable is)
why_in_line (Stale named now) is =
    both (codes "stale ") (decimal named & codes " " & decimal now) refl
    (both (decimal named) (codes " " & decimal now) (narrow named is.0)
    (both (codes " ") (decimal now) refl (long now is.1)))
why_in_line (Known variable) is = both (codes "resolved ") variable refl (name variable is)
why_in_line (Impossible words) is =
    both (codes "impossible ") (pair_text words) refl (pair words is)
why_in_line Wide is = refl
why_in_line (Range n) is = both (codes "range ") (decimal n) refl (narrow n is)
why_in_line (Full held) is = both (codes "full ") (decimal held) refl (narrow held is)
why_in_line (Beyond told) is = both (codes "beyond ") (limits_text told) refl (limits told is)
why_in_line (Short bits) is = both (codes "short ") (decimal bits) refl (long bits is)
why_in_line (Unresolved variable) is = both (codes "open ") variable refl (name variable is)
why_in_line Unsettled is = refl
why_in_line (NoVariable variable) is = both (codes "variable ") variable refl (name variable is)
why_in_line (Numbers given) is =
    both (codes "numbers ") (decimal given) refl (number given (omega (arith, is)))
why_in_line (Sum sum) is = both (codes "sum ") (decimal sum) refl (number sum (omega (arith, is)))
why_in_line (Outside told) is =
    both (codes "outside ") (intervals_text (given_in told)) refl (intervals (given_in told) is)
why_in_line (Sure words) is = both (codes "sure ") (pair_text words) refl (pair words is)
why_in_line (Variables held) is =
    both (codes "variables ") (decimal held) refl (number held (omega (arith, is)))
why_in_line (Taken variable) is = both (codes "taken ") variable refl (name variable is)
why_in_line (ValueTwice value) is = both (codes "value ") value refl (name value is)
why_in_line (RowCount given) is =
    both (codes "rows ") (decimal given) refl (number given (omega (arith, is)))
why_in_line (RowWidth row given) is =
    both (codes "width ") (decimal row & codes " " & decimal given) refl
    (both (decimal row) (codes " " & decimal given) (number row (omega (arith, is.0)))
    (both (codes " ") (decimal given) refl (number given (omega (arith, is.1)))))
why_in_line (Cells total) is =
    both (codes "cells ") (decimal total) refl (number total (omega (arith, is)))
why_in_line (Link place) is =
    both (codes "link ") (decimal place) refl (number place (omega (arith, is)))
why_in_line (Uncovered variable) is = both (codes "cover ") variable refl (name variable is)
why_in_line (NotRunning variable) is = both (codes "running ") variable refl (name variable is)
why_in_line Memory is = refl

-- a user, a number and a revision
transfer : (user : List ℕ) (bits at : ℕ) → IsName user → IsNarrow bits → IsLong at
    → IsOneLine (user & codes " " & decimal bits & at_text at)
transfer user bits at named few is =
    both user (codes " " & decimal bits & at_text at) (name user named)
    (both (codes " ") (decimal bits & at_text at) refl
    (both (decimal bits) (at_text at) (narrow bits few) (revision at is)))

in_line : (reply : Reply) → IsReply reply → IsOneLine (reply_text reply)
in_line (Joined user at) is =
    both (codes "user ") (user & at_text at) refl
    (both user (at_text at) (name user is.0) (revision at is.1))
in_line (Deposited user bits at) is =
    both (codes "deposit ") (user & codes " " & decimal bits & at_text at) refl
    (transfer user bits at is.0 is.1 is.2)
in_line (Withdrawn user bits at) is =
    both (codes "withdraw ") (user & codes " " & decimal bits & at_text at) refl
    (transfer user bits at is.0 is.1 is.2)
in_line (Price low high) is =
    both (codes "price ") (prices_text (low, high)) refl (prices (low, high) is)
in_line (Limits told at) is =
    both (codes "limits ") (limits_text told & at_text at) refl
    (both (limits_text told) (at_text at) (limits told is.0) (revision at is.1))
in_line (Traded hit miss at) is =
    both (codes "trade ") (decimal hit & codes " " & decimal miss & at_text at) refl
    (both (decimal hit) (codes " " & decimal miss & at_text at) (long hit is.0.below)
    (both (codes " ") (decimal miss & at_text at) refl
    (both (decimal miss) (at_text at) (long miss is.1.below) (revision at is.2))))
in_line (Bounded told at) is =
    both (codes "bounds ") (intervals_text (given_in told) & at_text at) refl
    (both (intervals_text (given_in told)) (at_text at) (intervals (given_in told) is.0)
    (revision at is.1))
in_line (Spreaded factors at) is =
    both (codes "spread ") (spaced decimal factors.items & at_text at) refl
    (both (spaced decimal factors.items) (at_text at)
    (several IsRatio decimal (λ n ratio. long n ratio.below) factors.items is.0)
    (revision at is.1))
in_line (Worst low high) is = both (codes "worst ") (range_text low high) refl
    (range low high is.0 is.1)
in_line (Paid told) is = both (codes "paid ") (payment_text told) refl (payment told is)
in_line (Resolved words at) is =
    both (codes "resolve ") (pair_text words & at_text at) refl
    (both (pair_text words) (at_text at) (pair words is.0) (revision at is.1))
in_line (Settled at payments) is =
    let rows = items_text (codes ", ") payment_text payments in
    both (codes "settle") (at_text at & rows) refl
    (both (at_text at) rows (revision at is.0)
    (items_in_line IsPayment payment_text payment (codes ", ") refl payments
    (recursion_from_All IsPayment payments is.1.each)))
in_line (SettledAll at users total) is =
    let paid = codes " paid " & decimal total in
    let all = codes " users " & decimal users & paid in
    both (codes "settle") (at_text at & all) refl
    (both (at_text at) all (revision at is.0)
    (both (codes " users ") (decimal users & paid) refl
    (both (decimal users) paid (number users (omega (arith, is.1.most)))
    (both (codes " paid ") (decimal total) refl (long total is.2)))))
in_line (Bound low high) is = both (codes "bound ") (range_text low high) refl
    (range low high is.0 is.1)
in_line (Prices told) is =
    both (codes "prices ") (spaced prices_text told.items) refl
    (several ArePrices prices_text prices told.items is)
in_line (Position told) is =
    both (codes "position ") (spaced ends_text told.items) refl
    (several AreEnds ends_text ends told.items is)
in_line (Status at users trades most transfers most_transfers unresolved questions) is =
    let left = of_text (unresolved, questions) in
    let moved = of_text (transfers, most_transfers) & codes " open " & left in
    let traded = of_text (trades, most) & codes " transfers " & moved in
    both (codes "status") (at_text at & codes " users " & decimal users & codes " trades " & traded)
    refl
    (both (at_text at) (codes " users " & decimal users & codes " trades " & traded)
    (revision at is.0)
    (both (codes " users ") (decimal users & codes " trades " & traded) refl
    (both (decimal users) (codes " trades " & traded) (narrow users is.1)
    (both (codes " trades ") traded refl
    (both (of_text (trades, most)) (codes " transfers " & moved) (pair_of trades most is.2 is.3)
    (both (codes " transfers ") moved refl
    (both (of_text (transfers, most_transfers)) (codes " open " & left)
    (pair_of transfers most_transfers is.4 is.5)
    (both (codes " open ") left refl (pair_of unresolved questions is.6 is.7)))))))))
in_line (Added variable at) is =
    both (codes "add ") (variable & at_text at) refl
    (both variable (at_text at) (name variable is.0) (revision at is.1))
in_line (Refused why) is = both (codes "refused ") (refusal_text why) refl (why_in_line why is)

not_lf : (b : ℕ) → is_within b ≡ true → b ≢ 10
not_lf b h same = let equal = eq-eqb b 10 same in cc

each_within : (bytes : List ℕ) → IsOneLine bytes → AllByRecursion (λ b. b ≢ 10) bytes
each_within [] h = tt
each_within (b ∷ bytes) h =
    let parts = and_parts (is_within b) (list_all is_within bytes) h in
    (not_lf b parts.0, each_within bytes parts.1)

pub reply_is_one_line : ReplyIsOneLine
reply_is_one_line reply is =
    All-from_recursion (λ b. b ≢ 10) (reply_text reply)
    (each_within (reply_text reply) (in_line reply is))

-- two lines in front of the same bytes, up to the first LF, are one, and so is what is behind
same_front : (a b r s : List ℕ) → All (λ b. b ≢ 10) a → All (λ b. b ≢ 10) b
    → as_line a ++ r ≡ as_line b ++ s → (a ≡ b) × (r ≡ s)
same_front a b r s h k e =
    let same = first a b (lf_parts r) (lf_parts s)
    (sym (parts_whole a r h) ∙ ap lf_parts e ∙ parts_whole b s k) in (
      same,
      append_cancel_left (as_line b) r s
          (subst (λ (line : List ℕ). as_line line ++ r ≡ as_line b ++ s) same e),
    )
  where
    first : (a b : List ℕ) (r s : List (List ℕ)) → a ∷ r ≡ b ∷ s → a ≡ b
    first a b r s e = cc

-- the line of a reply, and what stands behind it
pub line_and : (reply : Reply) (behind : List ℕ)
    → reply_line reply ++ behind ≡ reply_text reply ++ 10 ∷ behind
line_and reply behind = append_assoc (reply_text reply) (10 ∷ []) behind

-- a first line of bytes that begin with a reply's line is its text
pub reply_is_first : (reply : Reply) (line rest behind : List ℕ) → IsReply reply
    → All (λ b. b ≢ 10) line → line ++ 10 ∷ rest ≡ reply_line reply ++ behind
    → line ≡ reply_text reply
reply_is_first reply line rest behind is none e =
    (same_front line (reply_text reply) rest behind none (reply_is_one_line reply is)
    (append_assoc line (10 ∷ []) rest ∙ e)).0

-- the lines of two replies are in front of the same bytes: they are one, and so is what is behind
pub one_reply : (one other : Reply) (behind rest : List ℕ) → IsReply one → IsReply other
    → reply_line one ++ behind ≡ reply_line other ++ rest → (one ≡ other) × (behind ≡ rest)
one_reply one other behind rest is also e =
    let same = same_front (reply_text one) (reply_text other) behind rest
    (reply_is_one_line one is) (reply_is_one_line other also) e in
    (whole_one form_tells one other is also same.0, same.1)

-- bytes with no LF begin with no reply's line
pub no_line : (reply : Reply) (bytes behind : List ℕ) → All (λ b. b ≢ 10) bytes
    → bytes ≡ reply_line reply ++ behind → ⊥
no_line reply bytes behind none e =
    has_line (reply_text reply) behind (subst (λ (l : List ℕ). AllByRecursion (λ b. b ≢ 10) l)
    (e ∙ line_and reply behind) (recursion_from_All (λ b. b ≢ 10) bytes none))
  where
    has_line : (xs ys : List ℕ) → AllByRecursion (λ b. b ≢ 10) (xs ++ 10 ∷ ys) → ⊥
    has_line [] ys none = none.0 refl
    has_line (x ∷ xs) ys none = has_line xs ys none.1
