-- Each reply is read from its text, and from no other.
use Rattle.std.specs.Prelude.{◌≡◌, ◌≢◌, ℕ, ◌^◌, List, [], ◌∷◌, ◌++◌, codes, decimal, length, Option, Some, None, true, false, ◌==◌, IfOk, IfErr, MatchResult, Result, Ok, Err}
use Rattle.std.specs.Prelude.{◌&&◌, nat_lt, nat_le}
use Rattle.std.proofs.Common.{refl, sym, ap, ◌∙◌, subst, arith, lit≤, inl, append_assoc}
use Rattle.std.proofs.lemmas.Option.{none-some, same_Some, option_and_then_some}
use Rattle.std.proofs.lemmas.Bool.{eqb-true, eq-eqb, ltb-true, lt-ltb, leb-true, le-leb}
use Rattle.mk_net.specs.Bounds.{max_users, max_payments}
use Rattle.mk_names.specs.Name.{IsName}
use Rattle.mk_text.specs.Joined.{items_text, spaced, AreSeveral}
use Rattle.mk_text.specs.Numbers.{IsLong, IsNarrow, IsPrice, price_text, AreIntervals, intervals_text}
use Rattle.mk_text.specs.Words.{after, EndsWord}
use Rattle.mk_text.specs.Reading.{Finds, Read, both, behind, made, nothing, read_name, read_price, read_range, read_units, read_several, read_intervals}
use Rattle.mk_text.proofs.ReadingLaws.{Took, Reads, Tells, Spelled, IsMade, BothFit, both_text, behind_text, both_reads, behind_reads, passed_reads, made_reads, reads_same, AreItems, EndsList, list_reads, spelled_by, choose_takes, nothing_takes, made_last, whole_one, whole_found, whole_nothing, whole_left}
use Rattle.mk_text.specs.Reading.{either}
use Rattle.mk_text.proofs.ReadingLaws.{either_cases, either_here, either_else}
use Rattle.mk_text.proofs.WordLemmas.{after_begins, both_true}
use Rattle.mk_text.proofs.PartLaws.{EndsSeveral, name_reads, pair_reads, limits_reads, price_reads, range_reads, units_reads, several_reads, number_goes_on, intervals_reads, both_ends, AreBelow}
use Rattle.mk_reply.specs.Replies.{reply_text, at_text, payment_text, IsRatio, IsPayment, IsReply}
use Rattle.mk_reply.specs.Replies.{IsManyUsers, IsUnread, BeginsWithRevision, BeginsSettlement}
use Rattle.mk_reply.specs.Reading.{read_long, dated, boxed, read_joined, read_moved, read_prices, read_limited, read_traded, read_bounded, read_spreaded, read_worst, read_bound, read_resolved, read_payment, read_payments, read_settled, read_refusal, other_forms, read_other, read_form}
use Rattle.mk_reply.specs.Reading.{read_all_prices, read_position, read_status, status_of}
use Rattle.mk_reply.specs.Reading.{read_added, read_paid, read_many_users}
use Rattle.mk_reply.specs.Reading.{read_settled_all, read_listed}
use Rattle.mk_reply.specs.Reading.{later_forms, read_later}
use Rattle.mk_text.proofs.SpanLaws.{all_prices_reads, all_ends_reads}
use Rattle.mk_reply.proofs.ToldLaws.{all_prices_form, position_form, status_form}
use Rattle.mk_reply.proofs.ToldLaws.{status_parts, ends_line}
use Rattle.mk_reply.proofs.RefusalLaws.{long_reads, narrow_reads, given_same, refusal_reads}
use Rattle.mk_reply.specs.declared.payments.Payment.{Payment}
use Rattle.mk_reply.specs.declared.reply.Reply.{Reply}
use Rattle.mk_reply.specs.declared.reply.Reply.TheVariants.{Joined, Deposited, Withdrawn, Price, Limits, Traded, Bounded, Spreaded, Worst, Resolved, Settled, Bound, Refused}
use Rattle.mk_reply.specs.declared.reply.Reply.TheVariants.{Prices, Position, Status, Added}
use Rattle.mk_reply.specs.declared.reply.Reply.TheVariants.{Paid, SettledAll}
use Rattle.mk_reply.specs.declared.unread.Unread.{Unread}
use Rattle.mk_reply.specs.declared.unread.Unread.TheVariants.{Syntax, Memory}

abbrev OfReply : List ℕ × Read Reply → Type 0
OfReply = Spelled reply_text IsReply

-- the revision behind a thing
at_reads : Reads (behind (codes " at ") read_long) at_text IsLong EndsWord
at_reads = behind_reads (codes " at ") long_reads

abbrev dated_text : {X : Type 0} → (X → List ℕ) → X × ℕ → List ℕ
dated_text t = both_text t at_text

dated_reads : {X : Type 0} {read : Read X} {t : X → List ℕ} {F : X → Type 0} → Reads read t F EndsWord →
    Reads (dated read) (dated_text t) (BothFit F IsLong) EndsWord
dated_reads a = both_reads a at_reads (λ at rest fits ends. refl)

ratio_reads : Reads read_units decimal IsRatio EndsWord
ratio_reads = reads_same units_reads (λ n fits. record { positive = fits.positive; below = fits.below }) (λ n fits. record { positive = fits.positive; below = fits.below })

-- several things and the revision behind them
before_revision_ends : (at : ℕ) (rest : List ℕ) → EndsSeveral (at_text at ++ rest)
unfolding after
before_revision_ends at rest = record { word = refl; ends = record { stopped = inl refl } }

bounded_parts : Reads (dated read_intervals) (dated_text intervals_text) (BothFit AreIntervals IsLong) EndsWord
bounded_parts = both_reads intervals_reads at_reads (λ at rest fits ends. before_revision_ends at rest)

ratios_reads : Reads (read_several read_units) (spaced decimal) (AreSeveral IsRatio) EndsSeveral
ratios_reads = several_reads ratio_reads (λ n rest fits. number_goes_on n rest (omega (arith, fits.below)))

spreaded_parts : Reads (dated (read_several read_units)) (dated_text (spaced decimal)) (BothFit (AreSeveral IsRatio) IsLong) EndsWord
spreaded_parts = both_reads ratios_reads at_reads (λ at rest fits ends. before_revision_ends at rest)

abbrev word_text : List ℕ → List ℕ
word_text name = name

abbrev moved_text : List ℕ × (ℕ × ℕ) → List ℕ
moved_text = both_text word_text (behind_text (codes " ") (dated_text decimal))

moved_reads : Reads read_moved moved_text (BothFit IsName (BothFit IsNarrow IsLong)) EndsWord
unfolding read_moved
moved_reads = both_reads name_reads (behind_reads (codes " ") (dated_reads narrow_reads)) (λ parts rest fits ends. refl)

abbrev prices_text : ℕ × ℕ → List ℕ
prices_text = both_text price_text (behind_text (codes "..") price_text)

prices_parts : Reads (both read_price (behind (codes "..") read_price)) prices_text (BothFit IsPrice IsPrice) EndsWord
prices_parts = both_reads price_reads (behind_reads (codes "..") price_reads) (λ high rest fits ends. refl)

abbrev traded_text : ℕ × (ℕ × ℕ) → List ℕ
traded_text = both_text decimal (behind_text (codes " ") (dated_text decimal))

traded_parts : Reads (both read_units (behind (codes " ") (dated read_units))) traded_text (BothFit IsRatio (BothFit IsRatio IsLong)) EndsWord
traded_parts = both_reads ratio_reads (behind_reads (codes " ") (dated_reads ratio_reads)) (λ parts rest fits ends. refl)

ends_parts : Reads (read_range (2 ^ 63)) both_ends (AreBelow (2 ^ 63)) EndsWord
ends_parts = range_reads (2 ^ 63) (lit≤ tt)

-- payments
abbrev paid_text : List ℕ × ((ℕ × ℕ) × ℕ) → List ℕ
paid_text = both_text word_text (behind_text (codes " ") (both_text both_ends (behind_text (codes " paid ") decimal)))

paid_parts : Reads (both read_name (behind (codes " ") (both (read_range (2 ^ 63)) (behind (codes " paid ") read_long)))) paid_text
    (BothFit IsName (BothFit (AreBelow (2 ^ 63)) IsLong)) EndsWord
paid_parts = both_reads name_reads (behind_reads (codes " ") (both_reads ends_parts (behind_reads (codes " paid ") long_reads) (λ paid rest fits ends. refl)))
    (λ parts rest fits ends. refl)

-- a payment, whatever is paid
record HasNumbers (p : Payment) : Type 0 where
  user : IsName p.user
  low : IsLong p.low
  high : IsLong p.high
  paid : IsLong p.paid

abbrev Parts : Type 0
Parts = List ℕ × ((ℕ × ℕ) × ℕ)

abbrev payment_of : Parts → Payment
payment_of parts = record { user = parts.0; low = parts.1.0.0; high = parts.1.0.1; paid = parts.1.1 }

abbrev parts_of : Payment → Parts
parts_of p = (p.user, ((p.low, p.high), p.paid))

payment_made : IsMade paid_text (BothFit IsName (BothFit (AreBelow (2 ^ 63)) IsLong)) payment_of parts_of payment_text HasNumbers
payment_made = record {
  spelled = λ parts fits. refl;
  fits = λ parts fits. record { user = fits.0; low = fits.1.0.0; high = fits.1.0.1; paid = fits.1.1 };
  parts_fit = λ p fits. (fits.user, ((fits.low, fits.high), fits.paid));
  whole = λ p fits. refl;
}

is_payment : (p : Payment) → HasNumbers p → (p.paid == p.low) ≡ true → IsPayment p
is_payment p fits same = record { user = fits.user; low = fits.low; high = fits.high; paid = eqb-true p.paid p.low same }

has_numbers : (p : Payment) → IsPayment p → HasNumbers p × ((p.paid == p.low) ≡ true)
has_numbers p fits =
    (record { user = fits.user; low = fits.low; high = fits.high; paid = rw fits.paid fits.low }, eq-eqb p.paid p.low fits.paid)

payment_reads : Reads read_payment payment_text IsPayment EndsWord
unfolding read_payment
payment_reads = reads_same (passed_reads (λ p. p.paid == p.low) (made_reads paid_parts payment_made))
    (λ p fits. is_payment p (fits.0) (fits.1)) has_numbers

payments_reads : Reads read_payments (items_text (codes ", ") payment_text) (AreItems IsPayment 256) (EndsList EndsWord (codes ", "))
unfolding read_payments
payments_reads = list_reads payment_reads (codes ", ") 256 (λ rest. refl)

-- how many users are paid, and how much together
many_passed : (n : ℕ) → nat_lt max_payments n && nat_le n max_users ≡ true → IsManyUsers n
many_passed n passes =
    let parts = both_true (nat_lt max_payments n) (nat_le n max_users) passes in
    record { many = ltb-true max_payments n (parts.0); most = leb-true n max_users (parts.1) }

many_passes : (n : ℕ) → IsManyUsers n → nat_lt max_payments n && nat_le n max_users ≡ true
many_passes n fits = rw (lt-ltb max_payments n (fits.many), le-leb n max_users (fits.most)) refl

many_users_reads : Reads read_many_users decimal IsManyUsers EndsWord
unfolding read_many_users
many_users_reads =
    reads_same (passed_reads (λ n. nat_lt max_payments n && nat_le n max_users) narrow_reads)
    (λ n fits. many_passed n (fits.1))
    (λ n fits. (omega (arith, fits.most), many_passes n fits))

abbrev all_paid_text : ℕ × ℕ → List ℕ
all_paid_text = both_text decimal (behind_text (codes " paid ") decimal)

all_paid_parts : Reads (both read_many_users (behind (codes " paid ") read_long)) all_paid_text
    (BothFit IsManyUsers IsLong) EndsWord
all_paid_parts =
    let total_reads = behind_reads (codes " paid ") long_reads in
    both_reads many_users_reads total_reads (λ total rest fits ends. refl)

abbrev listed_text : List Payment → List ℕ
listed_text payments = items_text (codes ", ") payment_text payments

before_payments : (payments : List Payment) → EndsWord (listed_text payments)
before_payments [] = refl
before_payments (p ∷ payments) = refl

ends_payments : EndsList EndsWord (codes ", ") []
unfolding after
ends_payments = record { follows = refl; missing = refl }

no_users : (payments : List Payment) → after (codes " users ") (listed_text payments) ≡ None
unfolding after
no_users [] = refl
no_users (p ∷ payments) = refl

joined_form : OfReply (codes "user ", read_joined)
unfolding read_joined
joined_form = spelled_by (codes "user ") (λ parts. Joined (parts.0) (parts.1)) (dated_reads name_reads) (λ parts fits. (refl, fits))

prices_form : OfReply (codes "price ", read_prices)
unfolding read_prices
prices_form = spelled_by (codes "price ") (λ prices. Price (prices.0) (prices.1)) prices_parts (λ prices fits. (refl, fits))

limited_form : OfReply (codes "limits ", read_limited)
unfolding read_limited
limited_form = spelled_by (codes "limits ") (λ parts. Limits (parts.0) (parts.1)) (dated_reads limits_reads) (λ parts fits. (refl, fits))

traded_form : OfReply (codes "trade ", read_traded)
unfolding read_traded
traded_form = spelled_by (codes "trade ") (λ parts. Traded (parts.0) (parts.1.0) (parts.1.1)) traded_parts (λ parts fits. (refl, (fits.0, fits.1.0, fits.1.1)))

bounded_form : OfReply (codes "bounds ", read_bounded)
unfolding read_bounded
bounded_form = spelled_by (codes "bounds ") (λ parts. Bounded (boxed (parts.0)) (parts.1)) bounded_parts (λ parts fits. (
  ap (λ (given : Option (List (ℕ × ℕ))). codes "bounds " ++ (intervals_text given ++ at_text (parts.1))) (sym (given_same (parts.0))),
  (subst AreIntervals (sym (given_same (parts.0))) (fits.0), fits.1),
))

spreaded_form : OfReply (codes "spread ", read_spreaded)
unfolding read_spreaded
spreaded_form = spelled_by (codes "spread ") (λ parts. Spreaded (record { items = parts.0 }) (parts.1)) spreaded_parts (λ parts fits. (refl, fits))

worst_form : OfReply (codes "worst ", read_worst)
unfolding read_worst
worst_form = spelled_by (codes "worst ") (λ range. Worst (range.0) (range.1)) ends_parts (λ range fits. (refl, fits))

bound_form : OfReply (codes "bound ", read_bound)
unfolding read_bound
bound_form = spelled_by (codes "bound ") (λ range. Bound (range.0) (range.1)) ends_parts (λ range fits. (refl, fits))

resolved_form : OfReply (codes "resolve ", read_resolved)
unfolding read_resolved
resolved_form = spelled_by (codes "resolve ") (λ parts. Resolved (parts.0) (parts.1)) (dated_reads pair_reads) (λ parts fits. (refl, fits))

paid_form : OfReply (codes "paid ", read_paid)
unfolding read_paid
paid_form = spelled_by (codes "paid ") (λ payment. Paid payment) payment_reads
    (λ payment fits. (refl, fits))

-- a settlement: its word and a revision, and behind these how many users are paid, or what each is
abbrev settle_text : ℕ → List ℕ
settle_text at = codes "settle" ++ at_text at

settled_all_form : (at : ℕ) → IsLong at →
    OfReply (settle_text at ++ codes " users ", read_settled_all at)
unfolding read_settled_all
settled_all_form at long = spelled_by (settle_text at ++ codes " users ")
    (λ parts. SettledAll at (parts.0) (parts.1)) all_paid_parts
    (λ parts fits. (simp append_assoc, (long, fits.0, fits.1)))

listed_form : (at : ℕ) → IsLong at → OfReply (settle_text at, read_listed at)
listed_form at long = spelled_by (settle_text at) (λ payments. Settled at payments) payments_reads
    (λ payments fits. (simp append_assoc, (long, record { few = fits.few; each = fits.each })))

all_apart : (word at users more : List ℕ) →
    word ++ (at ++ (users ++ more)) ≡ ((word ++ at) ++ users) ++ more
all_apart word at users more = simp append_assoc

-- bytes behind a front in place of the whole
took_behind : (front bytes left : List ℕ) (r : Reply) (rest : List ℕ) → bytes ≡ left →
    Took reply_text IsReply (front ++ left) r rest → Took reply_text IsReply (front ++ bytes) r rest
took_behind front bytes left r rest same took = record {
  begins = ap (λ (behind : List ℕ). front ++ behind) same ∙ took.begins;
  fits = took.fits;
}

settled_form : OfReply (codes "settle", read_settled)
unfolding read_settled
settled_form = record {
  takes = λ left r rest e.
      option_and_then_some _ (behind (codes " at ") read_long left) (r, rest) e (λ at was e1.
      let dated = at_reads.takes left (at.0) (at.1) was in
      let long : IsLong (at.0) = dated.fits in
      let all = read_settled_all (at.0) in
      either_cases (codes " users ") all (read_listed (at.0)) (at.1) (Some (r, rest)) _ e1
      (λ more begins e2.
      let took = (settled_all_form (at.0) long).takes more r rest e2 in
      took_behind (codes "settle") left (at_text (at.0) ++ (codes " users " ++ more)) r rest
      (dated.begins ∙ ap (λ (behind : List ℕ). at_text (at.0) ++ behind) begins)
      (record {
        begins = all_apart (codes "settle") (at_text (at.0)) (codes " users ") more ∙ took.begins;
        fits = took.fits;
      }))
      (λ e2.
      let took = (listed_form (at.0) long).takes (at.1) r rest e2 in
      took_behind (codes "settle") left (at_text (at.0) ++ at.1) r rest (dated.begins)
      (record {
        begins = sym (append_assoc (codes "settle") (at_text (at.0)) (at.1)) ∙ took.begins;
        fits = took.fits;
      })));
}

-- what is read behind the word of a settlement
settled_behind : (at : ℕ) (rest : List ℕ) → IsLong at → EndsWord rest →
    read_settled (at_text at ++ rest)
    ≡ either (codes " users ") (read_settled_all at) (read_listed at) rest
unfolding read_settled
settled_behind at rest long ends = rw (at_reads.again at rest long ends) refl

listed_last : (at : ℕ) (payments : List Payment) → IsLong at → AreItems IsPayment 256 payments →
    read_settled (at_text at ++ listed_text payments) ≡ Some (Settled at payments, [])
listed_last at payments long fits =
    let text = listed_text payments in
    settled_behind at text long (before_payments payments)
    ∙ either_else (codes " users ") (read_settled_all at) (read_listed at) text (no_users payments)
    ∙ made_last (λ payments. Settled at payments) payments_reads payments fits ends_payments

all_last : (at users total : ℕ) → IsLong at → IsManyUsers users → IsLong total →
    read_settled (at_text at ++ (codes " users " ++ all_paid_text (users, total)))
    ≡ Some (SettledAll at users total, [])
unfolding read_settled_all
all_last at users total long many whole =
    let text = all_paid_text (users, total) in
    let last = made_last (λ parts. SettledAll at (parts.0) (parts.1)) all_paid_parts (users, total)
    (many, whole) refl in
    settled_behind at (codes " users " ++ text) long refl
    ∙ either_here (codes " users ") (read_settled_all at) (read_listed at) text
    ∙ last

refused_form : OfReply (codes "refused ", made (λ why. Refused why) read_refusal)
refused_form = spelled_by (codes "refused ") (λ why. Refused why) refusal_reads (λ why fits. (refl, fits))

added_form : OfReply (codes "add ", read_added)
unfolding read_added
added_form = spelled_by (codes "add ") (λ parts. Added (parts.0) (parts.1)) (dated_reads name_reads)
    (λ parts fits. (refl, fits))

abbrev Takes : Read Reply → Type 0
Takes read = (bytes : List ℕ) (r : Reply) (rest : List ℕ) →
    read bytes ≡ Some (r, rest) → Took reply_text IsReply bytes r rest

later_takes : Takes read_later
unfolding read_later
later_takes = choose_takes reply_text IsReply later_forms nothing
    (bound_form, (paid_form, (all_prices_form, (position_form, (status_form, (added_form, tt))))))
    (nothing_takes reply_text IsReply)

other_takes : Takes read_other
unfolding read_other
other_takes = choose_takes reply_text IsReply other_forms read_later (
  joined_form,
  (
    spelled_by (codes "deposit ") (λ parts. Deposited (parts.0) (parts.1.0) (parts.1.1)) moved_reads (λ parts fits. (refl, (fits.0, fits.1.0, fits.1.1))),
    (
      spelled_by (codes "withdraw ") (λ parts. Withdrawn (parts.0) (parts.1.0) (parts.1.1)) moved_reads (λ parts fits. (refl, (fits.0, fits.1.0, fits.1.1))),
      (
        prices_form,
        (
          limited_form,
          (
            traded_form,
            (bounded_form, (spreaded_form, (worst_form, (resolved_form, (refused_form, tt))))),
          ),
        ),
      ),
    ),
  ),
)
    later_takes

form_takes : (bytes : List ℕ) (r : Reply) (rest : List ℕ) → read_form bytes ≡ Some (r, rest) → Took reply_text IsReply bytes r rest
unfolding read_form
form_takes = choose_takes reply_text IsReply ((codes "settle", read_settled) ∷ []) read_other (settled_form, tt) other_takes

form_last : (r : Reply) → IsReply r → read_form (reply_text r) ≡ Some (r, [])
unfolding read_form read_other read_later read_all_prices read_position read_status read_added
    read_joined
    read_prices read_limited read_traded read_bounded read_spreaded read_worst read_bound
    read_resolved read_paid after
form_last (Joined user at) fits = made_last (λ parts. Joined (parts.0) (parts.1)) (dated_reads name_reads) (user, at) fits refl
form_last (Deposited user bits at) fits =
    made_last (λ parts. Deposited (parts.0) (parts.1.0) (parts.1.1)) moved_reads (user, (bits, at)) (fits.0, (fits.1, fits.2)) refl
form_last (Withdrawn user bits at) fits =
    made_last (λ parts. Withdrawn (parts.0) (parts.1.0) (parts.1.1)) moved_reads (user, (bits, at)) (fits.0, (fits.1, fits.2)) refl
form_last (Price low high) fits = made_last (λ prices. Price (prices.0) (prices.1)) prices_parts (low, high) fits refl
form_last (Limits limits at) fits = made_last (λ parts. Limits (parts.0) (parts.1)) (dated_reads limits_reads) (limits, at) fits refl
form_last (Traded hit miss at) fits =
    made_last (λ parts. Traded (parts.0) (parts.1.0) (parts.1.1)) traded_parts (hit, (miss, at)) (fits.0, (fits.1, fits.2)) refl
form_last (Bounded None at) fits = made_last (λ parts. Bounded (boxed (parts.0)) (parts.1)) bounded_parts (None, at) fits refl
form_last (Bounded (Some intervals) at) fits = made_last (λ parts. Bounded (boxed (parts.0)) (parts.1)) bounded_parts (Some (intervals.items), at) fits refl
form_last (Spreaded factors at) fits = made_last (λ parts. Spreaded (record { items = parts.0 }) (parts.1)) spreaded_parts (factors.items, at) fits refl
form_last (Worst low high) fits = made_last (λ range. Worst (range.0) (range.1)) ends_parts (low, high) fits refl
form_last (Resolved pair at) fits = made_last (λ parts. Resolved (parts.0) (parts.1)) (dated_reads pair_reads) (pair, at) fits refl
form_last (Paid payment) fits = made_last (λ payment. Paid payment) payment_reads payment fits refl
form_last (Settled at payments) fits =
    listed_last at payments (fits.0) (record { few = fits.1.few; each = fits.1.each })
form_last (SettledAll at users total) fits = all_last at users total (fits.0) (fits.1) (fits.2)
form_last (Bound low high) fits = made_last (λ range. Bound (range.0) (range.1)) ends_parts (low, high) fits refl
form_last (Prices intervals) fits =
    made_last (λ xs. Prices (record { items = xs })) all_prices_reads intervals.items fits ends_line
form_last (Position intervals) fits =
    made_last (λ xs. Position (record { items = xs })) all_ends_reads intervals.items fits ends_line
form_last (Status at users trades most transfers most_transfers unresolved questions) fits =
    made_last status_of status_parts
    (at, (users, ((trades, most), ((transfers, most_transfers), (unresolved, questions)))))
    (fits.0, (fits.1, ((fits.2, fits.3), ((fits.4, fits.5), (fits.6, fits.7))))) refl
form_last (Added variable at) fits =
    made_last (λ parts. Added (parts.0) (parts.1)) (dated_reads name_reads) (variable, at) fits refl
form_last (Refused why) fits = made_last (λ why. Refused why) refusal_reads why fits refl

pub form_tells : Tells read_form reply_text IsReply
form_tells = record { takes = form_takes; last = form_last }

-- what is read of a reply's text
pub read_again : (line : List ℕ) (r : Reply) (read : Result Reply Unread) → IsReply r → line ≡ reply_text r →
    IfOk read (λ q. IsReply q × (line ≡ reply_text q)) → IfErr read (IsUnread line) → MatchResult read (λ q. q ≡ r) (λ unread. unread ≡ Memory)
read_again line r (Ok q) fits same found unread = whole_one form_tells q r (found.0) fits (sym (found.1) ∙ same)
read_again line r (Err Syntax) fits same found unread = absurd (unread r fits same)
read_again line r (Err Memory) fits same found unread = refl

-- bytes with the text before them that every settlement has
pub settlement_begins : {T E : Type 0} (read : Result T E) (bytes left : List ℕ) → after (codes "settle") bytes ≡ Some left
    → IfErr read (λ e. (rest : List ℕ) × (bytes ≡ codes "settle" ++ rest))
settlement_begins (Ok x) bytes left here = tt
settlement_begins (Err e) bytes left here = (left, after_begins (codes "settle") bytes left here)

-- bytes at whose front a revision was read, and with the word of a settlement before them
pub revision_read : {T E : Type 0} (read : Result T E) (bytes left : List ℕ) (at : ℕ)
    → Finds (Some at) left (behind (codes " at ") read_long bytes)
    → IfErr read (λ e. BeginsWithRevision bytes)
revision_read (Ok x) bytes left at found = tt
revision_read (Err e) bytes left at found =
    let took = at_reads.takes bytes at left found in
    record { at = at; rest = left; is_long = took.fits; begins = took.begins }

pub dated_settlement : {T E : Type 0} (read : Result T E) (bytes left : List ℕ)
    → after (codes "settle") bytes ≡ Some left
    → IfErr read (λ e. BeginsWithRevision left) → IfErr read (λ e. BeginsSettlement bytes)
dated_settlement (Ok x) bytes left here begins = tt
dated_settlement (Err e) bytes left here begins =
    (left, after_begins (codes "settle") bytes left here, begins)

-- what a line is where nothing was found at its front, where a reply was all of it, and where bytes were left behind one
pub nothing_found : (found : Option Reply) (line left : List ℕ) → found ≡ None → Finds found left (read_form line)
    → (r : Reply) → IsReply r → line ≢ reply_text r
nothing_found None line left none finds = whole_nothing form_tells line finds
nothing_found (Some q) line left none finds = absurd (none-some q (sym none))

pub whole_line : (found : Option Reply) (r : Reply) (line left : List ℕ) → found ≡ Some r → Finds found left (read_form line)
    → (length left == 0) ≡ true → IsReply r × (line ≡ reply_text r)
whole_line None r line left some finds ends = absurd (none-some r some)
whole_line (Some q) r line left some finds ends =
    subst (λ (s : Reply). IsReply s × (line ≡ reply_text s)) (same_Some q r some) (whole_found form_tells line q left finds ends)

pub more_left : (found : Option Reply) (r : Reply) (line left : List ℕ) → found ≡ Some r → Finds found left (read_form line)
    → (length left == 0) ≡ false → (s : Reply) → IsReply s → line ≢ reply_text s
more_left None r line left some finds more = absurd (none-some r some)
more_left (Some q) r line left some finds more = whole_left form_tells line q left finds more
