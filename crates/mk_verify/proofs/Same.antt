-- Replies and refusals that compare equal are equal.
use Rattle.std.proofs.Common.{◌≡◌, ℕ, List, [], ◌∷◌, Bool, true, false, ◌&&◌, ◌==◌, Option, Some, None, MatchOption, refl, sym, ap, ap₂, subst, ◌∙◌}
use Rattle.std.specs.Cmp.Lexicographic.{pointwise}
use Rattle.std.proofs.lemmas.Bool.{eqb-true, eq-eqb}
use Rattle.arrayvec.specs.ArrayVec.{ArrayVec}
use Rattle.mk_net.specs.declared.words.PairText.{PairText}
use Rattle.mk_names.specs.Texts.{same_text}
use Rattle.mk_names.specs.inner.TextLaws.{both, equal_of_same_text, same_text_of_equal}
use Rattle.mk_reply.specs.declared.refusal.Refusal.{Refusal}
use Rattle.mk_reply.specs.declared.refusal.Refusal.TheVariants.{Syntax, Long, Settled, User, Exists, Users, Unknown, Twice, Stale, Resolved, Impossible, Wide, Range, Full, Beyond, Short, Unresolved, NoVariable, Numbers, Sum, Outside, Sure, Memory}
use Rattle.mk_reply.specs.declared.refusal.Refusal.TheVariants.{Variables, Taken, ValueTwice}
use Rattle.mk_reply.specs.declared.refusal.Refusal.TheVariants.{RowCount, RowWidth, Cells, Link}
use Rattle.mk_reply.specs.declared.refusal.Refusal.TheVariants.{Uncovered, NotRunning, Unsettled}
use Rattle.mk_reply.specs.declared.reply.Reply.{Reply}
use Rattle.mk_reply.specs.declared.payments.Payment.{Payment}
use Rattle.mk_reply.specs.declared.reply.Reply.TheVariants.{Status, Paid, Refused}
use Rattle.mk_reply.specs.contracts.refusal.RefusalPartialEq.TheImpl.{ghosts}
use Rattle.mk_reply.specs.contracts.reply.ReplyPartialEq.TheImpl.{ghosts as reply_ghosts}
use Rattle.mk_reply.specs.contracts.refusal.RefusalEq.TheImpl.Laws.{laws-law}

same_words : (a b : PairText) → same_text a.variable b.variable && same_text a.value b.value ≡ true
    → a ≡ b
same_words a b same =
    let parts = both (same_text a.variable b.variable) (same_text a.value b.value) same in
    ap₂ (λ (v w : List ℕ). record { variable = v; value = w })
    (equal_of_same_text a.variable b.variable parts.0) (equal_of_same_text a.value b.value parts.1)

same_ends : (a b : ℕ × ℕ) → (a.0 == b.0) && (a.1 == b.1) ≡ true → a ≡ b
same_ends (a, m) (b, n) same =
    let parts = both (a == b) (m == n) same in
    ap₂ (λ (x y : ℕ). (x, y)) (eqb-true a b parts.0) (eqb-true m n parts.1)

same_intervals : (xs ys : List (ℕ × ℕ))
    → pointwise (λ (a b : ℕ × ℕ). (a.0 == b.0) && (a.1 == b.1)) xs ys ≡ true → xs ≡ ys
same_intervals [] [] same = refl
same_intervals [] (y ∷ ys) same = cc
same_intervals (x ∷ xs) [] same = cc
same_intervals (x ∷ xs) (y ∷ ys) same =
    let parts = both ((x.0 == y.0) && (x.1 == y.1)) _ same in
    ap₂ (λ (e : ℕ × ℕ) (es : List (ℕ × ℕ)). e ∷ es) (same_ends x y parts.0)
    (same_intervals xs ys parts.1)

same_limits : (a b : Option (ℕ × ℕ)) → ghosts.eq (Beyond a) (Beyond b) ≡ true → a ≡ b
same_limits None None same = refl
same_limits None (Some b) same = cc
same_limits (Some a) None same = cc
same_limits (Some a) (Some b) same = ap (λ (e : ℕ × ℕ). Some e) (same_ends a b same)

same_box : (a b : Option (ArrayVec (ℕ × ℕ))) → ghosts.eq (Outside a) (Outside b) ≡ true → a ≡ b
same_box None None same = refl
same_box None (Some b) same = cc
same_box (Some a) None same = cc
same_box (Some a) (Some b) same =
    ap (λ (items : List (ℕ × ℕ)). Some (record { items = items })) (same_intervals a.items b.items same)

pub same_refusal : (a b : Refusal) → ghosts.eq a b ≡ true → a ≡ b
same_refusal Syntax Syntax same = refl
same_refusal Long Long same = refl
same_refusal Settled Settled same = refl
same_refusal (User a) (User b) same = ap User (equal_of_same_text a b same)
same_refusal (Exists a) (Exists b) same = ap Exists (equal_of_same_text a b same)
same_refusal (Users a) (Users b) same = ap Users (eqb-true a b same)
same_refusal (Unknown a) (Unknown b) same = ap Unknown (same_words a b same)
same_refusal (Twice a) (Twice b) same = ap Twice (equal_of_same_text a b same)
same_refusal (Stale a m) (Stale b n) same =
    let parts = both (a == b) (m == n) same in
    ap₂ Stale (eqb-true a b parts.0) (eqb-true m n parts.1)
same_refusal (Resolved a) (Resolved b) same = ap Resolved (equal_of_same_text a b same)
same_refusal (Impossible a) (Impossible b) same = ap Impossible (same_words a b same)
same_refusal Wide Wide same = refl
same_refusal (Range a) (Range b) same = ap Range (eqb-true a b same)
same_refusal (Full a) (Full b) same = ap Full (eqb-true a b same)
same_refusal (Beyond a) (Beyond b) same = ap Beyond (same_limits a b same)
same_refusal (Short a) (Short b) same = ap Short (eqb-true a b same)
same_refusal (Unresolved a) (Unresolved b) same = ap Unresolved (equal_of_same_text a b same)
same_refusal Unsettled Unsettled same = refl
same_refusal (NoVariable a) (NoVariable b) same = ap NoVariable (equal_of_same_text a b same)
same_refusal (Numbers a) (Numbers b) same = ap Numbers (eqb-true a b same)
same_refusal (Sum a) (Sum b) same = ap Sum (eqb-true a b same)
same_refusal (Outside a) (Outside b) same = ap Outside (same_box a b same)
same_refusal (Sure a) (Sure b) same = ap Sure (same_words a b same)
same_refusal (Variables a) (Variables b) same = ap Variables (eqb-true a b same)
same_refusal (Taken a) (Taken b) same = ap Taken (equal_of_same_text a b same)
same_refusal (ValueTwice a) (ValueTwice b) same = ap ValueTwice (equal_of_same_text a b same)
same_refusal (RowCount a) (RowCount b) same = ap RowCount (eqb-true a b same)
same_refusal (RowWidth a m) (RowWidth b n) same =
    let parts = both (a == b) (m == n) same in
    ap₂ RowWidth (eqb-true a b parts.0) (eqb-true m n parts.1)
same_refusal (Cells a) (Cells b) same = ap Cells (eqb-true a b same)
same_refusal (Link a) (Link b) same = ap Link (eqb-true a b same)
same_refusal (Uncovered a) (Uncovered b) same = ap Uncovered (equal_of_same_text a b same)
same_refusal (NotRunning a) (NotRunning b) same = ap NotRunning (equal_of_same_text a b same)
same_refusal Memory Memory same = refl
same_refusal a b same = cc

pub refusal_itself : (a : Refusal) → ghosts.eq a a ≡ true
refusal_itself a = laws-law.refl a

pub other_refusal : (a b : Refusal) → ghosts.eq a b ≡ false → a ≡ b → ⊥
other_refusal a b other same =
    let yes : ghosts.eq a b ≡ true = ap (λ (r : Refusal). ghosts.eq a r) (sym same) ∙ refusal_itself a in
    let no : true ≡ false = sym yes ∙ other in
    absurd (cc)

-- ---- the status, or what a user is paid, or the refusal that comes for it

-- the first of some tests and the others
passed : (a b : ℕ) (rest : Bool) → (a == b) && rest ≡ true → (a ≡ b) × (rest ≡ true)
passed a b rest same = let parts = both (a == b) rest same in (eqb-true a b parts.0, parts.1)

same_status : (told : Reply) (a b c d e f g h : ℕ)
    → reply_ghosts.eq told (Status a b c d e f g h) ≡ true → told ≡ Status a b c d e f g h
same_status (Status a b c d e f g h) a' b' c' d' e' f' g' h' same =
    let p = passed a a' _ same in
    let q = passed b b' _ p.1 in
    let r = passed c c' _ q.1 in
    let s = passed d d' _ r.1 in
    let t = passed e e' _ s.1 in
    let u = passed f f' _ t.1 in
    let v = passed g g' _ u.1 in
    let w : h ≡ h' = eqb-true h h' v.1 in
    rw (p.0, q.0, r.0, s.0, t.0, u.0, v.0, w) refl
same_status told a b c d e f g h same = cc

same_refused : (told : Reply) (why : Refusal) → reply_ghosts.eq told (Refused why) ≡ true
    → told ≡ Refused why
same_refused (Refused a) why same = ap Refused (same_refusal a why same)
same_refused told why same = cc

status_itself : (a b c d e f g h : ℕ)
    → reply_ghosts.eq (Status a b c d e f g h) (Status a b c d e f g h) ≡ true
status_itself a b c d e f g h = rw (
  eq-eqb a a refl,
  eq-eqb b b refl,
  eq-eqb c c refl,
  eq-eqb d d refl,
  eq-eqb e e refl,
  eq-eqb f f refl,
  eq-eqb g g refl,
  eq-eqb h h refl,
) refl

refused_itself : (why : Refusal) → reply_ghosts.eq (Refused why) (Refused why) ≡ true
refused_itself why = refusal_itself why

abbrev record_of : List ℕ → ℕ → ℕ → ℕ → Payment
record_of user low high paid = record { user = user; low = low; high = high; paid = paid }

same_payment : (a b : Payment)
    → same_text a.user b.user && ((a.low == b.low) && ((a.high == b.high) && (a.paid == b.paid)))
    ≡ true → a ≡ b
same_payment a b same =
    let p = both (same_text a.user b.user) _ same in
    let q = passed a.low b.low _ p.1 in
    let r = passed a.high b.high _ q.1 in
    let s : a.paid ≡ b.paid = eqb-true a.paid b.paid r.1 in
    payments_alike a.user b.user a.low b.low a.high b.high a.paid b.paid
    (equal_of_same_text a.user b.user p.0) q.0 r.0 s
  where
    payments_alike : (user user' : List ℕ) (low low' high high' paid paid' : ℕ) → user ≡ user'
        → low ≡ low' → high ≡ high' → paid ≡ paid'
        → record_of user low high paid ≡ record_of user' low' high' paid'
    payments_alike user user' low low' high high' paid paid' p q r s = rw (p, q, r, s) refl

same_paid : (told : Reply) (payment : Payment) → reply_ghosts.eq told (Paid payment) ≡ true
    → told ≡ Paid payment
same_paid (Paid a) payment same = ap Paid (same_payment a payment same)
same_paid told payment same = cc

paid_itself : (payment : Payment) → reply_ghosts.eq (Paid payment) (Paid payment) ≡ true
paid_itself payment = rw (
  same_text_of_equal payment.user payment.user refl,
  eq-eqb payment.low payment.low refl,
  eq-eqb payment.high payment.high refl,
  eq-eqb payment.paid payment.paid refl,
) refl

-- a reply that equals another alone, or the refusal that comes for it
module _ (reply : Reply) (alike : (told : Reply) → reply_ghosts.eq told reply ≡ true → told ≡ reply)
    (itself : reply_ghosts.eq reply reply ≡ true) where
  one_reply : (o : Option Refusal) (expected told : Reply)
      → MatchOption o (expected ≡ reply) (λ why. expected ≡ Refused why)
      → reply_ghosts.eq told expected ≡ true
      → MatchOption o (told ≡ reply) (λ why. told ≡ Refused why)
  one_reply None expected told is same =
      alike told (subst (λ (r : Reply). reply_ghosts.eq told r ≡ true) is same)
  one_reply (Some why) expected told is same = same_refused told why
      (subst (λ (r : Reply). reply_ghosts.eq told r ≡ true) is same)

  reply_is_one : (o : Option Refusal) (expected told : Reply)
      → MatchOption o (expected ≡ reply) (λ why. expected ≡ Refused why)
      → MatchOption o (told ≡ reply) (λ why. told ≡ Refused why)
      → reply_ghosts.eq told expected ≡ true
  reply_is_one None expected told is also = rw (is, also) itself
  reply_is_one (Some why) expected told is also = rw (is, also) (refused_itself why)

module _ (a b c d e f g h : ℕ) where
  pub one_status : (o : Option Refusal) (expected told : Reply)
      → MatchOption o (expected ≡ Status a b c d e f g h) (λ why. expected ≡ Refused why)
      → reply_ghosts.eq told expected ≡ true
      → MatchOption o (told ≡ Status a b c d e f g h) (λ why. told ≡ Refused why)
  one_status = one_reply (Status a b c d e f g h) (λ told. same_status told a b c d e f g h)
      (status_itself a b c d e f g h)

  pub status_is_one : (o : Option Refusal) (expected told : Reply)
      → MatchOption o (expected ≡ Status a b c d e f g h) (λ why. expected ≡ Refused why)
      → MatchOption o (told ≡ Status a b c d e f g h) (λ why. told ≡ Refused why)
      → reply_ghosts.eq told expected ≡ true
  status_is_one = reply_is_one (Status a b c d e f g h) (λ told. same_status told a b c d e f g h)
      (status_itself a b c d e f g h)

module _ (payment : Payment) where
  pub one_payment : (o : Option Refusal) (expected told : Reply)
      → MatchOption o (expected ≡ Paid payment) (λ why. expected ≡ Refused why)
      → reply_ghosts.eq told expected ≡ true
      → MatchOption o (told ≡ Paid payment) (λ why. told ≡ Refused why)
  one_payment =
      one_reply (Paid payment) (λ told. same_paid told payment) (paid_itself payment)

  pub payment_is_one : (o : Option Refusal) (expected told : Reply)
      → MatchOption o (expected ≡ Paid payment) (λ why. expected ≡ Refused why)
      → MatchOption o (told ≡ Paid payment) (λ why. told ≡ Refused why)
      → reply_ghosts.eq told expected ≡ true
  payment_is_one =
      reply_is_one (Paid payment) (λ told. same_paid told payment) (paid_itself payment)
