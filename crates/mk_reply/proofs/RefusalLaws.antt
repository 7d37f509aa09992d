-- Each refusal is read from its text, and from no other.
use Rattle.std.specs.Prelude.{◌≡◌, ℕ, ◌^◌, List, [], ◌++◌, codes, decimal, Option, Some, None, ◌==◌}
use Rattle.std.specs.Prelude.{◌&&◌, nat_le, true}
use Rattle.arrayvec.specs.ArrayVec.{ArrayVec}
use Rattle.std.proofs.Common.{refl, sym, ap, subst, lit≤, arith, append-nil, inr}
use Rattle.std.proofs.lemmas.Bool.{eqb-true, eq-eqb, leb-true, le-leb}
use Rattle.mk_text.specs.Numbers.{IsShort, IsLong, IsNarrow}
use Rattle.mk_text.specs.Words.{after, EndsWord}
use Rattle.mk_text.specs.Reading.{Read, both, behind, made, given, nothing, read_short}
use Rattle.mk_text.proofs.ReadingLaws.{Took, Reads, Spelled, BothFit, both_text, behind_text, both_reads, behind_reads, passed_reads, reads_same, spelled_by, spelled_alone, choose_takes, nothing_takes, made_last}
use Rattle.mk_text.proofs.PartLaws.{EndsSeveral, name_reads, number_reads, short_reads, pair_reads, limits_reads, intervals_reads}
use Rattle.mk_text.proofs.WordLemmas.{both_true}
use Rattle.mk_net.specs.Bounds.{max_variables, max_users}
use Rattle.mk_text.specs.Numbers.{AreIntervals, intervals_text}
use Rattle.mk_reply.specs.Refusals.{refusal_text, given_in, IsUsersLimit, IsRefusal}
use Rattle.mk_reply.specs.Reading.{read_users_limit, read_width, not_added_forms, miscounted_forms}
use Rattle.mk_reply.specs.Reading.{read_not_added, read_miscounted}
use Rattle.mk_reply.specs.Reading.{read_long, read_narrow, read_held, read_stale, plain_forms, named_forms, paired_forms, numbered_forms, spread_out_forms, boxed, read_spread_out, read_numbered, read_paired, read_named, read_refusal}
use Rattle.mk_reply.specs.declared.refusal.Refusal.{Refusal}
use Rattle.mk_reply.specs.declared.refusal.Refusal.TheVariants.{Syntax, Long, Settled, User, Exists, Users, Unknown, Twice, Stale, Resolved, Impossible, Wide, Range, Full, Beyond, Short, Unresolved, NoVariable, Numbers, Sum, Outside, Sure, Memory}
use Rattle.mk_reply.specs.declared.refusal.Refusal.TheVariants.{Variables, Taken, ValueTwice}
use Rattle.mk_reply.specs.declared.refusal.Refusal.TheVariants.{RowCount, RowWidth, Cells, Link}
use Rattle.mk_reply.specs.declared.refusal.Refusal.TheVariants.{Uncovered, NotRunning, Unsettled}

pub long_reads : Reads read_long decimal IsLong EndsWord
unfolding read_long
long_reads = number_reads (2 ^ 63) (lit≤ tt)

pub narrow_reads : Reads read_narrow decimal IsNarrow EndsWord
unfolding read_narrow
narrow_reads = number_reads (2 ^ 32) (lit≤ tt)

limit_passed : (n : ℕ) → nat_le 1 n && nat_le n max_users ≡ true → IsUsersLimit n
limit_passed n passes =
    let parts = both_true (nat_le 1 n) (nat_le n max_users) passes in
    record { positive = leb-true 1 n (parts.0); most = leb-true n max_users (parts.1) }

limit_passes : (n : ℕ) → IsUsersLimit n → nat_le 1 n && nat_le n max_users ≡ true
limit_passes n fits = rw (le-leb 1 n (fits.positive), le-leb n max_users (fits.most)) refl

users_limit_reads : Reads read_users_limit decimal IsUsersLimit EndsWord
unfolding read_users_limit
users_limit_reads = reads_same (passed_reads (λ n. nat_le 1 n && nat_le n max_users) narrow_reads)
    (λ n fits. limit_passed n (fits.1)) (λ n fits. (omega (arith, fits.most), limit_passes n fits))

held_is_narrow : (n : ℕ) → n ≡ max_variables → IsNarrow n
held_is_narrow n same = omega (arith, same)

abbrev IsHeld : ℕ → Type 0
IsHeld held = held ≡ max_variables

held_reads : Reads read_held decimal IsHeld EndsWord
unfolding read_held
held_reads = reads_same (passed_reads (λ n. n == max_variables) narrow_reads) (λ n fits. eqb-true n max_variables (fits.1))
    (λ n same. (held_is_narrow n same, eq-eqb n max_variables same))

abbrev stale_text : ℕ × ℕ → List ℕ
stale_text = both_text decimal (behind_text (codes " ") decimal)

stale_parts : Reads (both read_narrow (behind (codes " ") read_long)) stale_text (BothFit IsNarrow IsLong) EndsWord
stale_parts = both_reads narrow_reads (behind_reads (codes " ") long_reads) (λ now rest fits ends. refl)

abbrev OfRefusal : List ℕ × Read Refusal → Type 0
OfRefusal = Spelled refusal_text IsRefusal

alone : (word : List ℕ) (why : Refusal) → word ≡ refusal_text why → IsRefusal why → OfRefusal (word, given why)
alone = spelled_alone refusal_text IsRefusal

stale_form : OfRefusal (codes "stale ", read_stale)
unfolding read_stale
stale_form = spelled_by (codes "stale ") (λ parts. Stale (parts.0) (parts.1)) stale_parts (λ parts fits. (refl, fits))

width_parts : Reads (both read_short (behind (codes " ") read_short)) stale_text
    (BothFit IsShort IsShort) EndsWord
width_parts =
    both_reads short_reads (behind_reads (codes " ") short_reads) (λ given rest fits ends. refl)

width_form : OfRefusal (codes "width ", read_width)
unfolding read_width
width_form = spelled_by (codes "width ") (λ parts. RowWidth (parts.0) (parts.1)) width_parts
    (λ parts fits. (refl, fits))

abbrev Takes : Read Refusal → Type 0
Takes read = (bytes : List ℕ) (why : Refusal) (rest : List ℕ) → read bytes ≡ Some (why, rest) → Took refusal_text IsRefusal bytes why rest

-- intervals as a reply holds them, and back
pub boxed_same : (intervals : Option (ArrayVec (ℕ × ℕ))) → boxed (given_in intervals) ≡ intervals
boxed_same None = refl
boxed_same (Some intervals) = refl

pub given_same : (intervals : Option (List (ℕ × ℕ))) → given_in (boxed intervals) ≡ intervals
given_same None = refl
given_same (Some intervals) = refl

miscounted_takes : Takes read_miscounted
unfolding read_miscounted
miscounted_takes =
    let variables : OfRefusal (codes "variables ", made (λ held. Variables held) read_held)
    = spelled_by (codes "variables ") (λ held. Variables held) held_reads
    (λ held fits. (refl, fits)) in
    let rows : OfRefusal (codes "rows ", made (λ given. RowCount given) read_short)
    = spelled_by (codes "rows ") (λ given. RowCount given) short_reads
    (λ given fits. (refl, fits)) in
    let cells : OfRefusal (codes "cells ", made (λ total. Cells total) read_short)
    = spelled_by (codes "cells ") (λ total. Cells total) short_reads
    (λ total fits. (refl, fits)) in
    let link : OfRefusal (codes "link ", made (λ number. Link number) read_short)
    = spelled_by (codes "link ") (λ number. Link number) short_reads
    (λ number fits. (refl, fits)) in
    choose_takes refusal_text IsRefusal miscounted_forms nothing
    (variables, (rows, (width_form, (cells, (link, tt)))))
    (nothing_takes refusal_text IsRefusal)

not_added_takes : Takes read_not_added
unfolding read_not_added
not_added_takes = choose_takes refusal_text IsRefusal not_added_forms read_miscounted (
  spelled_by (codes "taken ") (λ variable. Taken variable) name_reads (λ name fits. (refl, fits)),
  (
    spelled_by (codes "value ") (λ value. ValueTwice value) name_reads (λ name fits. (refl, fits)),
    (
      spelled_by (codes "cover ") (λ variable. Uncovered variable) name_reads
          (λ name fits. (refl, fits)),
      (
        spelled_by (codes "running ") (λ variable. NotRunning variable) name_reads
            (λ name fits. (refl, fits)),
        tt,
      ),
    ),
  ),
) miscounted_takes

spread_out_takes : Takes read_spread_out
unfolding read_spread_out
spread_out_takes = choose_takes refusal_text IsRefusal spread_out_forms read_not_added (
  spelled_by (codes "numbers ") (λ given. Numbers given) short_reads (λ given fits. (refl, fits)),
  (
    spelled_by (codes "sum ") (λ sum. Sum sum) short_reads (λ sum fits. (refl, fits)),
    (
      spelled_by (codes "outside ") (λ intervals. Outside (boxed intervals)) intervals_reads
          (λ intervals fits. (ap (λ (given : Option (List (ℕ × ℕ))). codes "outside " ++ intervals_text given) (sym (given_same intervals)), subst AreIntervals (sym (given_same intervals)) fits)),
      tt,
    ),
  ),
)
    not_added_takes

numbered_takes : Takes read_numbered
unfolding read_numbered
numbered_takes = choose_takes refusal_text IsRefusal numbered_forms read_spread_out (
  spelled_by (codes "users ") (λ held. Users held) users_limit_reads (λ held fits. (refl, fits)),
  (
    stale_form,
    (
      spelled_by (codes "range ") (λ number. Range number) narrow_reads (λ number fits. (refl, fits)),
      (
        spelled_by (codes "full ") (λ held. Full held) narrow_reads (λ held fits. (refl, fits)),
        (
          spelled_by (codes "beyond ") (λ limits. Beyond limits) limits_reads (λ limits fits. (refl, fits)),
          (spelled_by (codes "short ") (λ bits. Short bits) long_reads (λ bits fits. (refl, fits)), tt),
        ),
      ),
    ),
  ),
) spread_out_takes

paired_takes : Takes read_paired
unfolding read_paired
paired_takes = choose_takes refusal_text IsRefusal paired_forms read_numbered (
  spelled_by (codes "name ") (λ pair. Unknown pair) pair_reads (λ pair fits. (refl, fits)),
  (
    spelled_by (codes "impossible ") (λ pair. Impossible pair) pair_reads (λ pair fits. (refl, fits)),
    (spelled_by (codes "sure ") (λ pair. Sure pair) pair_reads (λ pair fits. (refl, fits)), tt),
  ),
) numbered_takes

named_takes : Takes read_named
unfolding read_named
named_takes = choose_takes refusal_text IsRefusal named_forms read_paired (
  spelled_by (codes "user ") (λ user. User user) name_reads (λ user fits. (refl, fits)),
  (
    spelled_by (codes "exists ") (λ user. Exists user) name_reads (λ user fits. (refl, fits)),
    (
      spelled_by (codes "twice ") (λ variable. Twice variable) name_reads (λ variable fits. (refl, fits)),
      (
        spelled_by (codes "resolved ") (λ variable. Resolved variable) name_reads (λ variable fits. (refl, fits)),
        (
          spelled_by (codes "open ") (λ variable. Unresolved variable) name_reads (λ variable fits. (refl, fits)),
          (spelled_by (codes "variable ") (λ variable. NoVariable variable) name_reads (λ variable fits. (refl, fits)), tt),
        ),
      ),
    ),
  ),
) paired_takes

refusal_takes : Takes read_refusal
unfolding read_refusal
refusal_takes = choose_takes refusal_text IsRefusal plain_forms read_named (
  alone (codes "syntax") Syntax refl tt,
  (
    alone (codes "long") Long refl tt,
    (
      alone (codes "settled") Settled refl tt,
      (
        alone (codes "unsettled") Unsettled refl tt,
        (alone (codes "wide") Wide refl tt, (alone (codes "memory") Memory refl tt, tt)),
      ),
    ),
  ),
) named_takes

ends_several : EndsSeveral []
unfolding after
ends_several = record { word = refl; ends = record { stopped = inr refl } }

refusal_last : (why : Refusal) → IsRefusal why → read_refusal (refusal_text why) ≡ Some (why, [])
unfolding read_refusal read_named read_paired read_numbered read_spread_out read_not_added
    read_miscounted read_stale read_width after
refusal_last Syntax fits = refl
refusal_last Long fits = refl
refusal_last Settled fits = refl
refusal_last Unsettled fits = refl
refusal_last (User user) fits = made_last (λ user. User user) name_reads user fits refl
refusal_last (Exists user) fits = made_last (λ user. Exists user) name_reads user fits refl
refusal_last (Users held) fits = made_last (λ held. Users held) users_limit_reads held fits refl
refusal_last (Unknown pair) fits = made_last (λ pair. Unknown pair) pair_reads pair fits refl
refusal_last (Twice variable) fits = made_last (λ variable. Twice variable) name_reads variable fits refl
refusal_last (Stale named now) fits = made_last (λ parts. Stale (parts.0) (parts.1)) stale_parts (named, now) fits refl
refusal_last (Resolved variable) fits = made_last (λ variable. Resolved variable) name_reads variable fits refl
refusal_last (Impossible pair) fits = made_last (λ pair. Impossible pair) pair_reads pair fits refl
refusal_last Wide fits = refl
refusal_last (Range number) fits = made_last (λ number. Range number) narrow_reads number fits refl
refusal_last (Full held) fits = made_last (λ held. Full held) narrow_reads held fits refl
refusal_last (Beyond limits) fits = made_last (λ limits. Beyond limits) limits_reads limits fits refl
refusal_last (Short bits) fits = made_last (λ bits. Short bits) long_reads bits fits refl
refusal_last (Unresolved variable) fits = made_last (λ variable. Unresolved variable) name_reads variable fits refl
refusal_last (NoVariable variable) fits = made_last (λ variable. NoVariable variable) name_reads variable fits refl
refusal_last (Numbers given) fits = made_last (λ given. Numbers given) short_reads given fits refl
refusal_last (Sum sum) fits = made_last (λ sum. Sum sum) short_reads sum fits refl
refusal_last (Outside None) fits = made_last (λ intervals. Outside (boxed intervals)) intervals_reads None fits ends_several
refusal_last (Outside (Some intervals)) fits = made_last (λ intervals. Outside (boxed intervals)) intervals_reads (Some (intervals.items)) fits ends_several
refusal_last (Sure pair) fits = made_last (λ pair. Sure pair) pair_reads pair fits refl
refusal_last (Variables held) fits = made_last (λ held. Variables held) held_reads held fits refl
refusal_last (Taken variable) fits =
    made_last (λ variable. Taken variable) name_reads variable fits refl
refusal_last (ValueTwice value) fits =
    made_last (λ value. ValueTwice value) name_reads value fits refl
refusal_last (RowCount given) fits =
    made_last (λ given. RowCount given) short_reads given fits refl
refusal_last (RowWidth row given) fits =
    made_last (λ parts. RowWidth (parts.0) (parts.1)) width_parts (row, given) fits refl
refusal_last (Cells total) fits = made_last (λ total. Cells total) short_reads total fits refl
refusal_last (Link number) fits = made_last (λ number. Link number) short_reads number fits refl
refusal_last (Uncovered variable) fits =
    made_last (λ variable. Uncovered variable) name_reads variable fits refl
refusal_last (NotRunning variable) fits =
    made_last (λ variable. NotRunning variable) name_reads variable fits refl
refusal_last Memory fits = refl

-- a refusal is the last thing of a text
abbrev pub IsEnd : List ℕ → Type 0
IsEnd rest = rest ≡ []

pub refusal_reads : Reads read_refusal refusal_text IsRefusal IsEnd
refusal_reads = record {
  takes = refusal_takes;
  again = λ why rest fits ends. rw (ends, append-nil (refusal_text why)) (refusal_last why fits);
}
