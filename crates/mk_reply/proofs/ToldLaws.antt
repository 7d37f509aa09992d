-- What is read of prices, of a position and of a status.
use Rattle.std.specs.Prelude.{◌≡◌, ℕ, List, [], ◌++◌, codes, decimal}
use Rattle.std.proofs.Common.{refl, inr}
use Rattle.mk_text.specs.Numbers.{IsLong, IsNarrow}
use Rattle.mk_text.specs.Words.{after, EndsWord}
use Rattle.mk_text.specs.Reading.{Read, both, behind}
use Rattle.mk_text.proofs.ReadingLaws.{Reads, Spelled, BothFit, both_text, behind_text}
use Rattle.mk_text.proofs.ReadingLaws.{both_reads, behind_reads, spelled_by}
use Rattle.mk_text.proofs.PartLaws.{EndsSeveral}
use Rattle.mk_text.proofs.SpanLaws.{all_prices_reads, all_ends_reads}
use Rattle.mk_reply.specs.Replies.{reply_text, of_text, IsReply}
use Rattle.mk_reply.specs.Reading.{read_long, read_narrow, read_all_prices, read_position, read_of}
use Rattle.mk_reply.specs.Reading.{StatusParts, status_of, read_transfers, read_status}
use Rattle.mk_reply.proofs.RefusalLaws.{long_reads, narrow_reads}
use Rattle.mk_reply.specs.declared.reply.Reply.{Reply}
use Rattle.mk_reply.specs.declared.reply.Reply.TheVariants.{Prices, Position}

abbrev OfReply : List ℕ × Read Reply → Type 0
OfReply = Spelled reply_text IsReply

pub all_prices_form : OfReply (codes "prices ", read_all_prices)
unfolding read_all_prices
all_prices_form = spelled_by (codes "prices ") (λ xs. Prices (record { items = xs }))
    all_prices_reads (λ xs fits. (refl, fits))

pub position_form : OfReply (codes "position ", read_position)
unfolding read_position
position_form = spelled_by (codes "position ") (λ xs. Position (record { items = xs }))
    all_ends_reads (λ xs fits. (refl, fits))

-- where a list is the end of a line
pub ends_line : EndsSeveral []
unfolding after
ends_line = record { word = refl; ends = record { stopped = inr refl } }

-- the parts of a status
abbrev Of : ℕ × ℕ → Type 0
Of = BothFit IsNarrow IsNarrow

of_reads : Reads read_of of_text Of EndsWord
unfolding read_of
of_reads =
    both_reads narrow_reads (behind_reads (codes " of ") narrow_reads) (λ most rest fits ends. refl)

abbrev transfers_text : (ℕ × ℕ) × (ℕ × ℕ) → List ℕ
transfers_text =
    behind_text (codes " transfers ") (both_text of_text (behind_text (codes " open ") of_text))

transfers_reads : Reads read_transfers transfers_text (BothFit Of Of) EndsWord
unfolding read_transfers
transfers_reads = behind_reads (codes " transfers ")
    (both_reads of_reads (behind_reads (codes " open ") of_reads) (λ more rest fits ends. refl))

abbrev users_text : ℕ × ((ℕ × ℕ) × ((ℕ × ℕ) × (ℕ × ℕ))) → List ℕ
users_text = both_text decimal (behind_text (codes " trades ") (both_text of_text transfers_text))

users_reads : Reads (both read_narrow (behind (codes " trades ") (both read_of read_transfers)))
    users_text (BothFit IsNarrow (BothFit Of (BothFit Of Of))) EndsWord
users_reads =
    let trades = both_reads of_reads transfers_reads (λ more rest fits ends. refl) in
    both_reads narrow_reads (behind_reads (codes " trades ") trades) (λ more rest fits ends. refl)

abbrev pub status_text : StatusParts → List ℕ
status_text = both_text decimal (behind_text (codes " users ") users_text)

abbrev pub StatusFits : StatusParts → Type 0
StatusFits = BothFit IsLong (BothFit IsNarrow (BothFit Of (BothFit Of Of)))

pub status_parts : Reads
    (both read_long (behind (codes " users ")
    (both read_narrow (behind (codes " trades ") (both read_of read_transfers)))))
    status_text StatusFits EndsWord
status_parts =
    both_reads long_reads (behind_reads (codes " users ") users_reads) (λ more rest fits ends. refl)

status_made : (parts : StatusParts) → StatusFits parts →
    (codes "status at " ++ status_text parts ≡ reply_text (status_of parts))
    × IsReply (status_of parts)
status_made (at, (users, ((trades, most), ((transfers, more), (unresolved, all))))) fits = (
  refl,
  (
    fits.0,
    fits.1.0,
    fits.1.1.0.0,
    fits.1.1.0.1,
    fits.1.1.1.0.0,
    fits.1.1.1.0.1,
    fits.1.1.1.1.0,
    fits.1.1.1.1.1,
  ),
)

pub status_form : OfReply (codes "status at ", read_status)
unfolding read_status
status_form = spelled_by (codes "status at ") status_of status_parts status_made
