use Rattle.std.proofs.Common.{arith}
use Rattle.std.proofs.lemmas.List.{take_rest}
use Rattle.mk_journal.proofs.Parsing.{found_at, no_record, too_short}
use Rattle.mk_journal.proofs.read.first_record.Goals as goal
use Rattle.mk_journal.proofs.read.first_record.Goals.{in_default, in-len4-up+else-len-ge1, else-len-ge1-via-then-len-ge1+then-len-le-MAX_RECORD_BYTES+else-len-rest, else-len-ge1-via-then-len-ge1+else-len-le-MAX_RECORD_BYTES, else-len-ge1-via-else-len-ge1}

pub returns-then-len-rest : goal.returns-then-len-rest
returns-then-len-rest c =
    found_at c.args.bytes.now _ _ c.from_be_bytes-len.result (take_rest c.args.bytes.now 4) (take_rest _ c.from_be_bytes-len.result) c.in-len4-up.len_at_least
    (λ i. let fits = c.type_inv.bytes i in omega arith) c.from_be_bytes-len.ensures c.if-len-ge1.true c.if-len-le-MAX_RECORD_BYTES.true c.if-len-rest.true

pub returns : goal.returns
returns c = elim c.if-bytes-lt4.branch [
  | in_default w ↦ too_short c.args.bytes.now w.in_default.len_below
  | in-len4-up+else-len-ge1 w ↦ no_record c.args.bytes.now _ w.from_be_bytes-len.result (take_rest c.args.bytes.now 4) w.in-len4-up.len_at_least w.from_be_bytes-len.ensures (λ least most.
      elim w.else-len-ge1.branch [
        | else-len-ge1-via-then-len-ge1+then-len-le-MAX_RECORD_BYTES+else-len-rest w' ↦ w'.if-len-rest.false
        | else-len-ge1-via-then-len-ge1+else-len-le-MAX_RECORD_BYTES w' ↦ absurd (omega (arith, w'.if-len-le-MAX_RECORD_BYTES.false))
        | else-len-ge1-via-else-len-ge1 w' ↦ absurd (omega (arith, w'.if-len-ge1.false))
      ])
]
