use Rattle.std.proofs.Common.{map, string_bytes, ap, ◌∙◌, inl, inr}
use Rattle.mk_io.specs.Status.{code_of}
use Rattle.daggre.specs.Words.{market_named, store_named}
use Rattle.daggre.proofs.Calling.{asked_here, named_here, nothing_here}
use Rattle.daggre.proofs.call.call.Goals as goal

pub returns-in-Ok-Some-clause-refused : goal.returns-in-Ok-Some-clause-refused
returns-in-Ok-Some-clause-refused g c = λ name file fault asked told given.
    let known = rw c.in-Ok-Some.field-0-is at c.in-Ok-Some.ensures.some in
    let same = ap (map (λ w. w.now)) c.as_slice-in-Ok-Some.ensures.value ∙ c.lent.ensures
    ∙ ap (map string_bytes) c.as_slice.ensures.value in
    record {
      status = c.program.result;
      is_code = c.code.ensures;
      holds = c.program.ensures.refused name file fault
          (named_here market_named _ _ _ _ known same asked) told given;
    }

pub returns-in-Ok-Some-clause-sample : goal.returns-in-Ok-Some-clause-sample
returns-in-Ok-Some-clause-sample g c = λ n asked.
    let known = rw c.in-Ok-Some.field-0-is at c.in-Ok-Some.ensures.some in
    let same = ap (map (λ w. w.now)) c.as_slice-in-Ok-Some.ensures.value ∙ c.lent.ensures
    ∙ ap (map string_bytes) c.as_slice.ensures.value in
    record {
      status = c.program.result;
      is_code = c.code.ensures;
      holds = c.program.ensures.sample n (asked_here _ _ _ _ known same asked);
    }

pub returns-in-Ok-Some-clause-unread : goal.returns-in-Ok-Some-clause-unread
returns-in-Ok-Some-clause-unread g c = λ never.
    let known = rw c.in-Ok-Some.field-0-is at c.in-Ok-Some.ensures.some in
    let same = ap (map (λ w. w.now)) c.as_slice-in-Ok-Some.ensures.value ∙ c.lent.ensures
    ∙ ap (map string_bytes) c.as_slice.ensures.value in
    c.program.ensures.unread (nothing_here market_named _ _ _ known same never)

pub returns-in-Ok-Some-clause-kept : goal.returns-in-Ok-Some-clause-kept
returns-in-Ok-Some-clause-kept g c = λ name store file stored all asked told_file told_all
    told_stored honest.
    let known = rw c.in-Ok-Some.field-0-is at c.in-Ok-Some.ensures.some in
    let same = ap (map (λ w. w.now)) c.as_slice-in-Ok-Some.ensures.value ∙ c.lent.ensures
    ∙ ap (map string_bytes) c.as_slice.ensures.value in
    c.program.ensures.kept name store file stored all (asked_here _ _ _ _ known same asked)
    told_file told_all told_stored honest

pub returns-in-Ok-Some-clause-keep_complete : goal.returns-in-Ok-Some-clause-keep_complete
returns-in-Ok-Some-clause-keep_complete g c = λ name store file stored all asked told_file told_all
    told_stored honest ok within disk_steady inputs_steady sink_steady.
    let known = rw c.in-Ok-Some.field-0-is at c.in-Ok-Some.ensures.some in
    let same = ap (map (λ w. w.now)) c.as_slice-in-Ok-Some.ensures.value ∙ c.lent.ensures
    ∙ ap (map string_bytes) c.as_slice.ensures.value in
    elim (c.program.ensures.keep_complete name store file stored all
    (asked_here _ _ _ _ known same asked) told_file told_all told_stored honest ok within
    disk_steady inputs_steady sink_steady) [
      | inl e ↦ inl (c.code.ensures ∙ ap code_of e)
      | inr e ↦ inr (c.code.ensures ∙ ap code_of e)
    ]

pub returns-in-Ok-Some-clause-unkept : goal.returns-in-Ok-Some-clause-unkept
returns-in-Ok-Some-clause-unkept g c = λ never.
    let known = rw c.in-Ok-Some.field-0-is at c.in-Ok-Some.ensures.some in
    let same = ap (map (λ w. w.now)) c.as_slice-in-Ok-Some.ensures.value ∙ c.lent.ensures
    ∙ ap (map string_bytes) c.as_slice.ensures.value in
    c.program.ensures.unkept (nothing_here store_named _ _ _ known same never)

pub returns-in-Ok-Some-clause-causes : goal.returns-in-Ok-Some-clause-causes
returns-in-Ok-Some-clause-causes g c = λ never.
    let known = rw c.in-Ok-Some.field-0-is at c.in-Ok-Some.ensures.some in
    let same = ap (map (λ w. w.now)) c.as_slice-in-Ok-Some.ensures.value ∙ c.lent.ensures
    ∙ ap (map string_bytes) c.as_slice.ensures.value in
    record {
      status = c.program.result;
      is_code = c.code.ensures;
      holds = c.program.ensures.causes (nothing_here store_named _ _ _ known same never);
    }
