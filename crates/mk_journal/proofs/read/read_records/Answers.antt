use Rattle.std.proofs.Common.{◌≡◌, [], ◌∷◌, ◌++◌, ◌∙◌, ap, length, length-append, rules}
use Rattle.std.proofs.lemmas.List.{map_push}
use Rattle.mk_journal.specs.Opening.{contents}
use Rattle.mk_journal.proofs.Parsing.{pushed, are_more, farther}
use Rattle.mk_journal.proofs.read.read_records.Goals as goal

pub loop-after-preserved : goal.loop-after-preserved
loop-after-preserved c =
    let v = c.in_ok-to_vec.field-0 in
    let found = c.in-Some-first_record.ensures in
    let same : v.items ≡ c.in-Some-first_record.record.now = search rules in
    let more : contents c.push.new.self.items ≡ contents c.loop-after.records.items ++ c.in-Some-first_record.record.now ∷ [] =
    ap contents c.in_ok-push.ensures.items ∙ map_push (λ v. v.items) c.loop-after.records.items v ∙ ap (λ r. contents c.loop-after.records.items ++ r ∷ []) same in
    record {
      bytes_are = pushed _ _ _ _ _ _ _ c.loop-after.invariant.bytes_are c.in-Some.ensures found.2 more;
      are = are_more _ _ _ c.loop-after.invariant.are found.0 more;
      far = farther _ _ _ _ _ _ c.loop-after.invariant.far c.in-Some.ensures found.2 found.0 (ap length c.in_ok-push.ensures.items ∙ length-append c.loop-after.records.items (v ∷ []));
      some = λ _. found.1;
    }
