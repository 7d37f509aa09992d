use Rattle.std.proofs.Common.{ℕ, ◌≡◌, ◌+◌, Some, slice_get, refl, ap, subst}
use Rattle.std.proofs.lemmas.Option.{slice_get-get_or}
use Rattle.mk_record.specs.Members.{names_of}
use Rattle.mk_settling.proofs.Told.{one_told}
use Rattle.mk_settling.proofs.payments.tell.Goals as goal

pub loop-row-preserved : goal.loop-row-preserved
loop-row-preserved g c =
    let names = names_of c.args.users.now in
    let place = c.loop-row.invariant.counted in
    record {
      told = one_told names c.args.rows.now c.loop-row.row-index c.loop-row.payments
          c.push.new.self _ _ c.loop-row.invariant.told
          (subst (λ (n : ℕ). slice_get names n ≡ Some c.name.result) place c.name.ensures)
          (slice_get-get_or c.args.rows.now c.loop-row.row-index _ c.loop-row-test.true)
          refl refl c.push.ensures;
      counted = ap (λ (n : ℕ). n + 1) place;
    }
