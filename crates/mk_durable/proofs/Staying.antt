-- An honest store stays honest.
use Rattle.std.proofs.Common.{◌≡◌, inl, inr, ℕ, ◌+◌, ◌-◌, List, [], ◌++◌, length, take, drop}
use Rattle.std.proofs.Common.{⊎_elim, refl, sym, ◌∙◌, ap, subst, arith, take-append-drop}
use Rattle.std.proofs.Math.Seq.{take-append-add}
use Rattle.mk_exact.specs.Market.{Market}
use Rattle.mk_rules.specs.Standings.{IsMarket}
use Rattle.mk_rules.proofs.Keeps.{opening_present}
use Rattle.mk_restore.specs.Restoring.{Changes, changes_of}
use Rattle.mk_restore.proofs.Joined.{restores_join}
use Rattle.mk_restore.proofs.Taken.{front_stands}
use Rattle.mk_journal.specs.Store.{StandsFor, IsStarted}
use Rattle.mk_durable.specs.Recovery.{IsHonest}
use Rattle.mk_durable.specs.Laws.{FrontsAreHonest, StaysHonest}
use Rattle.mk_durable.proofs.Histories.{records_behind, first_records}

-- a file that stands for no record gives the opening
pub none_honest : (market : Market) (bytes file : List ℕ) → IsMarket market
    → StandsFor bytes [] file → IsHonest market bytes file
none_honest market bytes file is_market stands_for = record {
  records = [];
  history = [];
  gives = record {
    stands_for = stands_for;
    taken = record { changes = []; are = tt; restores = refl };
  };
  stands = opening_present market is_market;
}

-- the first of the records of a run behind those before it
pub front_honest : FrontsAreHonest
front_honest market bytes records more old new lines replies least c taken stands run are no_fewer
    front =
    let changes : Changes = changes_of market old lines replies in
    let k : ℕ = front.count - length records in
    let size : front.count ≡ length records + k = omega (arith, no_fewer, front.enough) in
    let first : take front.count (records ++ more) ≡ records ++ take k more =
    ap (λ (n : ℕ). take n (records ++ more)) size ∙ take-append-add records more k in
    let middle = front_stands market old new lines replies (take k changes) (drop k changes) stands
    run (sym (take-append-drop k changes)) in
    record {
      records = records ++ take k more;
      history = middle.0;
      gives = record {
        stands_for = inr (subst (λ (rs : List (List ℕ)). IsStarted bytes rs c) first front.started);
        taken = record {
          changes = taken.changes ++ take k changes;
          are = records_behind records (take k more) taken.changes (take k changes) taken.are
              (first_records k more changes are);
          restores = restores_join market [] old.history middle.0 taken.changes (take k changes)
              taken.restores middle.1;
        };
      };
      stands = middle.2;
    }

pub stays_honest : StaysHonest
stays_honest = record {
  empty = λ market bytes is_market.
      none_honest market bytes [] is_market (inl (inl (omega arith), refl));
  opening = λ market bytes file c is_market left.
      ⊎_elim (λ honest. honest) (λ both. none_honest market bytes c is_market both.1) left;
  running = front_honest;
}
