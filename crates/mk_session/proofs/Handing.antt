-- Runs that hand their market back.
use Rattle.std.proofs.Common.{◌≡◌, ℕ, List, Option, Result, Ok, Err, MatchResult, IfErr}
use Rattle.std.proofs.Common.{◌⊎◌, inl, inr, refl, sym, subst}
use Rattle.mk_io.specs.declared.status.Status.{Status}
use Rattle.mk_io.specs.declared.status.Status.TheVariants.{Done, Memory}
use Rattle.mk_exact.specs.Market.{Market}
use Rattle.mk_file.specs.declared.fault.FileFault.{FileFault}
use Rattle.mk_file.specs.File.{file_of}
use Rattle.mk_market.specs.Trading.{Trading, IsAt}
use Rattle.mk_session.specs.Outcome.{Opened, Outcome, IsHandedBack, IsRunTo, IsTurnedAway}
use Rattle.mk_session.specs.Outcome.{Ends, status_of}
use Rattle.mk_session.proofs.Serving.{turned_from}

-- a market is handed back, or the run ends otherwise
abbrev pub EndsBack : {Own : Type 0} → Result (Trading Own) Status → Result Market FileFault
    → List ℕ → Option (List ℕ) → Option (List ℕ) → Option (List ℕ) → Type 0
EndsBack result given all source before written =
    MatchResult result (λ back. IsHandedBack back given all source before written)
    (λ status. Opened status given all source before written)

pub ends_back_at : {Own : Type 0} (result : Result (Trading Own) Status)
    (given same : Result Market FileFault) (all : List ℕ)
    (source before written : Option (List ℕ)) → given ≡ same
    → EndsBack result given all source before written
    → EndsBack result same all source before written
ends_back_at result given same all source before written e ends =
    subst (λ (g : Result Market FileFault). EndsBack result g all source before written) e ends

-- the market that ran is handed back
pub handed : {Own : Type 0} (back : Trading Own) (market : Market) (all : List ℕ)
    (source before written : Option (List ℕ)) → IsAt market back
    → IsRunTo market back.standing all source before written
    → IsHandedBack back (Ok market) all source before written
handed back market all source before written here run = record {
  market = market;
  accepted = refl;
  at = here;
  run = run;
}

-- the whole run, once its file was opened
pub outcome_back : {Own : Type 0} (result : Result (Trading Own) Status) (file all : List ℕ)
    (source before written : Option (List ℕ)) → EndsBack result (file_of file) all source before
    written
    → MatchResult result (λ back. IsHandedBack back (file_of file) all source before written)
    (λ status. Outcome status file all source before written)
outcome_back (Ok back) file all source before written ends = ends
outcome_back (Err status) file all source before written ends = inr ends

-- a refused file hands nothing back
pub turned_back : {Own : Type 0} (result : Result (Trading Own) Status) (fault : FileFault)
    (source mid left before written : Option (List ℕ)) → mid ≡ source
    → MatchResult result (λ _. ⊥) (λ status. IsTurnedAway status fault mid left before written)
    → MatchResult result (λ _. ⊥) (λ status. IsTurnedAway status fault source left before written)
turned_back (Ok back) fault source mid left before written same turned = turned
turned_back (Err status) fault source mid left before written same turned =
    turned_from status fault source mid left before written same turned

-- the status of a run that hands its market back ends as a run does
pub opened_status : {Own : Type 0} (result : Result (Trading Own) Status)
    (given : Result Market FileFault) (all : List ℕ) (source before written : Option (List ℕ))
    → EndsBack result given all source before written
    → Opened (status_of result) given all source before written
opened_status (Ok back) given all source before written ends = record {
  rest = ends.run.rest;
  told = ends.run.told;
  output = record {
    bytes = ends.run.output.bytes;
    added = ends.run.output.added;
    holds = subst (λ (g : Result Market FileFault). Ends Done g all ends.run.rest
        ends.run.output.bytes) (sym ends.accepted) ends.run.output.holds.whole;
  };
}
opened_status (Err status) given all source before written ends = ends

-- and it is no other than memory's where it does not
pub only_memory : {Own : Type 0} (result : Result (Trading Own) Status)
    → IfErr result (λ status. (status ≡ Done) → ⊥)
    → (status_of result ≡ Done) ⊎ (status_of result ≡ Memory)
    → IfErr result (λ status. status ≡ Memory)
only_memory (Ok back) not_done ends = tt
only_memory (Err status) not_done (inl done) = absurd (not_done done)
only_memory (Err status) not_done (inr memory) = memory
