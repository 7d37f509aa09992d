-- A run, and what is written behind it.
use Rattle.std.proofs.Common.{◌≡◌, ℕ, List, ◌++◌, Option, Result, Ok, Err, ◌⊎◌, inl, inr}
use Rattle.std.proofs.Common.{refl, sym, ap, subst, ◌∙◌, append_assoc}
use Rattle.std.proofs.lemmas.List.{append-nil}
use Rattle.mk_io.specs.declared.status.Status.{Status}
use Rattle.mk_io.specs.declared.status.Status.TheVariants.{Done, Usage, MarketRefused, ReadFault}
use Rattle.mk_io.specs.declared.status.Status.TheVariants.{WriteFault, Memory, TooMany}
use Rattle.mk_io.specs.declared.status.Status.TheVariants.{DiskFault, StoreRefused}
use Rattle.mk_io.specs.Outside.{append_known, Rose}
use Rattle.mk_io.proofs.Told.{append_known_twice}
use Rattle.mk_exact.specs.Market.{Market, present}
use Rattle.mk_exact.specs.History.{Entry}
use Rattle.mk_file.specs.declared.fault.FileFault.{FileFault}
use Rattle.mk_rules.specs.Transcript.{Standing}
use Rattle.mk_market.specs.Trading.{Trading}
use Rattle.mk_session.specs.Outcome.{Adds, Opened, NotOpened, IsWhole, IsWholeTo, IsHandedBack}
use Rattle.mk_session.specs.Outcome.{Serves, Ends, HasCauses, CountsNone}
use Rattle.mk_session.specs.Transcript.{from_opening}
use Rattle.daggre.specs.declared.ask.Ask.{Ask}
use Rattle.daggre.specs.LastLine.{IsLastLine}
use Rattle.daggre.specs.AskOutcome.{IsAnswered, ServesAsk, EndsAsk, OpenedAsk}
use Rattle.daggre.specs.inner.Printing.{SaysLast}

-- a run that is not done ends as one behind which nothing is asked
serves_still : (status : Status) (ask : Ask) (market : Market) (all rest output : List ℕ)
    → (status ≡ Done → ⊥) → Serves status (from_opening market) all rest output
    → ServesAsk status ask market all rest output
serves_still Done ask market all rest output stops serves = absurd (stops refl)
serves_still ReadFault ask market all rest output stops serves = serves
serves_still WriteFault ask market all rest output stops serves = inl serves
serves_still TooMany ask market all rest output stops serves = serves
serves_still Memory ask market all rest output stops serves = inl serves
serves_still MarketRefused ask market all rest output stops serves = serves
serves_still Usage ask market all rest output stops serves = serves
serves_still DiskFault ask market all rest output stops serves = serves
serves_still StoreRefused ask market all rest output stops serves = serves

ends_still : (status : Status) (ask : Ask) (given : Result Market FileFault)
    (all rest output : List ℕ) → (status ≡ Done → ⊥) → Ends status given all rest output
    → EndsAsk status ask given all rest output
ends_still status ask (Ok market) all rest output stops ends =
    serves_still status ask market all rest output stops ends
ends_still status ask (Err fault) all rest output stops ends = ends

pub stops_still : (status : Status) (ask : Ask) (given : Result Market FileFault) (all : List ℕ)
    (source before written : Option (List ℕ)) → (status ≡ Done → ⊥)
    → NotOpened status all source before written ⊎ Opened status given all source before written
    → NotOpened status all source before written ⊎ OpenedAsk status ask given all source before
    written
stops_still status ask given all source before written stops (inl closed) = inl closed
stops_still status ask given all source before written stops (inr opened) = inr (record {
  rest = opened.rest;
  told = opened.told;
  output = record {
    bytes = opened.output.bytes;
    added = opened.output.added;
    holds = ends_still status ask given all opened.rest opened.output.bytes stops
        opened.output.holds;
  };
})

-- the last line behind a whole run
answered : (market : Market) (after : Standing) (ask : Ask) (all rest transcript last : List ℕ)
    → IsWholeTo (from_opening market) after all rest transcript
    → IsLastLine (present market after.history) after.history ask last
    → IsAnswered market ask all rest (transcript ++ last)
answered market after ask all rest transcript last run answers = record {
  transcript = transcript;
  run = run.whole;
  last = last;
  answers = subst (λ (s : Standing). IsLastLine (present market s.history) s.history ask last)
      (sym run.stands) answers;
  printed = refl;
}

serves_behind : (status : Status) (market : Market) (after : Standing) (ask : Ask)
    (all rest transcript bytes : List ℕ) → IsWholeTo (from_opening market) after all rest transcript
    → SaysLast status (present market after.history) after.history ask bytes
    → ServesAsk status ask market all rest (transcript ++ bytes)
serves_behind Done market after ask all rest transcript bytes run says =
    answered market after ask all rest transcript bytes run says
serves_behind WriteFault market after ask all rest transcript bytes run says = inr (record {
  whole = transcript ++ says.line;
  answered = answered market after ask all rest transcript says.line run says.answers;
  front = record {
    rest = says.front.rest;
    parts = ap (λ (line : List ℕ). transcript ++ line) says.front.parts
        ∙ sym (append_assoc transcript bytes says.front.rest);
  };
})
serves_behind Memory market after ask all rest transcript bytes run says =
    inr (subst (λ (output : List ℕ). IsWhole (from_opening market) all rest output)
    (sym (ap (λ (more : List ℕ). transcript ++ more) says ∙ append-nil transcript)) run.whole)
serves_behind Usage market after ask all rest transcript bytes run says = absurd says
serves_behind MarketRefused market after ask all rest transcript bytes run says = absurd says
serves_behind ReadFault market after ask all rest transcript bytes run says = absurd says
serves_behind TooMany market after ask all rest transcript bytes run says = absurd says
serves_behind DiskFault market after ask all rest transcript bytes run says = absurd says
serves_behind StoreRefused market after ask all rest transcript bytes run says = absurd says

pub opened_behind : {Own : Type 0} (status : Status) (back : Trading Own) (ask : Ask)
    (given : Result Market FileFault) (all : List ℕ)
    (source before middle written : Option (List ℕ))
    → IsHandedBack back given all source before middle
    → Adds middle written (SaysLast status back.market back.standing.history ask)
    → OpenedAsk status ask given all source before written
opened_behind status back ask given all source before middle written handed says =
    let transcript = handed.run.output.bytes in
    let here = subst (λ (m : Market). SaysLast status m back.standing.history ask says.bytes)
    handed.at says.holds in
    record {
      rest = handed.run.rest;
      told = handed.run.told;
      output = record {
        bytes = transcript ++ says.bytes;
        added = says.added ∙ ap (λ (w : Option (List ℕ)). append_known w says.bytes)
            handed.run.output.added ∙ append_known_twice before transcript says.bytes;
        holds = subst (λ (g : Result Market FileFault). EndsAsk status ask g all handed.run.rest
            (transcript ++ says.bytes)) (sym handed.accepted)
            (serves_behind status handed.market back.standing ask all handed.run.rest transcript
            says.bytes handed.run.output.holds here);
      };
    }

-- where no count of the sink rose, the line is written, or memory was wanting
pub written_or_short : (status : Status) (market : Market) (H : List Entry) (ask : Ask)
    (bytes : List ℕ) (inputs before middle sink : ℕ) → SaysLast status market H ask bytes
    → HasCauses status inputs inputs middle sink → middle ≡ before → (Rose before sink → ⊥)
    → (status ≡ Done) ⊎ (status ≡ Memory)
written_or_short Done market H ask bytes inputs before middle sink says causes same steady =
    inl refl
written_or_short Memory market H ask bytes inputs before middle sink says causes same steady =
    inr refl
written_or_short WriteFault market H ask bytes inputs before middle sink says causes same steady =
    absurd (steady (subst (λ (n : ℕ). Rose n sink) same causes.1.rose))
written_or_short Usage market H ask bytes inputs before middle sink says causes same steady =
    absurd says
written_or_short MarketRefused market H ask bytes inputs before middle sink says causes same
    steady = absurd says
written_or_short ReadFault market H ask bytes inputs before middle sink says causes same steady =
    absurd says
written_or_short TooMany market H ask bytes inputs before middle sink says causes same steady =
    absurd says
written_or_short DiskFault market H ask bytes inputs before middle sink says causes same steady =
    absurd says
written_or_short StoreRefused market H ask bytes inputs before middle sink says causes same
    steady = absurd says

pub never_usage : (status : Status) (market : Market) (H : List Entry) (ask : Ask)
    (bytes : List ℕ) → SaysLast status market H ask bytes → status ≡ Usage → ⊥
never_usage status market H ask bytes says e =
    subst (λ (s : Status). SaysLast s market H ask bytes) e says

-- what fails behind a run in which nothing failed is all that failed
pub causes_behind : (status : Status) (inputs inputs_mid inputs_now sink sink_mid sink_now : ℕ)
    → CountsNone inputs inputs_mid sink sink_mid
    → HasCauses status inputs_mid inputs_now sink_mid sink_now
    → HasCauses status inputs inputs_now sink sink_now
causes_behind status inputs inputs_mid inputs_now sink sink_mid sink_now steady causes =
    subst (λ (n : ℕ). HasCauses status n inputs_now sink sink_now) steady.0
    (subst (λ (n : ℕ). HasCauses status inputs_mid inputs_now n sink_now) steady.1 causes)
