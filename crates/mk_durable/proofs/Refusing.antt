-- What a file is refused for: nothing where it gives a history back, and else one thing.
use Rattle.std.proofs.Common.{◌≡◌, inl, inr, ℕ, suc, ◌+◌, ◌-◌, ◌<◌, ◌≤◌, List, [], ◌∷◌, ◌++◌}
use Rattle.std.proofs.Common.{length, take, ◌⊎◌, refl, sym, ◌∙◌, ap, subst, arith}
use Rattle.std.proofs.lemmas.Bool.{cases_lt}
use Rattle.std.proofs.lemmas.List.{take_at}
use Rattle.std.proofs.Math.Seq.{take-append-add}
use Rattle.mk_exact.specs.History.{Entry}
use Rattle.mk_exact.specs.Market.{Market}
use Rattle.mk_journal.specs.Store.{StandsFor, IsBroken}
use Rattle.mk_journal.proofs.Meanings.{stands_honest, one_place, broken_own}
use Rattle.mk_durable.specs.declared.fault.StoreFault.TheVariants.{Foreign, Unfit}
use Rattle.mk_durable.specs.Recovery.{AreTakenBack, IsFirstUnfit, IsBadAt}
use Rattle.mk_durable.specs.Recovery.{IsMalformedAt, IsUnfitAt}
use Rattle.mk_durable.specs.Resuming.{IsStoreFault}
use Rattle.mk_durable.specs.Laws.{GivesOne, RefusesNoneGiven, RefusesNoHonest, OneFault}
use Rattle.mk_durable.proofs.Readings.{stands_for_one, broken_behind_one}
use Rattle.mk_durable.proofs.Histories.{one_history, none_unfit}

pub gives_one : GivesOne
gives_one market bytes file records others history other gives back =
    let same = stands_for_one bytes file records others gives.stands_for back.stands_for in (
      same,
      one_history market [] history other records gives.taken
          (subst (λ (rs : List (List ℕ)). AreTakenBack market [] rs other) (sym same) back.taken),
    )

pub refuses_none_given : RefusesNoneGiven
refuses_none_given market bytes file records history (Foreign at) gives foreign =
    (stands_honest bytes records file gives.stands_for).own at foreign
refuses_none_given market bytes file records history (Unfit number) gives (inl malformed) =
    (stands_honest bytes records file gives.stands_for).whole malformed.before malformed.broken
refuses_none_given market bytes file records history (Unfit number) gives (inr unfit) =
    at unfit.are
  where
    at : StandsFor bytes unfit.records file ⊎ IsBroken bytes unfit.records file → ⊥
    at (inl stands) =
        none_unfit market [] history unfit.records number
        (subst (λ (rs : List (List ℕ)). AreTakenBack market [] rs history)
        (stands_for_one bytes file records unfit.records gives.stands_for stands) gives.taken)
        unfit.first
    at (inr broken) =
        (stands_honest bytes records file gives.stands_for).whole unfit.records broken

pub refuses_no_honest : RefusesNoHonest
refuses_no_honest market bytes file fault honest =
    refuses_none_given market bytes file honest.records honest.history fault honest.gives

-- one of some records is the first that is not taken back
not_before : (market : Market) (old : List Entry) (records : List (List ℕ)) (number other : ℕ)
    (a : IsFirstUnfit market old records number) (b : IsFirstUnfit market old records other)
    → length a.before < length b.before → ⊥
not_before market old records number other a b less =
    let k : ℕ = length b.before - (length a.before + 1) in
    let size : length b.before ≡ length a.before + suc k = omega arith in
    let parts : b.before ≡ a.before ++ a.next ∷ take k a.others =
    sym (take_at b.before (b.next ∷ b.others) (length b.before) refl)
    ∙ ap (take (length b.before)) (sym b.parts ∙ a.parts)
    ∙ ap (λ (n : ℕ). take n (a.before ++ a.next ∷ a.others)) size
    ∙ take-append-add a.before (a.next ∷ a.others) (suc k) in
    none_unfit market old b.history b.before number b.taken (record {
      before = a.before;
      next = a.next;
      others = take k a.others;
      parts = parts;
      place = a.place;
      history = a.history;
      taken = a.taken;
      unfit = a.unfit;
    })

first_is_one : (market : Market) (old : List Entry) (records : List (List ℕ)) (number other : ℕ)
    → IsFirstUnfit market old records number → IsFirstUnfit market old records other
    → number ≡ other
first_is_one market old records number other a b = at
    (cases_lt (length a.before) (length b.before)) (cases_lt (length b.before) (length a.before))
  where
    at : (length a.before < length b.before) ⊎ (length b.before ≤ length a.before)
        → (length b.before < length a.before) ⊎ (length a.before ≤ length b.before)
        → number ≡ other
    at (inl less) more = absurd (not_before market old records number other a b less)
    at (inr no_less) (inl more) = absurd (not_before market old records other number b a more)
    at (inr no_less) (inr no_more) = omega (arith, a.place, b.place)

-- a malformed record stands behind no unfit one
malformed_alone : (market : Market) (bytes file : List ℕ) (number other : ℕ)
    → IsMalformedAt market bytes file number → IsUnfitAt market bytes file other → ⊥
malformed_alone market bytes file number other malformed unfit = at unfit.are
  where
    at : StandsFor bytes unfit.records file ⊎ IsBroken bytes unfit.records file → ⊥
    at (inl stands) =
        (stands_honest bytes unfit.records file stands).whole malformed.before malformed.broken
    at (inr broken) =
        none_unfit market [] malformed.history unfit.records other
        (subst (λ (rs : List (List ℕ)). AreTakenBack market [] rs malformed.history)
        (broken_behind_one bytes file malformed.before unfit.records malformed.broken broken)
        malformed.taken) unfit.first

-- a file whose records are one list, whatever ends them
one_list : (bytes file : List ℕ) (records others : List (List ℕ))
    → StandsFor bytes records file ⊎ IsBroken bytes records file
    → StandsFor bytes others file ⊎ IsBroken bytes others file → records ≡ others
one_list bytes file records others (inl a) (inl b) = stands_for_one bytes file records others a b
one_list bytes file records others (inl a) (inr b) =
    absurd ((stands_honest bytes records file a).whole others b)
one_list bytes file records others (inr a) (inl b) =
    absurd ((stands_honest bytes others file b).whole records a)
one_list bytes file records others (inr a) (inr b) =
    broken_behind_one bytes file records others a b

one_bad : (market : Market) (bytes file : List ℕ) (number other : ℕ)
    → IsBadAt market bytes file number → IsBadAt market bytes file other → number ≡ other
one_bad market bytes file number other (inl a) (inl b) =
    omega (
      arith,
      a.place,
      b.place,
      ap (λ (rs : List (List ℕ)). length rs)
          (broken_behind_one bytes file a.before b.before a.broken b.broken),
    )
one_bad market bytes file number other (inl a) (inr b) =
    absurd (malformed_alone market bytes file number other a b)
one_bad market bytes file number other (inr a) (inl b) =
    absurd (malformed_alone market bytes file other number b a)
one_bad market bytes file number other (inr a) (inr b) =
    first_is_one market [] b.records number other
    (subst (λ (rs : List (List ℕ)). IsFirstUnfit market [] rs number)
    (one_list bytes file a.records b.records a.are b.are) a.first) b.first

-- a file of another market has no bad record of this one
not_bad : (market : Market) (bytes file : List ℕ) (at number : ℕ)
    → IsStoreFault market bytes file (Foreign at) → IsBadAt market bytes file number → ⊥
not_bad market bytes file at number foreign (inl a) =
    broken_own bytes file a.before at a.broken foreign
not_bad market bytes file at number foreign (inr b) = of_records b.are
  where
    of_records : StandsFor bytes b.records file ⊎ IsBroken bytes b.records file → ⊥
    of_records (inl stands) = (stands_honest bytes b.records file stands).own at foreign
    of_records (inr broken) = broken_own bytes file b.records at broken foreign

pub one_fault : OneFault
one_fault market bytes file (Foreign at) (Foreign other) a b =
    ap Foreign (one_place bytes file at other a b)
one_fault market bytes file (Foreign at) (Unfit number) a b =
    absurd (not_bad market bytes file at number a b)
one_fault market bytes file (Unfit number) (Foreign at) a b =
    absurd (not_bad market bytes file at number b a)
one_fault market bytes file (Unfit number) (Unfit other) a b =
    ap Unfit (one_bad market bytes file number other a b)
