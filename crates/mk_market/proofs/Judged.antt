-- An answer by a quote, which is the user's last where that is of this question and of the present revision.
use Rattle.std.specs.Prelude.{◌≡◌, ℕ, List, Bool, true, false, if◌then◌else◌, map, Option, Some}
use Rattle.std.specs.Prelude.{None, option_map, option_and_then, MatchOption, ⊤, slice_get}
use Rattle.std.proofs.Common.{refl, sym, ap, subst}
use Rattle.std.proofs.lemmas.Option.{slice_get-map}
use Rattle.mk_rules.specs.Quotes as rules
use Rattle.mk_record.specs.declared.last_quote.LastQuote.{LastQuote}
use Rattle.mk_record.specs.declared.users.Member.{Member}
use Rattle.mk_record.specs.Members.{quotes_of}
use Rattle.mk_market.specs.inner.Keeping.{quoted}

module _ {Held Told : Type 0} (told : Held → Told) (quote : Held) where
  -- what is found in a last quote, if anything is, is what this quote tells
  abbrev pub TheSame : Option Told → Type 0
  TheSame o = MatchOption o ⊤ (λ (found : Told). found ≡ told quote)

  -- so it is in a quote of its kind, by the tests of the question and of the revision
  pub in_quote : (held : Held) (question revision : Bool)
      → (question ≡ true → revision ≡ true → quote ≡ held)
      → TheSame (if revision then (if question then Some (told held) else None) else None)
  in_quote held question false h = tt
  in_quote held false true h = tt
  in_quote held true true h = sym (ap told (h refl refl))

  -- and nothing is found in one of another kind
  pub in_other : (revision : Bool) → TheSame (if revision then None else None)
  in_other false = tt
  in_other true = tt

  -- what holds where nothing is found, and by what this quote tells, holds by what is found
  by_same : (o : Option Told) → TheSame o → (Afresh : Type 0) (By : Told → Type 0) → Afresh
      → By (told quote) → MatchOption o Afresh By
  by_same None same Afresh By afresh by = afresh
  by_same (Some found) same Afresh By afresh by = subst By (sym same) by

  module _ (as_last : Held → LastQuote) (find : Option rules.Quote → Option Told)
      (IsAsked : Held → Type 0) (found : (o : Option (Option LastQuote))
      → ((held : Held) → o ≡ Some (Some (as_last held)) → IsAsked held → quote ≡ held)
      → TheSame (find (option_and_then (λ held. held) (option_map (option_map quoted) o)))) where
    pub judged_by : {A Plan : Type 0} (members : List (Member A Plan)) (user : ℕ)
        → ((held : Held) → slice_get (quotes_of members) user ≡ Some (Some (as_last held))
        → IsAsked held → quote ≡ held)
        → (Afresh : Type 0) (By : Told → Type 0) → Afresh → By (told quote)
        → MatchOption (find (rules.last_quote (map (option_map quoted) (quotes_of members)) user))
        Afresh By
    judged_by members user last Afresh By afresh by =
        let its = slice_get (quotes_of members) user in
        subst (λ (o : Option (Option rules.Quote)). MatchOption
        (find (option_and_then (λ held. held) o)) Afresh By)
        (sym (slice_get-map (option_map quoted) (quotes_of members) user))
        (by_same (find (option_and_then (λ held. held) (option_map (option_map quoted) its)))
        (found its last) Afresh By afresh by)
