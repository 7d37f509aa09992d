-- What an opening knows of the file.
use Rattle.std.proofs.Common.{◌≡◌, inl, inr, ℕ, ◌<◌, List, ◌∷◌, length, take, drop, Option, Some, None, IfSome, Result, Ok, Err, IfOk, sym, ◌∙◌, ap, subst, arith, length-append, length-take, length-drop}
use Rattle.std.proofs.lemmas.List.{drop_at}
use Rattle.mk_disk.specs.Disk.{Only}
use Rattle.mk_journal.specs.declared.read.End.{End}
use Rattle.mk_journal.specs.declared.read.End.TheVariants.{Gate, Malformed}
use Rattle.mk_journal.specs.declared.read.Found.{Found}
use Rattle.mk_journal.specs.declared.front.Unstarted.{Unstarted}
use Rattle.mk_journal.specs.declared.front.Unstarted.TheVariants.{Short, Cleared, Written}
use Rattle.mk_journal.specs.declared.open.OpenFault.{OpenFault}
use Rattle.mk_journal.specs.Store.{header, begun, opened, Holds, Breaks, IsUnstarted, IsStarted, StandsFor, IsBroken}
use Rattle.mk_journal.specs.Opening.{contents, IfGate, IfMalformed}
use Rattle.mk_journal.specs.Kept.{IsKept, IsSettled}
use Rattle.mk_journal.specs.inner.Reading.{IsUnstartedAs, IsOwn, EndsAt, IsRead}
use Rattle.mk_journal.proofs.Spelling.{length-header}
use Rattle.mk_journal.proofs.Heads.{told_of, length-begun}

pub loaded_kept : (old new : List ℕ → Option (List ℕ)) (may_leave : List ℕ → List ℕ → Type 0) (n m f : List ℕ) → n ≡ m → old n ≡ Some f → new n ≡ old n → IfSome (old m) (λ f. Only f (may_leave m)) → IsKept (new n) (may_leave n) f
loaded_kept old new may_leave n m f named told same durable = record {
  told = same ∙ told;
  only = subst (λ x. Only f (may_leave x)) (sym named) (told_of old n m f (λ f. Only f (may_leave m)) named told durable);
}

pub unstarted_as : (market f : List ℕ) (unstarted : Unstarted) → IsUnstartedAs market f unstarted → IsUnstarted market f
unstarted_as market f Short is = inl is
unstarted_as market f Cleared is = inr (inl is)
unstarted_as market f Written is = is.1

-- what was read from a place on
pub if_ok : {T E : Type 0} {P Q : T → Type 0} (result : Result T E) → IfOk result P → ((value : T) → P value → Q value) → IfOk result Q
if_ok (Ok value) p more = more value p
if_ok (Err error) p more = tt

pub read_told : (result : Result Found OpenFault) (o : Option (List ℕ)) (f : List ℕ) (len place : ℕ) → o ≡ Some f
    → IfOk result (λ found. IfSome o (λ f. len ≡ length f → place < length f → IsRead place (drop place f) found)) → len ≡ length f → place < length f → IfOk result (IsRead place (drop place f))
read_told (Err error) o f len place told read size within = tt
read_told (Ok found) o f len place told read size within =
    subst (λ (o : Option (List ℕ)). IfSome o (λ f. len ≡ length f → place < length f → IsRead place (drop place f) found)) told read size within

-- a file with this market's header, and what is read behind it
module _ (market f : List ℕ) (own : IsOwn market f) (place : ℕ) (is : place ≡ length (begun market)) where
  pub behind : drop place f ≡ own.rest
  behind = ap (λ (l : List ℕ). drop place l) own.file_is ∙ drop_at (1 ∷ header market) own.rest place (omega (arith, is, length-begun market, length-header market))

  pub own_within : place < length f
  own_within = omega (arith, ap length own.file_is, length-append (header market) own.rest, own.some, is, length-begun market, length-header market)

  started : (records : List (List ℕ)) → Holds records (drop place f) → IsStarted market records f
  started records holds = record { rest = own.rest; file_is = own.file_is; holds = subst (Holds records) behind holds }

  pub stands_read : (records : List (List ℕ)) (end : End) → EndsAt place (drop place f) records end → IfGate end (λ gate. StandsFor market records f)
  stands_read records (Gate at) ends = inr (started records ends.0)
  stands_read records Malformed ends = tt

  pub broken_read : (records : List (List ℕ)) (end : End) → EndsAt place (drop place f) records end → IfMalformed end (IsBroken market records f)
  broken_read records (Gate at) ends = tt
  broken_read records Malformed ends = record { rest = own.rest; file_is = own.file_is; breaks = subst (Breaks records) behind ends }

  pub settled_read : {file : Option (List ℕ)} {may_leave : List ℕ → Type 0} → IsKept file may_leave f → (records : List (List ℕ)) (end : End) → EndsAt place (drop place f) records end → IfGate end (IsSettled file may_leave market records)
  settled_read kept records (Gate at) ends = record { bytes = f; kept = kept; started = started records ends.0; place = omega (arith, ends.1, is, length-begun market) }
  settled_read kept records Malformed ends = tt

-- the closed gate lies in the file
gate_within : (place : ℕ) (f : List ℕ) (records : List (List ℕ)) (end : End) → place < length f → EndsAt place (drop place f) records end → IfGate end (λ gate. gate < length f)
gate_within place f records (Gate at) within ends =
    omega (arith, ends.1, ap length ends.0.bytes_are, length-append (opened records) (ends.0.gate ∷ ends.0.rest), length-drop place f)
gate_within place f records Malformed within ends = tt

nowhere : (end : End) → IfGate end (λ gate. Unit {0})
nowhere (Gate at) = tt
nowhere Malformed = tt

pub place_read : (result : Result Found OpenFault) (o o' : Option (List ℕ)) (len place size : ℕ) (front : List ℕ) → o' ≡ o → IfSome o (λ f. front ≡ take size f) → IfSome o (λ f. len ≡ length f) → place < length front
    → IfOk result (λ found. IfSome o (λ f. len ≡ length f → place < length f → IsRead place (drop place f) found))
    → IfOk result (λ found. IfGate found.end (λ gate. IfSome o' (λ f. gate < length f)))
place_read (Err error) o o' len place size front same front_is len_is within read = tt
place_read (Ok found) o o' len place size front same front_is len_is within read =
    subst (λ (x : Option (List ℕ)). IfGate found.end (λ gate. IfSome x (λ f. gate < length f))) (sym same) (elim o as (λ (x : Option (List ℕ)). IfSome x (λ f. front ≡ take size f) → IfSome x (λ f. len ≡ length f)
    → IfSome x (λ f. len ≡ length f → place < length f → IsRead place (drop place f) found) → IfGate found.end (λ gate. IfSome x (λ f. gate < length f))) [
      | None ↦ λ _ _ _. nowhere found.end
      | Some f ↦ λ front_here len_here read_here.
          let long : place < length f = omega (arith, within, ap length front_here, length-take size f) in
          gate_within place f (contents found.records.items) found.end long (read_here len_here long)
    ] front_is len_is read)
