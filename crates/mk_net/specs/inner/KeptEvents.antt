-- How an event is kept: its pairs, and blank pairs up to nine; a kept event gives its fields back.
use Rattle.std.specs.Prelude.{◌≡◌, ℕ, ◌-◌, ◌≤◌, List, ◌++◌, length, take, replicate}
use Rattle.std.proofs.Common.{◌∙◌}
use Rattle.mk_net.specs.declared.words.Pair.{Pair}
use Rattle.mk_net.specs.inner.Kept.{given_back}
use Rattle.mk_net.specs.Bounds.{max_pairs}
use Rattle.mk_net.specs.Events.{IsEvent}
use Rattle.mk_net.specs.declared.event.Event.TheInside.{Inside}

abbrev pub blank : Pair
blank = record { variable = 0; value = 0 }

abbrev pub padded_event : List Pair → List Pair
padded_event event = event ++ replicate (max_pairs - length event) blank

pub record IsKeptEvent (pairs : List Pair) (n : ℕ) : Type 0 where
  pub whole : length pairs ≡ max_pairs
  pub fits : n ≤ max_pairs
  pub event : IsEvent (take n pairs)
  pub blanks : padded_event (take n pairs) ≡ pairs

pub kept_inverse : (a b : Inside) → b.pairs ≡ padded_event (take a.size a.pairs) → b.size ≡ length (take a.size a.pairs) →
    IsKeptEvent a.pairs a.size → b ≡ a
kept_inverse a b e f h =
    given_back {I = Inside} (λ (pairs : List Pair) (size : ℕ). record
    { pairs = pairs; size = size }) max_pairs
    a.pairs a.size b.pairs b.size h.whole h.fits (e ∙ h.blanks) f
