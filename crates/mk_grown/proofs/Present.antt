-- The market as it stands, after one entry more.
use Rattle.std.proofs.Common.{◌≡◌, ℕ, List, [], ◌∷◌, ◌++◌, map, None, refl, sym, ap, ap₂, ◌∙◌}
use Rattle.std.proofs.Common.{◌≤◌, ◌&&◌, true, length, filter, subst, append-nil, append_assoc}
use Rattle.std.proofs.lemmas.List.{map-append}
use Rattle.std.proofs.lemmas.List.Elements.{filter_map-append}
use Rattle.mk_net.specs.declared.words.Pair.{Pair}
use Rattle.mk_net.specs.Network.{Variable, IsNetwork}
use Rattle.mk_states.specs.InitialWeight.{all_states}
use Rattle.mk_states.specs.Events.{holds}
use Rattle.mk_exact.specs.History.{Entry, Addition, Join, Deposit, Withdraw, Trade, Resolve, Settle}
use Rattle.mk_exact.specs.History.{Add, addition_in, additions, resolutions}
use Rattle.mk_exact.specs.Market.{Market, present, with_entry}
use Rattle.mk_exact.specs.Accepted.{IsAcceptable, IsInRange, AreAccepted}
use Rattle.mk_exact.specs.Proper.{IsProper}
use Rattle.mk_exact.specs.Sound.{IsSound}
use Rattle.mk_exact.proofs.After.{kept_where, users_kept, trades_kept, resolutions_kept}
use Rattle.mk_exact.proofs.Next.{sound_next}
use Rattle.mk_exact.proofs.Range.{proper_next, empty_proper}
use Rattle.mk_exact.proofs.Single.{empty_sound}
use Rattle.mk_grown.proofs.Grows.{proper_more, sound_more}

-- what is read off the additions, behind what was there
module _ {Y : Type 0} (before : List Y) (part : Addition → Y) where
  behind_more : (H later : List Entry)
      → before ++ map part (additions (H ++ later))
      ≡ (before ++ map part (additions H)) ++ map part (additions later)
  behind_more H later =
      ap (λ (more : List Addition). before ++ map part more)
      (filter_map-append addition_in H later)
      ∙ ap (λ (ys : List Y). before ++ ys) (map-append part (additions H) (additions later))
      ∙ sym (append_assoc before (map part (additions H)) (map part (additions later)))

  behind_kept : (H : List Entry) (e : Entry) → addition_in e ≡ None
      → before ++ map part (additions (H ++ e ∷ [])) ≡ before ++ map part (additions H)
  behind_kept H e q = ap (λ (more : List Addition). before ++ map part more)
      (kept_where addition_in H e q)

-- the cliques of a longer history
pub present_behind : (market : Market) (H later : List Entry)
    → (present market (H ++ later)).cliques
    ≡ (present market H).cliques ++ map (λ (a : Addition). a.clique) (additions later)
present_behind market H later = behind_more market.cliques (λ (a : Addition). a.clique) H later

market_with : Market → List Variable → List (List ℕ) → Market
market_with market network cliques = record market { network = network; cliques = cliques }

pub present_at_first : (market : Market) → present market [] ≡ market
unfolding market_with
present_at_first market = ap₂ (market_with market) (append-nil market.network)
    (append-nil market.cliques)

module _ (market : Market) (H : List Entry) where
  kept : (e : Entry) → addition_in e ≡ None → present market (H ++ e ∷ []) ≡ present market H
  unfolding market_with
  kept e q = ap₂ (market_with market)
      (behind_kept market.network (λ (a : Addition). a.variable) H e q)
      (behind_kept market.cliques (λ (a : Addition). a.clique) H e q)

  pub present_after : (e : Entry) → present market (H ++ e ∷ []) ≡ with_entry e (present market H)
  unfolding market_with
  present_after (Add a) = ap₂ (market_with market)
      (behind_more market.network (λ (a : Addition). a.variable) H (Add a ∷ []))
      (behind_more market.cliques (λ (a : Addition). a.clique) H (Add a ∷ []))
  present_after (Join name) = kept (Join name) refl
  present_after (Deposit u bits) = kept (Deposit u bits) refl
  present_after (Withdraw u bits) = kept (Withdraw u bits) refl
  present_after (Trade u r) = kept (Trade u r) refl
  present_after (Resolve p) = kept (Resolve p) refl
  present_after (Settle payments) = kept (Settle payments) refl

-- beside one network an addition leaves a history proper
added_proper : (network : List Variable) (H : List Entry) (a : Addition) → IsProper network H
    → IsProper network (H ++ Add a ∷ [])
added_proper network H a proper = record {
  trades_fit = rw (users_kept H (Add a) refl, trades_kept H (Add a) refl) proper.trades_fit;
  resolutions_fit = rw (same) proper.resolutions_fit;
  resolved_once = rw (same) proper.resolved_once;
  some_left = subst (λ (rs : List Pair). 1
      ≤ length (filter (λ s. holds rs s && true) (all_states network)))
      (sym same) proper.some_left;
}
  where
    same : resolutions (H ++ Add a ∷ []) ≡ resolutions H
    same = resolutions_kept H (Add a) refl

-- the market as it stands, after each kind of entry
module _ (market : Market) (H : List Entry) where
  pub network_stays : (e : Entry) → IsNetwork market.network → IsInRange market.network H e
      → IsNetwork (with_entry e market).network
  network_stays (Add a) net fits = fits
  network_stays (Join name) net fits = net
  network_stays (Deposit u bits) net fits = net
  network_stays (Withdraw u bits) net fits = net
  network_stays (Trade u r) net fits = net
  network_stays (Resolve p) net fits = net
  network_stays (Settle payments) net fits = net

  pub proper_after : (e : Entry) → IsProper market.network H → IsInRange market.network H e
      → IsProper (with_entry e market).network (H ++ e ∷ [])
  proper_after (Add a) proper fits = added_proper (market.network ++ a.variable ∷ []) H a
      (proper_more market.network a.variable H fits proper)
  proper_after (Join name) proper fits = proper_next market.network H (Join name) proper fits
  proper_after (Deposit u bits) proper fits =
      proper_next market.network H (Deposit u bits) proper fits
  proper_after (Withdraw u bits) proper fits =
      proper_next market.network H (Withdraw u bits) proper fits
  proper_after (Trade u r) proper fits = proper_next market.network H (Trade u r) proper fits
  proper_after (Resolve p) proper fits = proper_next market.network H (Resolve p) proper fits
  proper_after (Settle payments) proper fits = proper_next market.network H (Settle payments) proper fits

  pub sound_after : (e : Entry) → IsProper market.network H → IsSound market.network H
      → IsNetwork market.network → IsAcceptable market.network H e → IsInRange market.network H e
      → IsSound (with_entry e market).network (H ++ e ∷ [])
  sound_after (Add a) proper sound net ok fits =
      sound_next (market.network ++ a.variable ∷ []) H (Add a)
      (sound_more market.network a.variable H fits proper sound) ok
  sound_after (Join name) proper sound net ok fits =
      sound_next market.network H (Join name) sound ok
  sound_after (Deposit u bits) proper sound net ok fits =
      sound_next market.network H (Deposit u bits) sound ok
  sound_after (Withdraw u bits) proper sound net ok fits =
      sound_next market.network H (Withdraw u bits) sound ok
  sound_after (Trade u r) proper sound net ok fits =
      sound_next market.network H (Trade u r) sound ok
  sound_after (Resolve p) proper sound net ok fits =
      sound_next market.network H (Resolve p) sound ok
  sound_after (Settle payments) proper sound net ok fits = sound_next market.network H (Settle payments) sound ok

-- a history beside the network of a market
Holds : (List Variable → List Entry → Type 0) → List Entry → Market → Type 0
Holds P H market = P market.network H

carried : (P : List Variable → List Entry → Type 0) (market : Market) (H : List Entry) (e : Entry)
    → P (with_entry e (present market H)).network (H ++ e ∷ [])
    → P (present market (H ++ e ∷ [])).network (H ++ e ∷ [])
unfolding Holds
carried P market H e h = subst (Holds P (H ++ e ∷ [])) (sym (present_after market H e)) h

-- along a list of accepted changes
sound_along : (market : Market) (H rest : List Entry) → IsNetwork (present market H).network
    → IsSound (present market H).network H → IsProper (present market H).network H
    → AreAccepted market H rest
    → IsSound (present market (H ++ rest)).network (H ++ rest)
    × IsProper (present market (H ++ rest)).network (H ++ rest)
sound_along market H [] net sound proper ok = rw (append-nil H) (sound, proper)
sound_along market H (e ∷ rest) net sound proper ok =
    rw (append_assoc H (e ∷ []) rest) at (sound_along market (H ++ e ∷ []) rest
    (carried (λ network history. IsNetwork network) market H e
    (network_stays (present market H) H e net ok.1))
    (carried IsSound market H e (sound_after (present market H) H e proper sound net ok.0 ok.1))
    (carried IsProper market H e (proper_after (present market H) H e proper ok.1)) ok.2)

pub sound_always : (market : Market) (H : List Entry) → IsNetwork market.network
    → AreAccepted market [] H
    → IsSound (present market H).network H × IsProper (present market H).network H
sound_always market H net ok = sound_along market [] H first
    (empty_sound (present market []).network) (empty_proper (present market []).network first) ok
  where
    first : IsNetwork (present market []).network
    first = subst IsNetwork (sym (append-nil market.network)) net
