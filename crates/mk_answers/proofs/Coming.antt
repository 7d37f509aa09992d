-- Which sides of a question can come, by the beliefs in them.
use Rattle.std.proofs.Common.{◌≡◌, ℕ, ◌≤◌, true, false, List, subst, arith}
use Rattle.mk_net.specs.Asked.{Asked}
use Rattle.mk_net.specs.Network.{Variable, IsNetwork}
use Rattle.mk_states.specs.Events.{holds, with_target, without_target}
use Rattle.mk_exact.specs.History.{Entry}
use Rattle.mk_exact.specs.Proper.{IsProper}
use Rattle.mk_exact.specs.Weight.{IsSmall, total, cannot_come}
use Rattle.mk_enclose.specs.declared.enclosure.Enclosure.{Enclosure}
use Rattle.mk_semiring.specs.declared.held.Held.{Held}
use Rattle.mk_semiring.specs.declared.held.Held.TheVariants.{Absent, Present}
use Rattle.mk_semiring.specs.Held.{HeldEncloses}
use Rattle.mk_beliefs.proofs.Weighed.{cases_are_all}
use Rattle.mk_answers.specs.Results.{AreBothLeft}
use Rattle.mk_answers.specs.inner.Found.{IsBeliefIn, IsPartFor, IsRestFor, AreSidesIn}
use Rattle.mk_answers.proofs.Presence.{some_weight, weighed_comes, absent_never}

-- what an absent belief is in weighs nothing
nothing_of : (belief : Held) (n : ℕ) → belief ≡ Absent → HeldEncloses belief n → n ≡ 0
nothing_of belief n is h = subst (λ (b : Held). HeldEncloses b n) is h

module _ (network : List Variable) (H : List Entry) (asked : Asked) (part rest : Held) (sides : AreSidesIn network H asked part rest) where
  pub hit_present : (e : Enclosure) → part ≡ Present e → IsPartFor network H asked e
  hit_present e is = subst (λ (b : Held). IsBeliefIn b (IsSmall network H) (total network H (with_target asked))) is sides.hit

  pub miss_present : (e : Enclosure) → rest ≡ Present e → IsRestFor network H asked e
  miss_present e is = subst (λ (b : Held). IsBeliefIn b (IsSmall network H) (total network H (without_target asked))) is sides.miss

  hit_weighs : (e : Enclosure) → part ≡ Present e → 1 ≤ total network H (with_target asked)
  hit_weighs e is = some_weight e (total network H (with_target asked)) (hit_present e is).encloses

  miss_weighs : (e : Enclosure) → rest ≡ Present e → 1 ≤ total network H (without_target asked)
  miss_weighs e is = some_weight e (total network H (without_target asked)) (miss_present e is).encloses

  pub both_come : (p r : Enclosure) → part ≡ Present p → rest ≡ Present r → AreBothLeft network H asked
  both_come p r part_is rest_is = record {
    hit = weighed_comes network H (with_target asked) (hit_weighs p part_is);
    miss = weighed_comes network H (without_target asked) (miss_weighs r rest_is);
  }

  module _ (net : IsNetwork network) (proper : IsProper network H) where
    pub neither_comes : part ≡ Absent → rest ≡ Absent → cannot_come network H (holds asked.condition) ≡ true
    neither_comes part_is rest_is =
        let all = cases_are_all network H asked in
        let no_hit = nothing_of part (total network H (with_target asked)) part_is sides.hit.encloses in
        let no_miss = nothing_of rest (total network H (without_target asked)) rest_is sides.miss.encloses in
        absent_never network H (holds asked.condition) net proper (omega (arith, all, no_hit, no_miss))

    pub target_never : (r : Enclosure) → part ≡ Absent → rest ≡ Present r
        → (cannot_come network H (holds asked.condition) ≡ false) × (cannot_come network H (with_target asked) ≡ true)
    target_never r part_is rest_is =
        let all = cases_are_all network H asked in let some = miss_weighs r rest_is in
        let no_hit = nothing_of part (total network H (with_target asked)) part_is sides.hit.encloses in
        (weighed_comes network H (holds asked.condition) (omega (arith, all, some)), absent_never network H (with_target asked) net proper no_hit)

    pub target_sure : (p : Enclosure) → part ≡ Present p → rest ≡ Absent
        → (cannot_come network H (with_target asked) ≡ false) × (cannot_come network H (without_target asked) ≡ true)
    target_sure p part_is rest_is =
        let no_miss = nothing_of rest (total network H (without_target asked)) rest_is sides.miss.encloses in
        (weighed_comes network H (with_target asked) (hit_weighs p part_is), absent_never network H (without_target asked) net proper no_miss)
