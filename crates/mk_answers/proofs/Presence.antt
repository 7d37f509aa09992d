-- A belief of the weights is present exactly where something can come, and then a user has a least gain there.
use Rattle.std.proofs.Common.{◌≡◌, ℕ, ◌≤◌, Bool, true, false, List, Option, Some, None, refl, arith}
use Rattle.mk_net.specs.Network.{Variable, IsNetwork}
use Rattle.mk_exact.specs.Factors.{least_gain}
use Rattle.mk_exact.specs.History.{Entry}
use Rattle.mk_exact.specs.Proper.{IsProper}
use Rattle.mk_exact.specs.Weight.{total, cannot_come}
use Rattle.mk_exact.proofs.Coming.{no_weight_of, never_by_weight, never_by_least}
use Rattle.mk_enclose.specs.declared.enclosure.Enclosure.{Enclosure}
use Rattle.mk_enclose.specs.Enclosure.{Encloses}

pub some_weight : (e : Enclosure) (n : ℕ) → Encloses e n → 1 ≤ n
some_weight e n h = omega (arith, e.positive, h.lower)

module _ (network : List Variable) (H : List Entry) (test : List ℕ → Bool) where
  -- what weighs something can come
  pub weighed_comes : 1 ≤ total network H test → cannot_come network H test ≡ false
  weighed_comes some = at (cannot_come network H test) (no_weight_of network H test)
    where
      at : (b : Bool) → (b ≡ true → total network H test ≡ 0) → b ≡ false
      at true none = absurd (let e = none refl in omega arith)
      at false none = refl

  pub present_comes : (e : Enclosure) → Encloses e (total network H test) → cannot_come network H test ≡ false
  present_comes e h = weighed_comes (some_weight e (total network H test) h)

  -- where something can come each user has a least gain
  pub least_where : (u : ℕ) → cannot_come network H test ≡ false → (g : ℕ) × (least_gain network H u test ≡ Some g)
  least_where u comes = at (least_gain network H u test) (never_by_least network H test u)
    where
      at : (o : Option ℕ) → (o ≡ None → cannot_come network H test ≡ true) → (g : ℕ) × (o ≡ Some g)
      at None never = absurd (let e = never refl in cc)
      at (Some g) never = (g, refl)

  -- an absent belief is one in what cannot come
  pub absent_never : IsNetwork network → IsProper network H → total network H test ≡ 0 → cannot_come network H test ≡ true
  absent_never net proper none = never_by_weight network H test net proper none
