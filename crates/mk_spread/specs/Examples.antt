-- A die of three values, and a gate of which one value cannot come, before any trade and for a user who paid in one bit.
use Rattle.std.specs.Prelude.{◌≡◌, ℕ, List, [], ◌∷◌, codes, Option, Some, None}
use Rattle.mk_net.specs.Network.{Variable}
use Rattle.mk_exact.specs.Limits.{Side}
use Rattle.mk_exact.specs.Examples.{variable, die, deposited_one, fraction}
use Rattle.mk_spread.specs.Spreads.{SpreadAsked}
use Rattle.mk_spread.specs.Markets.{AreValueSides, AreRightBoundsOf, IsFairList, SuitValues, values_left}

abbrev pub every_face : SpreadAsked
every_face = record { variable = 0; condition = [] }

-- a value of this weight, of a million
abbrev pub face : ℕ → Option Side
face weight = Some (record { price = fraction weight 1000000; least = fraction 2 1 })

abbrev pub faces : List (Option Side)
faces = face 333333 ∷ face 333333 ∷ face 333334 ∷ []

-- each value can be taken down to half of its price; a fair list, and bounds that are wrong
pub record HasBounds : Type 0 where
  pub sides : AreValueSides die deposited_one 0 every_face faces
  pub right : AreRightBoundsOf die deposited_one 0 every_face (Some ((166667, 999999) ∷ (166667, 999999) ∷ (166667, 999999) ∷ []))
  pub fair : IsFairList die deposited_one 0 every_face (200000 ∷ 300000 ∷ 500000 ∷ []) (659707636373 ∷ 989561454559 ∷ 1649264143135 ∷ [])
  pub too_wide : AreRightBoundsOf die deposited_one 0 every_face (Some ((166667, 999999) ∷ (166666, 999999) ∷ (166667, 999999) ∷ [])) → ⊥
  pub too_narrow : AreRightBoundsOf die deposited_one 0 every_face (Some ((166667, 999999) ∷ (166667, 999999) ∷ (166667, 999998) ∷ [])) → ⊥
  pub too_few : AreRightBoundsOf die deposited_one 0 every_face (Some ((166667, 999999) ∷ (166667, 999999) ∷ [])) → ⊥
  pub not_none : AreRightBoundsOf die deposited_one 0 every_face None → ⊥

-- a gate that is open or shut, and never gone
abbrev pub gate_with : List ℕ → List Variable
gate_with row = variable (codes "gate") (codes "open" ∷ codes "shut" ∷ codes "gone" ∷ []) [] (row ∷ []) ∷ []

abbrev pub gate : List Variable
gate = gate_with (250000 ∷ 750000 ∷ 0 ∷ [])

abbrev pub gate_sides : List (Option Side)
gate_sides = face 250000 ∷ face 750000 ∷ None ∷ []

-- no share but 0, and no units but one whole unit, for what cannot come
pub record HasGate : Type 0 where
  pub sides : AreValueSides gate deposited_one 0 every_face gate_sides
  pub left : values_left gate deposited_one every_face ≡ 0 ∷ 1 ∷ []
  pub alone : values_left (gate_with (0 ∷ 1000000 ∷ 0 ∷ [])) deposited_one every_face ≡ 1 ∷ []
  pub right : AreRightBoundsOf gate deposited_one 0 every_face (Some ((125000, 999999) ∷ (375000, 999999) ∷ (0, 0) ∷ []))
  pub suit : SuitValues gate deposited_one every_face (500000 ∷ 500000 ∷ 0 ∷ [])
  pub fair : IsFairList gate deposited_one 0 every_face (500000 ∷ 500000 ∷ 0 ∷ []) (2199023255552 ∷ 733007751850 ∷ 1099511627776 ∷ [])
  pub no_share : SuitValues gate deposited_one every_face (500000 ∷ 400000 ∷ 100000 ∷ []) → ⊥
  pub missing : SuitValues gate deposited_one every_face (0 ∷ 999999 ∷ 0 ∷ []) → ⊥
  pub no_interval : AreRightBoundsOf gate deposited_one 0 every_face (Some ((125000, 999999) ∷ (375000, 999999) ∷ (1, 999999) ∷ [])) → ⊥
  pub no_units : IsFairList gate deposited_one 0 every_face (500000 ∷ 500000 ∷ 0 ∷ []) (2199023255552 ∷ 733007751850 ∷ 1 ∷ []) → ⊥
  pub not_none : AreRightBoundsOf gate deposited_one 0 every_face None → ⊥
