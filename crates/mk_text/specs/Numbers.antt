-- Numbers and prices, and how they are written.
use Rattle.std.specs.Prelude.{◌≡◌, ◌⊎◌, ℕ, zero, suc, ◌+◌, ◌/◌, ◌%◌, ◌^◌, ◌<◌, ◌≤◌, ⊤, List, [], ◌∷◌, ◌++◌, codes, decimal, Option, Some, None}
use Rattle.mk_names.specs.declared.limits.TheConstants.{MAX_SHARE}
use Rattle.mk_text.specs.Joined.{◌&◌, spaced, AreSeveral}

-- a number of at most nine digits
abbrev pub IsShort : ℕ → Type 0
IsShort n = n < 10 ^ 9

-- a number of a reply
abbrev pub IsLong : ℕ → Type 0
IsLong n = n < 2 ^ 63

-- a number that a field of 32 bits holds
abbrev pub IsNarrow : ℕ → Type 0
IsNarrow n = n < 2 ^ 32

-- the last digits of a number, as many as there are places
unfoldable pub places : ℕ → ℕ → List ℕ
places zero n = []
places (suc count) n = places count (n / 10) ++ (48 + n % 10) ∷ []

-- how many units of a price make one point
abbrev pub units : ℕ
units = 10 ^ 10

abbrev pub IsPrice : ℕ → Type 0
IsPrice price = price ≤ units

-- the whole points, a point, and ten digits
abbrev pub price_text : ℕ → List ℕ
price_text price = decimal (price / units) & codes "." & places 10 (price % units)

-- limits within a million, in order
pub record IsWithinLimits (low high : ℕ) : Type 0 where
  pub positive : 1 ≤ low
  pub ordered : low ≤ high
  pub below : high ≤ MAX_SHARE

abbrev pub AreLimits : Option (ℕ × ℕ) → Type 0
AreLimits None = ⊤
AreLimits (Some limits) = IsWithinLimits limits.0 limits.1

-- two numbers with two points between them
abbrev pub range_text : ℕ → ℕ → List ℕ
range_text low high = decimal low & codes ".." & decimal high

abbrev pub limits_text : Option (ℕ × ℕ) → List ℕ
limits_text None = codes "none"
limits_text (Some limits) = range_text limits.0 limits.1

-- an interval within a million, or of nothing alone
abbrev pub IsInterval : ℕ × ℕ → Type 0
IsInterval interval = (interval ≡ (0, 0)) ⊎ IsWithinLimits interval.0 interval.1

abbrev pub interval_text : ℕ × ℕ → List ℕ
interval_text interval = range_text interval.0 interval.1

-- an interval for each value of a variable, or none
abbrev pub AreIntervals : Option (List (ℕ × ℕ)) → Type 0
AreIntervals None = ⊤
AreIntervals (Some intervals) = AreSeveral IsInterval intervals

abbrev pub intervals_text : Option (List (ℕ × ℕ)) → List ℕ
intervals_text None = codes "none"
intervals_text (Some intervals) = spaced interval_text intervals

-- two prices with two points between them
abbrev pub ArePrices : ℕ × ℕ → Type 0
ArePrices prices = IsPrice prices.0 × IsPrice prices.1

abbrev pub prices_text : ℕ × ℕ → List ℕ
prices_text prices = price_text prices.0 & codes ".." & price_text prices.1

-- two numbers of a reply with two points between them, or none
abbrev pub AreEnds : Option (ℕ × ℕ) → Type 0
AreEnds None = ⊤
AreEnds (Some ends) = IsLong ends.0 × IsLong ends.1

abbrev pub ends_text : Option (ℕ × ℕ) → List ℕ
ends_text None = codes "none"
ends_text (Some ends) = range_text ends.0 ends.1
