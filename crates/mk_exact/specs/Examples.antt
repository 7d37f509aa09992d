-- Five small networks, the first market's history, and their numbers.
use Rattle.std.specs.Prelude.{◌≡◌, ℕ, ◌^◌, false, List, [], ◌∷◌, ◌++◌, true, map, codes, Some, None, not}
use Rattle.mk_net.specs.declared.words.Pair.{Pair}
use Rattle.mk_net.specs.Bounds.{sharpness}
use Rattle.mk_net.specs.Network.{Variable, IsNetwork}
use Rattle.mk_net.specs.Asked.{Asked}
use Rattle.mk_net.specs.Zeros.{with_zeros}
use Rattle.mk_states.specs.InitialWeight.{all_states, initial_total}
use Rattle.mk_states.specs.Events.{has, with_target, always}
use Rattle.mk_exact.specs.History.{Entry, Join, Deposit, Resolve}
use Rattle.mk_exact.specs.Weight.{weight, total, possible_states, cannot_come, IsSmall}
use Rattle.mk_exact.specs.Factors.{Fraction, HoldsNoTrade, factor, factor_with, least_gain}
use Rattle.mk_exact.specs.Prices.{CoversPrice, exact_price}
use Rattle.mk_exact.specs.Cash.{IsCash, CoversCash}
use Rattle.mk_exact.specs.Risk.{least_weight, CoversBound}
use Rattle.mk_exact.specs.Accepted.{IsMost, AreAccepted}
use Rattle.mk_exact.specs.Market.{Market}
use Rattle.mk_exact.specs.Limits.{Side}
use Rattle.mk_exact.specs.Sides.{traded, AreFair, AreSolvent, AreSides, AreRightLimits}

abbrev pub variable : List ℕ → List (List ℕ) → List ℕ → List (List ℕ) → Variable
variable name values parents rows = record { name = name; values = values; parents = parents; rows = rows }

abbrev pub up_down : List (List ℕ)
up_down = codes "up" ∷ codes "down" ∷ []

abbrev pub coin : List Variable
coin = variable (codes "coin") (codes "heads" ∷ codes "tails" ∷ []) [] ((500000 ∷ 500000 ∷ []) ∷ []) ∷ []

abbrev pub die : List Variable
die = variable (codes "die") (codes "low" ∷ codes "mid" ∷ codes "high" ∷ []) [] ((333333 ∷ 333333 ∷ 333334 ∷ []) ∷ []) ∷ []

abbrev pub weather : List Variable
weather = variable (codes "season") (codes "wet" ∷ codes "dry" ∷ []) [] ((400000 ∷ 600000 ∷ []) ∷ [])
    ∷ variable (codes "rain") (codes "yes" ∷ codes "no" ∷ []) (0 ∷ []) ((700000 ∷ 300000 ∷ []) ∷ (100000 ∷ 900000 ∷ []) ∷ []) ∷ []

abbrev pub chain : List Variable
chain = variable (codes "a") up_down [] ((500000 ∷ 500000 ∷ []) ∷ [])
    ∷ variable (codes "b") up_down (0 ∷ []) ((600000 ∷ 400000 ∷ []) ∷ (300000 ∷ 700000 ∷ []) ∷ [])
    ∷ variable (codes "c") up_down (1 ∷ []) ((800000 ∷ 200000 ∷ []) ∷ (100000 ∷ 900000 ∷ []) ∷ []) ∷ []

abbrev pub is : ℕ → ℕ → Pair
is v x = record { variable = v; value = x }

-- whether variable v has value x, under a condition
abbrev pub ask : ℕ → ℕ → List Pair → Asked
ask v x condition = record { target = is v x; condition = condition }

abbrev pub fraction : ℕ → ℕ → Fraction
fraction num den = record { num = num; den = den }

-- the four are networks, and the weights of their states together a power of a million
pub record AreNetworks : Type 0 where
  pub coin_is : IsNetwork coin
  pub die_is : IsNetwork die
  pub weather_is : IsNetwork weather
  pub chain_is : IsNetwork chain
  pub coin_total : initial_total coin ≡ 10 ^ 6
  pub die_total : initial_total die ≡ 10 ^ 6
  pub weather_total : initial_total weather ≡ 10 ^ 12
  pub chain_total : initial_total chain ≡ 10 ^ 18

-- the weights of a network's states, in the order of the states
abbrev pub weights : List Variable → List Entry → List ℕ
weights network H = map (weight network H) (all_states network)

-- weights and prices before any change
pub record HaveWeights : Type 0 where
  pub coin_weights : weights coin [] ≡ 500000 ∷ 500000 ∷ []
  pub die_weights : weights die [] ≡ 333333 ∷ 333333 ∷ 333334 ∷ []
  pub weather_states : all_states weather ≡ (0 ∷ 0 ∷ []) ∷ (0 ∷ 1 ∷ []) ∷ (1 ∷ 0 ∷ []) ∷ (1 ∷ 1 ∷ []) ∷ []
  pub weather_weights : weights weather [] ≡ 280000000000 ∷ 120000000000 ∷ 60000000000 ∷ 540000000000 ∷ []
  pub chain_weights : weights chain [] ≡ 240000000000000000 ∷ 60000000000000000 ∷ 20000000000000000 ∷ 180000000000000000
      ∷ 120000000000000000 ∷ 30000000000000000 ∷ 35000000000000000 ∷ 315000000000000000 ∷ []

pub record HavePrices : Type 0 where
  pub low : exact_price die [] (ask 0 0 []) ≡ fraction 333333 1000000
  pub high : exact_price die [] (ask 0 2 []) ≡ fraction 333334 1000000
  pub wet : exact_price weather [] (ask 0 0 []) ≡ fraction 400000000000 1000000000000
  pub rain : exact_price weather [] (ask 1 0 []) ≡ fraction 340000000000 1000000000000
  pub rain_if_wet : exact_price weather [] (ask 1 0 (is 0 0 ∷ [])) ≡ fraction 280000000000 400000000000
  pub b_up : exact_price chain [] (ask 1 0 []) ≡ fraction 450000000000000000 1000000000000000000
  pub c_up : exact_price chain [] (ask 2 0 []) ≡ fraction 415000000000000000 1000000000000000000
  pub a_up_if_b_up : exact_price chain [] (ask 0 0 (is 1 0 ∷ [])) ≡ fraction 300000000000000000 450000000000000000
  pub c_up_if_a_up : exact_price chain [] (ask 2 0 (is 0 0 ∷ [])) ≡ fraction 260000000000000000 500000000000000000

-- alice joins, deposits one bit, and takes heads to 600,000
abbrev pub alice : List ℕ
alice = codes "alice"

abbrev pub heads : Asked
heads = ask 0 0 []

abbrev pub deposited_one : List Entry
deposited_one = Join alice ∷ Deposit 0 1 ∷ []

abbrev pub heads_taken : List Entry
heads_taken = traded coin deposited_one 0 heads 1319413953331 879609302220

-- the weights, the price and the factors after it
pub record HasTraded : Type 0 where
  pub weights_now : weights coin heads_taken ≡ 659706976665500000 ∷ 439804651110000000 ∷ []
  pub total_now : total coin heads_taken always ≡ 1099511627775500000
  pub small : IsSmall coin heads_taken
  pub price : exact_price coin heads_taken heads ≡ fraction 659706976665500000 1099511627775500000
  pub least : least_gain coin heads_taken 0 always ≡ Some 879609302220
  pub least_heads : least_gain coin heads_taken 0 (with_target heads) ≡ Some 1319413953331
  pub none_left : least_gain coin (heads_taken ++ Resolve (is 0 0) ∷ []) 0 (λ s. not (has (is 0 0) s)) ≡ None
  pub alice_in_heads : factor heads_taken 0 (0 ∷ []) ≡ fraction 2638827906662 (2 ^ 40)
  pub alice_in_tails : factor heads_taken 0 (1 ∷ []) ≡ fraction 1759218604440 (2 ^ 40)
  pub one_state : possible_states coin (heads_taken ++ Resolve (is 0 0) ∷ []) always ≡ (0 ∷ []) ∷ []

-- a market of the coin
abbrev pub coin_alone : Market
coin_alone = record { network = coin; cliques = (0 ∷ []) ∷ []; points_per_bit = 100; max_trades = 1000; max_users = 256; max_transfers = 65536; zeros = false }

-- the pair was fair and solvent, and the history is accepted
pub record WasSafe : Type 0 where
  pub fair : AreFair coin deposited_one heads 600000 1319413953331 879609302220
  pub not_more : AreFair coin deposited_one heads 600000 1319413953332 879609302220 → ⊥
  pub solvent : AreSolvent coin deposited_one 0 heads 1319413953331 879609302220
  pub bankrupt : AreSolvent coin deposited_one 0 heads 1649267441665 549755813887 → ⊥
  pub accepted : AreAccepted coin_alone [] heads_taken

-- what alice is worth after it: 126 points in heads, 67 in tails, and no whole bit to withdraw
pub record IsWorth : Type 0 where
  pub heads_cash : IsCash (factor heads_taken 0 (0 ∷ [])) 100 126
  pub tails_cash : IsCash (factor heads_taken 0 (1 ∷ [])) 100 67
  pub no_bit : IsMost (IsSmall coin heads_taken) (HoldsNoTrade heads_taken 0)
      (sharpness coin_alone.max_trades) (factor_with heads_taken 0 879609302220) 0

-- both sides of heads before it: an even price, and a factor of two
abbrev pub even : Side
even = record { price = fraction 500000 1000000; least = fraction 2 1 }

-- the right limits then are 250,000 to 750,000, and one share more or less is wrong
pub record HasLimits : Type 0 where
  pub sides : AreSides coin deposited_one 0 heads even even
  pub right : AreRightLimits coin deposited_one 0 heads (Some (250000, 750000))
  pub too_wide : AreRightLimits coin deposited_one 0 heads (Some (250000, 750001)) → ⊥
  pub too_narrow : AreRightLimits coin deposited_one 0 heads (Some (250001, 750000)) → ⊥
  pub not_none : AreRightLimits coin deposited_one 0 heads None → ⊥

-- ann takes rain, where the season is wet, to 800,000
abbrev pub wet_rain : Asked
wet_rain = ask 1 0 (is 0 0 ∷ [])

abbrev pub rain_taken : List Entry
rain_taken = traded weather (Join (codes "ann") ∷ Deposit 0 1 ∷ []) 0 wet_rain 1256584717458 733007751850

-- where the season is dry nothing moves, and the season's own price hardly does
pub record HasConditioned : Type 0 where
  pub weights_now : weights weather rain_taken ≡ 351843720888240000000000 ∷ 87960930222000000000000 ∷ 65970697666560000000000 ∷ 593736278999040000000000 ∷ []
  pub rain_if_wet : exact_price weather rain_taken wet_rain ≡ fraction 351843720888240000000000 439804651110240000000000
  pub rain_if_dry : exact_price weather rain_taken (ask 1 0 (is 0 1 ∷ [])) ≡ fraction 65970697666560000000000 659706976665600000000000
  pub wet : exact_price weather rain_taken (ask 0 0 []) ≡ fraction 439804651110240000000000 1099511627775840000000000
  pub least : least_gain weather rain_taken 0 always ≡ Some 733007751850
  pub least_if_dry : least_gain weather rain_taken 0 (has (is 0 1)) ≡ Some 1099511627776
  pub none_if_wet : least_gain weather (rain_taken ++ Resolve (is 0 1) ∷ []) 0 (has (is 0 0)) ≡ None

-- two traders on the chain: alice takes b up, where a is down, to 450,000; bob then c up, where b is down, to 250,000
abbrev pub both_traded : List Entry
both_traded = traded chain (traded chain (Join alice ∷ Join (codes "bob") ∷ Deposit 0 2 ∷ Deposit 1 2 ∷ []) 0 (ask 1 0 (is 0 1 ∷ [])) 1649267441664 863901993252)
    1 (ask 2 0 (is 1 1 ∷ [])) 2748779069440 916259689813

pub record HasTwoTraders : Type 0 where
  pub weights_now : weights chain both_traded
      ≡ 290142196707511001929482240000000000000000 ∷ 72535549176877750482370560000000000000000
      ∷ 60446290980731458735308800000000000000000 ∷ 181338872942128405508259840000000000000000
      ∷ 217606647530633251447111680000000000000000 ∷ 54401661882658312861777920000000000000000
      ∷ 83113650098450780179660800000000000000000 ∷ 249340950295261630829690940000000000000000 ∷ []
  pub total_now : total chain both_traded always ≡ 1208925819614252591973662780000000000000000
  pub c_up : exact_price chain both_traded (ask 2 0 []) ≡ fraction 651308785317326492291563520000000000000000 1208925819614252591973662780000000000000000
  pub a_up_if_c_up : exact_price chain both_traded (ask 0 0 (is 2 0 ∷ [])) ≡ fraction 350588487688242460664791040000000000000000 651308785317326492291563520000000000000000
  pub least_alice : least_gain chain both_traded 0 always ≡ Some 863901993252
  pub least_bob : least_gain chain both_traded 1 always ≡ Some 916259689813
  pub least_bob_right : least_gain chain both_traded 1 (with_target (ask 2 0 (is 1 1 ∷ []))) ≡ Some 2748779069440
  pub after_a_up : exact_price chain (both_traded ++ Resolve (is 0 0) ∷ []) (ask 2 0 [])
      ≡ fraction 350588487688242460664791040000000000000000 604462909807248616655421440000000000000000
  pub alice_after_a_up : least_gain chain (both_traded ++ Resolve (is 0 0) ∷ []) 0 always ≡ Some 1099511627776

-- this is no small case, and yet a price is not two units wide, nor alice paid a point too little
-- or told of a bit too few, in a market of any number of trades; and who holds no trade is paid
-- exactly
abbrev pub alice_after_both : Fraction
alice_after_both = factor_with both_traded 0 863901993252

pub record AreSharp (near : ℕ) : Type 0 where
  pub not_small : IsSmall chain both_traded → ⊥
  pub price : CoversPrice (IsSmall chain both_traded) near
      (exact_price chain both_traded (ask 0 0 (is 2 0 ∷ []))) 5382830626 5382830627
  pub not_below : CoversPrice (IsSmall chain both_traded) near
      (exact_price chain both_traded (ask 0 0 (is 2 0 ∷ []))) 5382830625 5382830627 → ⊥
  pub not_above : CoversPrice (IsSmall chain both_traded) near
      (exact_price chain both_traded (ask 0 0 (is 2 0 ∷ []))) 5382830626 5382830628 → ⊥
  pub cash : CoversCash (IsSmall chain both_traded) (HoldsNoTrade both_traded 0)
      near alice_after_both 100 165 165
  pub not_less : CoversCash (IsSmall chain both_traded) (HoldsNoTrade both_traded 0)
      near alice_after_both 100 164 165 → ⊥
  pub not_more : CoversCash (IsSmall chain both_traded) (HoldsNoTrade both_traded 0)
      near alice_after_both 100 165 166 → ⊥
  pub one_bit : IsMost (IsSmall chain both_traded) (HoldsNoTrade both_traded 0)
      near alice_after_both 1
  pub not_none : IsMost (IsSmall chain both_traded) (HoldsNoTrade both_traded 0)
      near alice_after_both 0 → ⊥
  pub paid_back : CoversCash (IsSmall coin deposited_one) (HoldsNoTrade deposited_one 0)
      near (factor_with deposited_one 0 1) 100 100 100
  pub not_short : CoversCash (IsSmall coin deposited_one) (HoldsNoTrade deposited_one 0)
      near (factor_with deposited_one 0 1) 100 99 100 → ⊥

-- a cup of four: two even semi-finals, and an even final of those who win them
abbrev pub even_row : List ℕ
even_row = 500000 ∷ 500000 ∷ []

abbrev pub cup : List Variable
cup = variable (codes "s1") (codes "a" ∷ codes "b" ∷ []) [] (even_row ∷ [])
    ∷ variable (codes "s2") (codes "c" ∷ codes "d" ∷ []) [] (even_row ∷ [])
    ∷ variable (codes "w") (codes "a" ∷ codes "b" ∷ codes "c" ∷ codes "d" ∷ []) (0 ∷ 1 ∷ [])
    ((500000 ∷ 0 ∷ 500000 ∷ 0 ∷ []) ∷ (500000 ∷ 0 ∷ 0 ∷ 500000 ∷ []) ∷ (0 ∷ 500000 ∷ 500000 ∷ 0 ∷ []) ∷ (0 ∷ 500000 ∷ 0 ∷ 500000 ∷ []) ∷ []) ∷ []

-- half of the lists of values cannot come: the cup is not won by who lost a semi-final, and who won it surely won a semi-final
pub record HasZeros : Type 0 where
  pub cup_is : IsNetwork cup
  pub winner_has : with_zeros cup ≡ 2 ∷ []
  pub cup_total : initial_total cup ≡ 10 ^ 18
  pub states : all_states cup ≡ (0 ∷ 0 ∷ 0 ∷ []) ∷ (0 ∷ 0 ∷ 2 ∷ []) ∷ (0 ∷ 1 ∷ 0 ∷ []) ∷ (0 ∷ 1 ∷ 3 ∷ [])
      ∷ (1 ∷ 0 ∷ 1 ∷ []) ∷ (1 ∷ 0 ∷ 2 ∷ []) ∷ (1 ∷ 1 ∷ 1 ∷ []) ∷ (1 ∷ 1 ∷ 3 ∷ []) ∷ []
  pub never : exact_price cup [] (ask 2 0 (is 0 1 ∷ [])) ≡ fraction 0 500000000000000000
  pub sure : exact_price cup [] (ask 0 0 (is 2 0 ∷ [])) ≡ fraction 250000000000000000 250000000000000000
  pub lost : cannot_come cup (Resolve (is 0 1) ∷ []) (has (is 2 0)) ≡ true
  pub open_still : cannot_come cup (Resolve (is 0 1) ∷ []) (has (is 2 2)) ≡ false
  pub least : least_weight cup [] ≡ Some 125000000000000000
  pub three_bits : CoversBound (10 ^ 18) 125000000000000000 100 300 300
  pub not_four : CoversBound (10 ^ 18) 125000000000000000 100 300 400 → ⊥
