-- Refusals, replies and quotes of whole distributions in small markets.
use Rattle.std.specs.Prelude.{◌≡◌, ℕ, List, [], ◌∷◌, ◌++◌, codes, Option, Some, None}
use Rattle.arrayvec.specs.ArrayVec.{ArrayVec}
use Rattle.mk_net.specs.declared.words.Pair.{Pair}
use Rattle.mk_net.specs.declared.words.PairText.{PairText}
use Rattle.mk_exact.specs.History.{Join, Trade}
use Rattle.mk_exact.specs.Examples.{is, alice, deposited_one, heads_taken}
use Rattle.mk_spread.specs.Spreads.{SpreadAsked, spread_ratio}
use Rattle.mk_spread.specs.Bounds.{Intervals}
use Rattle.mk_spread.specs.Examples.{every_face}
use Rattle.mk_command.specs.declared.command.Command.{Command}
use Rattle.mk_command.specs.declared.command.Command.TheVariants.{Bounds, Spread}
use Rattle.mk_reply.specs.declared.refusal.Refusal.TheVariants.{Settled as IsSettled, User as NoUser, Unknown, Twice, Stale, Resolved, Impossible, Wide, Range, Full, NoVariable, Numbers, Sum, Outside}
use Rattle.mk_reply.specs.declared.reply.Reply.{Reply}
use Rattle.mk_reply.specs.declared.reply.Reply.TheVariants.{Bounded, Spreaded, Refused}
use Rattle.mk_rules.specs.Refusals.{first_refusal}
use Rattle.mk_rules.specs.Quotes.{Quote, Quotes, SpreadBounds, current_limits, current_bounds}
use Rattle.mk_rules.specs.Answers.{IsAllowed, next_history, next_quotes}
use Rattle.mk_rules.specs.Examples.{coin_market, one_trade, die_market, weather_market}
use Rattle.mk_rules.specs.Examples.{chain_market, bob, zed, wet, both_joined, heads_up, all_paid}
use Rattle.mk_rules.specs.Examples.{dry, two_up, under_both, quote_of, up, down, left}

-- the bounds of a variable under a condition, and a spread over its values
abbrev pub bounds_over : List ℕ → List ℕ → List PairText → Command
bounds_over user name pairs = Bounds user name (record { items = pairs })

abbrev pub spread_over : List ℕ → List ℕ → List PairText → List ℕ → Option ℕ → Command
spread_over user name pairs shares seen = Spread user name (record { items = pairs }) (record { items = shares }) seen

abbrev pub of_coin : List ℕ → List ℕ → Option ℕ → Command
of_coin user shares seen = spread_over user (codes "coin") [] shares seen

abbrev pub of_chain : List ℕ → List PairText → Command
of_chain name pairs = spread_over alice name pairs (600000 ∷ 400000 ∷ []) None

-- each refusal of a spread where it comes first, and commands that meet none
pub record AreSpreadsRefused : Type 0 where
  pub settled : first_refusal coin_market all_paid (of_coin alice (600000 ∷ 400000 ∷ []) None) ≡ Some IsSettled
  pub no_user : first_refusal coin_market deposited_one (of_coin bob (600000 ∷ 400000 ∷ []) None) ≡ Some (NoUser bob)
  pub no_variable : first_refusal coin_market deposited_one (spread_over alice (codes "die") [] (600000 ∷ 400000 ∷ []) None) ≡ Some (NoVariable (codes "die"))
  pub unknown : first_refusal chain_market (Join alice ∷ []) (of_chain (codes "c") (left "b" ∷ [])) ≡ Some (Unknown (left "b"))
  pub twice : first_refusal chain_market (Join alice ∷ []) (of_chain (codes "c") (up "b" ∷ down "b" ∷ [])) ≡ Some (Twice (codes "b"))
  pub own_variable : first_refusal chain_market (Join alice ∷ []) (of_chain (codes "c") (up "b" ∷ up "c" ∷ [])) ≡ Some (Twice (codes "c"))
  pub stale : first_refusal coin_market both_joined (of_coin bob (600000 ∷ 400000 ∷ []) (Some 3)) ≡ Some (Stale 3 4)
  pub resolved : first_refusal coin_market heads_up (of_coin bob (600000 ∷ 400000 ∷ []) None) ≡ Some (Resolved (codes "coin"))
  pub impossible : first_refusal weather_market dry (spread_over (codes "ann") (codes "rain") (wet ∷ []) (600000 ∷ 400000 ∷ []) None) ≡ Some (Impossible wet)
  pub wide : first_refusal chain_market (Join alice ∷ []) (of_chain (codes "c") (up "a" ∷ [])) ≡ Some Wide
  pub one_more : first_refusal coin_market deposited_one (of_coin alice (600000 ∷ 300000 ∷ 100000 ∷ []) None) ≡ Some (Numbers 3)
  pub to_0 : first_refusal coin_market deposited_one (of_coin alice (1000000 ∷ 0 ∷ []) None) ≡ Some (Range 1000000)
  pub to_million : first_refusal coin_market deposited_one (of_coin alice (0 ∷ 1000000 ∷ []) None) ≡ Some (Range 0)
  pub last_number : first_refusal coin_market deposited_one (of_coin alice (999999 ∷ 1000000 ∷ []) None) ≡ Some (Range 1000000)
  pub one_less : first_refusal coin_market deposited_one (of_coin alice (600000 ∷ 399999 ∷ []) None) ≡ Some (Sum 999999)
  pub full : first_refusal one_trade heads_taken (of_coin alice (600000 ∷ 400000 ∷ []) None) ≡ Some (Full 1)
  pub not_stale : first_refusal coin_market both_joined (of_coin bob (999999 ∷ 1 ∷ []) (Some 4)) ≡ None
  pub under_a_condition : first_refusal chain_market (Join alice ∷ []) (of_chain (codes "a") (up "b" ∷ [])) ≡ None
  pub bounds_at_full : first_refusal one_trade heads_taken (bounds_over alice (codes "coin") []) ≡ None

-- where two refusals apply, this one of them comes first: for each two neighbours of a command's list
pub record SpreadsComeInOrder : Type 0 where
  pub bounds_settled : first_refusal coin_market all_paid (bounds_over zed (codes "coin") []) ≡ Some IsSettled
  pub bounds_no_user : first_refusal chain_market [] (bounds_over zed (codes "d") []) ≡ Some (NoUser zed)
  pub bounds_no_variable : first_refusal chain_market two_up (bounds_over alice (codes "d") (left "b" ∷ [])) ≡ Some (NoVariable (codes "d"))
  pub bounds_unknown : first_refusal chain_market two_up (bounds_over alice (codes "c") (left "b" ∷ up "b" ∷ [])) ≡ Some (Unknown (left "b"))
  pub bounds_twice : first_refusal chain_market two_up (bounds_over alice (codes "a") (up "a" ∷ [])) ≡ Some (Twice (codes "a"))
  pub bounds_resolved : first_refusal chain_market two_up (bounds_over alice (codes "a") (down "b" ∷ [])) ≡ Some (Resolved (codes "a"))
  pub bounds_impossible : first_refusal chain_market two_up (bounds_over alice (codes "c") (down "a" ∷ [])) ≡ Some (Impossible (down "a"))
  pub spread_settled : first_refusal coin_market all_paid (of_coin zed (600000 ∷ 400000 ∷ []) None) ≡ Some IsSettled
  pub spread_no_user : first_refusal chain_market [] (spread_over zed (codes "d") [] (600000 ∷ 400000 ∷ []) None) ≡ Some (NoUser zed)
  pub spread_no_variable : first_refusal chain_market two_up (of_chain (codes "d") (left "b" ∷ [])) ≡ Some (NoVariable (codes "d"))
  pub spread_unknown : first_refusal chain_market two_up (of_chain (codes "c") (left "b" ∷ up "b" ∷ [])) ≡ Some (Unknown (left "b"))
  pub spread_twice : first_refusal chain_market two_up
      (spread_over alice (codes "c") (down "c" ∷ []) (600000 ∷ 400000 ∷ []) (Some 4))
      ≡ Some (Twice (codes "c"))
  pub spread_stale : first_refusal chain_market two_up (spread_over alice (codes "a") [] (600000 ∷ 400000 ∷ []) (Some 4)) ≡ Some (Stale 4 3)
  pub spread_resolved : first_refusal chain_market two_up (of_chain (codes "a") (down "b" ∷ [])) ≡ Some (Resolved (codes "a"))
  pub spread_impossible : first_refusal chain_market two_up (of_chain (codes "c") (down "a" ∷ [])) ≡ Some (Impossible (down "a"))
  pub spread_wide : first_refusal chain_market two_up (spread_over alice (codes "c") (up "a" ∷ []) (1000000 ∷ []) None) ≡ Some Wide
  pub spread_numbers : first_refusal coin_market deposited_one (of_coin alice (1000000 ∷ []) None) ≡ Some (Numbers 1)
  pub spread_range : first_refusal coin_market deposited_one (of_coin alice (1000000 ∷ 1 ∷ []) None) ≡ Some (Range 1000000)
  pub spread_sum : first_refusal one_trade heads_taken (of_coin alice (600000 ∷ 400001 ∷ []) None) ≡ Some (Sum 1000001)

-- a quote of bounds over the values of a variable under two conditions
abbrev pub over_last : List Pair → SpreadAsked
over_last condition = record { variable = 2; condition = condition }

abbrev pub both_up : SpreadAsked
both_up = over_last (is 0 0 ∷ is 1 0 ∷ [])

abbrev pub halves : Intervals
halves = Some ((250000, 750000) ∷ (250000, 750000) ∷ [])

abbrev pub bounds_of : SpreadAsked → ℕ → Option Quote
bounds_of spread at = Some (record { says = SpreadBounds spread halves; at = at })

-- when a quote judges a spread
pub record AreSpreadsCurrent : Type 0 where
  pub current : current_bounds (bounds_of both_up 2) both_up 2 ≡ Some halves
  pub no_quote : current_bounds None both_up 2 ≡ None
  pub other_variable : current_bounds (bounds_of both_up 2) (record { variable = 1; condition = is 0 0 ∷ is 1 0 ∷ [] }) 2 ≡ None
  pub other_value : current_bounds (bounds_of both_up 2) (over_last (is 0 0 ∷ is 1 1 ∷ [])) 2 ≡ None
  pub fewer_conditions : current_bounds (bounds_of both_up 2) (over_last (is 0 0 ∷ [])) 2 ≡ None
  pub other_order : current_bounds (bounds_of both_up 2) (over_last (is 1 0 ∷ is 0 0 ∷ [])) 2 ≡ None
  pub other_revision : current_bounds (bounds_of both_up 2) both_up 3 ≡ None
  pub not_an_edit : current_limits (bounds_of both_up 2) under_both 2 ≡ None
  pub not_by_limits : current_bounds (quote_of under_both 2) both_up 2 ≡ None

-- what alice may spread over the faces of the die, and bounds that are a share too wide
abbrev pub given : List (ℕ × ℕ) → Option (ArrayVec (ℕ × ℕ))
given intervals = Some (record { items = intervals })

abbrev pub die_bounds : List (ℕ × ℕ)
die_bounds = (166667, 999999) ∷ (166667, 999999) ∷ (166667, 999999) ∷ []

abbrev pub wider_bounds : List (ℕ × ℕ)
wider_bounds = (166667, 999999) ∷ (166666, 999999) ∷ (166667, 999999) ∷ []

abbrev pub die_quotes : Quotes
die_quotes = Some (record { says = SpreadBounds every_face (Some die_bounds); at = 2 }) ∷ []

abbrev pub ask_bounds : Command
ask_bounds = bounds_over alice (codes "die") []

abbrev pub of_die : List ℕ → Command
of_die shares = spread_over alice (codes "die") [] shares (Some 2)

-- shares inside of the bounds, and shares of which one is outside
abbrev pub inside_shares : List ℕ
inside_shares = 200000 ∷ 300000 ∷ 500000 ∷ []

abbrev pub outside_shares : List ℕ
outside_shares = 166666 ∷ 333334 ∷ 500000 ∷ []

abbrev pub die_factors : List ℕ
die_factors = 659707636373 ∷ 989561454559 ∷ 1649264143135 ∷ []

abbrev pub spreaded : List ℕ → ℕ → Reply
spreaded factors at = Spreaded (record { items = factors }) at

abbrev pub outside : List (ℕ × ℕ) → Reply
outside intervals = Refused (Outside (given intervals))

-- alice asks for bounds, and spreads by them or afresh; replies that are not allowed
pub record AreSpreadsAnswered : Type 0 where
  pub bounds : IsAllowed die_market deposited_one (None ∷ []) ask_bounds (Bounded (given die_bounds) 2)
  pub not_wider : IsAllowed die_market deposited_one (None ∷ []) ask_bounds (Bounded (given wider_bounds) 2) → ⊥
  pub not_none : IsAllowed die_market deposited_one (None ∷ []) ask_bounds (Bounded None 2) → ⊥
  pub quoted : next_quotes die_market deposited_one (None ∷ []) ask_bounds (Bounded (given die_bounds) 2) ≡ die_quotes
  pub spread : IsAllowed die_market deposited_one die_quotes (of_die inside_shares) (spreaded die_factors 3)
  pub appended : next_history die_market deposited_one (of_die inside_shares) (spreaded die_factors 3) ≡ deposited_one ++ Trade 0 (spread_ratio every_face die_factors) ∷ []
  pub not_now : IsAllowed die_market deposited_one die_quotes (of_die inside_shares) (spreaded die_factors 2) → ⊥
  pub not_outside : IsAllowed die_market deposited_one die_quotes (of_die inside_shares) (outside die_bounds) → ⊥
  pub beyond : IsAllowed die_market deposited_one die_quotes (of_die outside_shares) (outside die_bounds)
  pub not_inside : (factors : List ℕ) → IsAllowed die_market deposited_one die_quotes (of_die outside_shares) (spreaded factors 3) → ⊥
  pub afresh : IsAllowed die_market deposited_one (None ∷ []) (of_die inside_shares) (spreaded die_factors 3)
  pub beyond_afresh : IsAllowed die_market deposited_one (None ∷ []) (of_die outside_shares) (outside die_bounds)
  pub quoted_by_refusal : next_quotes die_market deposited_one (None ∷ []) (of_die outside_shares) (outside die_bounds) ≡ die_quotes
  pub not_wider_afresh : IsAllowed die_market deposited_one (None ∷ []) (of_die outside_shares) (outside wider_bounds) → ⊥
