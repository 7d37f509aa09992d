-- Refusals and replies of what is told of every value, and of a market, in small markets.
use Rattle.std.specs.Prelude.{◌≡◌, ℕ, List, [], ◌∷◌, codes, true, Option, Some, None}
use Rattle.mk_net.specs.declared.words.PairText.{PairText}
use Rattle.mk_exact.specs.History.{Join}
use Rattle.mk_exact.specs.Market.{Market}
use Rattle.mk_exact.specs.Examples.{cup, alice, heads_taken}
use Rattle.mk_command.specs.declared.command.Command.{Command}
use Rattle.mk_command.specs.declared.command.Command.TheVariants.{Prices, Position, Status}
use Rattle.mk_reply.specs.declared.refusal.Refusal.TheVariants.{Settled as IsSettled, Unknown}
use Rattle.mk_reply.specs.declared.refusal.Refusal.TheVariants.{User as NoUser, Twice, Resolved}
use Rattle.mk_reply.specs.declared.refusal.Refusal.TheVariants.{Impossible, Wide, NoVariable}
use Rattle.mk_reply.specs.declared.reply.Reply.{Reply}
use Rattle.mk_reply.specs.declared.reply.Reply.TheVariants.{Prices as Told, Position as Positioned}
use Rattle.mk_reply.specs.declared.reply.Reply.TheVariants.{Status as Counted}
use Rattle.mk_rules.specs.Refusals.{first_refusal}
use Rattle.mk_rules.specs.Answers.{IsAllowed, next_history, next_quotes}
use Rattle.mk_rules.specs.Examples.{coin_market, weather_market, chain_market, words, zed, up, down, left}
use Rattle.mk_rules.specs.Examples.{heads_up, all_paid, two_up}
use Rattle.mk_rules.specs.Examples.{dry}

abbrev pub prices_of : List ℕ → List PairText → Command
prices_of name pairs = Prices name (record { items = pairs })

abbrev pub position_of : List ℕ → List ℕ → List PairText → Command
position_of user name pairs = Position user name (record { items = pairs })

-- a cup whose final is in a clique with both semi-finals, and one whose semi-finals are apart
abbrev pub cup_with : List (List ℕ) → Market
cup_with cliques = record {
  network = cup;
  cliques = cliques;
  points_per_bit = 100;
  max_trades = 1000;
  max_users = 256;
  max_transfers = 65536;
  zeros = true;
}

abbrev pub cup_market : Market
cup_market = cup_with ((0 ∷ 1 ∷ 2 ∷ []) ∷ [])

abbrev pub cup_apart : Market
cup_apart = cup_with ((0 ∷ 2 ∷ []) ∷ (1 ∷ []) ∷ [])

-- b won the first semi-final, and a the cup
abbrev pub b_won : PairText
b_won = words (codes "s1") (codes "b")

abbrev pub a_cup : PairText
a_cup = words (codes "w") (codes "a")

-- where two refusals apply, this one of them comes first: for each two neighbours of a command's
-- list
pub record ToldInOrder : Type 0 where
  pub settled : first_refusal coin_market all_paid (prices_of (codes "d") []) ≡ Some IsSettled
  pub no_variable : first_refusal chain_market two_up (prices_of (codes "d") (left "b" ∷ []))
      ≡ Some (NoVariable (codes "d"))
  pub unknown : first_refusal chain_market two_up
      (prices_of (codes "c") (left "b" ∷ up "b" ∷ up "b" ∷ [])) ≡ Some (Unknown (left "b"))
  pub twice : first_refusal chain_market two_up (prices_of (codes "a") (up "a" ∷ []))
      ≡ Some (Twice (codes "a"))
  pub resolved : first_refusal chain_market two_up (prices_of (codes "a") (down "b" ∷ []))
      ≡ Some (Resolved (codes "a"))
  pub impossible : first_refusal chain_market two_up (prices_of (codes "c") (down "a" ∷ []))
      ≡ Some (Impossible (down "a"))
  pub wide : first_refusal cup_apart [] (prices_of (codes "s2") (b_won ∷ a_cup ∷ [])) ≡ Some Wide
  pub cannot_come : first_refusal cup_market [] (prices_of (codes "s2") (b_won ∷ a_cup ∷ []))
      ≡ Some (Impossible a_cup)
  pub other_order : first_refusal cup_market [] (prices_of (codes "s2") (a_cup ∷ b_won ∷ []))
      ≡ Some (Impossible b_won)
  pub of_settled : first_refusal coin_market all_paid (position_of zed (codes "d") [])
      ≡ Some IsSettled
  pub of_no_user : first_refusal coin_market [] (position_of zed (codes "d") []) ≡ Some (NoUser zed)
  pub of_no_variable : first_refusal chain_market two_up
      (position_of alice (codes "d") (left "b" ∷ [])) ≡ Some (NoVariable (codes "d"))
  pub of_unknown : first_refusal chain_market two_up
      (position_of alice (codes "c") (left "b" ∷ up "b" ∷ up "b" ∷ [])) ≡ Some (Unknown (left "b"))
  pub of_twice : first_refusal chain_market two_up (position_of alice (codes "a") (up "a" ∷ []))
      ≡ Some (Twice (codes "a"))
  pub of_resolved : first_refusal chain_market two_up (position_of alice (codes "a") (down "b" ∷ []))
      ≡ Some (Resolved (codes "a"))
  pub of_impossible : first_refusal chain_market two_up
      (position_of alice (codes "c") (down "a" ∷ [])) ≡ Some (Impossible (down "a"))
  pub of_wide : first_refusal cup_apart (Join alice ∷ [])
      (position_of alice (codes "s2") (b_won ∷ a_cup ∷ [])) ≡ Some Wide
  pub of_no_state : first_refusal cup_market (Join alice ∷ [])
      (position_of alice (codes "s2") (b_won ∷ a_cup ∷ [])) ≡ Some (Impossible a_cup)
  pub status_settled : first_refusal coin_market all_paid Status ≡ Some IsSettled
  -- what bounds are refused for, since one value alone can come, is told
  pub sure : first_refusal cup_market [] (prices_of (codes "s1") (a_cup ∷ [])) ≡ None
  pub of_sure : first_refusal cup_market (Join alice ∷ [])
      (position_of alice (codes "s1") (a_cup ∷ [])) ≡ None
  pub dry_rain : first_refusal weather_market dry (prices_of (codes "rain") []) ≡ None

abbrev pub prices : List (ℕ × ℕ) → Reply
prices intervals = Told (record { items = intervals })

abbrev pub position : List (Option (ℕ × ℕ)) → Reply
position intervals = Positioned (record { items = intervals })

abbrev pub half : ℕ × ℕ
half = (5000000000, 5000000000)

abbrev pub ask_prices : Command
ask_prices = prices_of (codes "coin") []

abbrev pub ask_position : Command
ask_position = position_of alice (codes "coin") []

-- replies that are allowed, and replies that are not
pub record IsTold : Type 0 where
  pub halves : IsAllowed coin_market [] [] ask_prices (prices (half ∷ half ∷ []))
  pub not_one : IsAllowed coin_market [] [] ask_prices (prices (half ∷ [])) → ⊥
  pub not_three : IsAllowed coin_market [] [] ask_prices (prices (half ∷ half ∷ half ∷ [])) → ⊥
  pub not_narrow : IsAllowed coin_market [] [] ask_prices
      (prices (half ∷ (4999999999, 5000000000) ∷ [])) → ⊥
  pub both_come : (ends : Option (ℕ × ℕ)) →
      IsAllowed coin_market heads_taken (None ∷ []) ask_position (position (ends ∷ None ∷ [])) → ⊥
  pub status : IsAllowed coin_market heads_taken (None ∷ []) Status (Counted 3 1 1 1000 1 65536 1 1)
  pub later : IsAllowed coin_market heads_up (None ∷ None ∷ []) Status
      (Counted 5 2 1 1000 1 65536 0 1)
  pub not_now : IsAllowed coin_market heads_taken (None ∷ []) Status
      (Counted 4 1 1 1000 1 65536 1 1) → ⊥
  pub not_open : IsAllowed coin_market heads_up (None ∷ None ∷ []) Status
      (Counted 5 2 1 1000 1 65536 1 1) → ⊥
  pub history_stays : next_history coin_market heads_taken Status (Counted 3 1 1 1000 1 65536 1 1)
      ≡ heads_taken
  pub quotes_stay : next_quotes coin_market heads_taken (None ∷ []) ask_position
      (position (None ∷ None ∷ [])) ≡ None ∷ []
