-- Refusals and replies of added questions in small markets.
use Rattle.std.specs.Prelude.{◌≡◌, ℕ, List, [], ◌∷◌, ◌++◌, codes, map, replicate, false, Some}
use Rattle.std.specs.Prelude.{None}
use Rattle.std.specs.List.{range_with_len}
use Rattle.mk_exact.specs.History.{Entry, Settle as Settles, Add as Adds}
use Rattle.mk_exact.specs.Market.{Market, present}
use Rattle.mk_exact.specs.Examples.{coin, variable}
use Rattle.mk_command.specs.declared.command.Command.{Command}
use Rattle.mk_command.specs.declared.command.Command.TheVariants.{Price, Add}
use Rattle.mk_reply.specs.declared.refusal.Refusal.TheVariants.{Settled as IsSettled, Variables}
use Rattle.mk_reply.specs.declared.refusal.Refusal.TheVariants.{Taken, ValueTwice, NoVariable}
use Rattle.mk_reply.specs.declared.refusal.Refusal.TheVariants.{Twice, Link, Uncovered, NotRunning}
use Rattle.mk_reply.specs.declared.refusal.Refusal.TheVariants.{RowCount, RowWidth, Range, Sum}
use Rattle.mk_reply.specs.declared.refusal.Refusal.TheVariants.{Cells, Memory, Wide}
use Rattle.mk_reply.specs.declared.reply.Reply.TheVariants.{Added, Refused}
use Rattle.mk_rules.specs.Refusals.{first_refusal}
use Rattle.mk_rules.specs.Answers.{IsAllowed, next_history}
use Rattle.mk_rules.specs.Examples.{coin_market, weather_market, all_paid, question, words, wet}

-- a question in words: its name, values, parents, rows and clique, and the clique to which it is
-- linked
abbrev pub add_of : List ℕ → List (List ℕ) → List (List ℕ) → List (List ℕ) → List (List ℕ) → ℕ
    → Command
add_of name values parents rows clique link = Add (record {
  variable = name;
  values = record { items = values };
  parents = record { items = parents };
  rows = record { items = rows };
  clique = record { items = clique };
  link = link;
})

-- words of this page
abbrev pub wind : List ℕ
wind = codes "wind"

abbrev pub umbrella : List ℕ
umbrella = codes "umbrella"

abbrev pub a_b : List (List ℕ)
a_b = codes "a" ∷ codes "b" ∷ []

abbrev pub yes_no : List (List ℕ)
yes_no = codes "yes" ∷ codes "no" ∷ []

abbrev pub the_rain : List ℕ
the_rain = codes "rain"

abbrev pub the_season : List ℕ
the_season = codes "season"

abbrev pub halves : List ℕ
halves = 500000 ∷ 500000 ∷ []

-- a question of two values that stands alone, with these rows, in the market of the weather
abbrev pub wind_with : List (List ℕ) → Command
wind_with rows = add_of wind a_b [] rows (wind ∷ []) 1

-- one that depends on the rain
abbrev pub wind_in : List (List ℕ) → List (List ℕ) → ℕ → Command
wind_in rows clique link = add_of wind a_b (the_rain ∷ []) rows clique link

-- a market that holds as many variables as it may, and one with twelve in one clique, or in eight
abbrev pub full_market : Market
full_market = record {
  network = coin ++ replicate 255 (variable (codes "die") a_b [] (halves ∷ []));
  cliques = (0 ∷ []) ∷ [];
  points_per_bit = 100;
  max_trades = 1000;
  max_users = 256;
  max_transfers = 65536;
  zeros = false;
}

abbrev pub letters : List (List ℕ)
letters = map (λ (byte : ℕ). byte ∷ []) (range_with_len 97 12)

abbrev pub twelve : ℕ → Market
twelve cliques = record {
  network = map (λ name. variable name a_b [] (halves ∷ [])) letters;
  cliques = replicate cliques (range_with_len 0 12);
  points_per_bit = 100;
  max_trades = 1000;
  max_users = 256;
  max_transfers = 65536;
  zeros = false;
}

-- where two refusals apply, this one of them comes first: for each two neighbours of the list
pub record AddsInOrder : Type 0 where
  pub settled : first_refusal full_market (Settles [] ∷ []) (wind_with (halves ∷ [])) ≡ Some IsSettled
  pub full : first_refusal full_market [] (add_of (codes "coin") a_b [] (halves ∷ [])
      (codes "coin" ∷ []) 1) ≡ Some (Variables 256)
  pub taken : first_refusal coin_market [] (add_of (codes "coin") (codes "a" ∷ codes "a" ∷ []) []
      (halves ∷ []) (codes "coin" ∷ []) 1) ≡ Some (Taken (codes "coin"))
  pub value : first_refusal weather_market [] (add_of wind (codes "a" ∷ codes "a" ∷ [])
      (codes "sun" ∷ []) (halves ∷ []) (wind ∷ []) 1) ≡ Some (ValueTwice (codes "a"))
  pub parent : first_refusal weather_market [] (add_of wind a_b (codes "sun" ∷ []) (halves ∷ [])
      (codes "moon" ∷ []) 1) ≡ Some (NoVariable (codes "sun"))
  pub own_parent : first_refusal weather_market [] (add_of wind a_b (wind ∷ []) (halves ∷ [])
      (wind ∷ []) 1) ≡ Some (NoVariable wind)
  pub in_clique : first_refusal weather_market [] (add_of wind a_b (the_rain ∷ the_rain ∷ [])
      (halves ∷ []) (wind ∷ codes "moon" ∷ []) 1) ≡ Some (NoVariable (codes "moon"))
  pub parent_twice : first_refusal weather_market [] (add_of wind a_b (the_rain ∷ the_rain ∷ [])
      (halves ∷ []) (wind ∷ wind ∷ []) 1) ≡ Some (Twice the_rain)
  pub twice_there : first_refusal weather_market [] (add_of wind a_b [] (halves ∷ [])
      (wind ∷ wind ∷ []) 3) ≡ Some (Twice wind)
  pub link : first_refusal weather_market [] (wind_in (halves ∷ []) (the_rain ∷ []) 3)
      ≡ Some (Link 3)
  pub no_clique : first_refusal weather_market [] (wind_in (halves ∷ []) (the_rain ∷ []) 0)
      ≡ Some (Link 0)
  pub cover : first_refusal weather_market [] (wind_in (halves ∷ []) (the_season ∷ []) 2)
      ≡ Some (Uncovered wind)
  pub cover_parent : first_refusal weather_market [] (add_of wind a_b (the_season ∷ [])
      (halves ∷ []) (the_rain ∷ wind ∷ []) 2) ≡ Some (Uncovered the_season)
  pub running : first_refusal weather_market [] (wind_in (halves ∷ []) (the_rain ∷ wind ∷ []) 2)
      ≡ Some (NotRunning the_rain)
  pub rows : first_refusal weather_market [] (wind_in ((0 ∷ []) ∷ []) (the_rain ∷ wind ∷ []) 1)
      ≡ Some (RowCount 1)
  pub width : first_refusal weather_market []
      (wind_in (halves ∷ (0 ∷ []) ∷ []) (the_rain ∷ wind ∷ []) 1) ≡ Some (RowWidth 2 1)
  pub range : first_refusal weather_market []
      (wind_in ((1 ∷ 2 ∷ []) ∷ (999999 ∷ 1000000 ∷ []) ∷ []) (the_rain ∷ wind ∷ []) 1)
      ≡ Some (Range 1000000)
  pub sums : first_refusal (twelve 1) [] (add_of wind a_b [] ((1 ∷ 2 ∷ []) ∷ [])
      (wind ∷ letters) 1) ≡ Some (Sum 3)
  pub large : first_refusal (twelve 1) [] (add_of wind a_b [] (halves ∷ []) (wind ∷ letters) 1)
      ≡ Some (Cells 12288)
  pub many : first_refusal (twelve 8) [] (wind_with (halves ∷ [])) ≡ Some (Cells 32770)
  pub fewer : first_refusal (twelve 7) [] (wind_with (halves ∷ [])) ≡ None
  pub after_all : first_refusal coin_market all_paid (wind_with (halves ∷ [])) ≡ Some IsSettled

-- an umbrella that depends on the rain
abbrev pub ask_umbrella : Command
ask_umbrella = add_of umbrella yes_no (the_rain ∷ [])
    ((900000 ∷ 100000 ∷ []) ∷ (200000 ∷ 800000 ∷ []) ∷ []) (the_rain ∷ umbrella ∷ []) 1

abbrev pub with_umbrella : List Entry
with_umbrella = Adds (record {
  variable = variable umbrella yes_no (1 ∷ [])
      ((900000 ∷ 100000 ∷ []) ∷ (200000 ∷ 800000 ∷ []) ∷ []);
  clique = 1 ∷ 2 ∷ [];
  link = 1;
}) ∷ []

abbrev pub umbrella_market : Market
umbrella_market = present weather_market with_umbrella

-- replies that are allowed, and replies that are not
pub record IsAdded : Type 0 where
  pub allowed : IsAllowed weather_market [] [] ask_umbrella (Added umbrella 1)
  pub no_memory : IsAllowed weather_market [] [] ask_umbrella (Refused Memory)
  pub not_at_once : IsAllowed weather_market [] [] ask_umbrella (Added umbrella 0) → ⊥
  pub not_another : IsAllowed weather_market [] [] ask_umbrella (Added wind 1) → ⊥
  pub appended : next_history weather_market [] ask_umbrella (Added umbrella 1) ≡ with_umbrella
  pub again : first_refusal umbrella_market with_umbrella ask_umbrella ≡ Some (Taken umbrella)
  pub priced : first_refusal umbrella_market with_umbrella
      (Price (question (words umbrella (codes "yes")) [])) ≡ None
  pub apart : first_refusal umbrella_market with_umbrella
      (Price (question (words umbrella (codes "yes")) (wet ∷ []))) ≡ Some Wide
  pub not_running : first_refusal umbrella_market with_umbrella
      (add_of (codes "mood") a_b (the_season ∷ umbrella ∷ []) (halves ∷ [])
      (the_season ∷ umbrella ∷ codes "mood" ∷ []) 1) ≡ Some (NotRunning umbrella)
  pub linked_to_it : first_refusal umbrella_market with_umbrella
      (add_of (codes "mood") a_b (umbrella ∷ []) (halves ∷ halves ∷ [])
      (umbrella ∷ codes "mood" ∷ []) 3) ≡ None
