-- Refusals, replies, quotes and a short run in small markets.
use Rattle.std.specs.Prelude.{◌≡◌, ℕ, List, [], ◌∷◌, ◌++◌, false, map, replicate, codes, Option, Some, None}
use Prim.Native.String.{String}
use Rattle.std.specs.List.{range_with_len}
use Rattle.mk_net.specs.declared.words.PairText.{PairText}
use Rattle.mk_net.specs.declared.words.QuestionText.{QuestionText}
use Rattle.mk_net.specs.Asked.{Asked}
use Rattle.mk_exact.specs.History.{Entry, Join, Deposit as Deposits, Withdraw as Withdraws, Resolve as Resolves, Settle as Settles}
use Rattle.mk_exact.specs.Market.{Market}
use Rattle.mk_exact.specs.Examples.{coin, die, weather, chain, is, ask, alice, deposited_one, heads_taken, rain_taken}
use Rattle.mk_command.specs.declared.command.Command.TheVariants.{User, Deposit, Withdraw, Price, Limits, Edit, Worst, Resolve, Settle, Paid}
use Rattle.mk_reply.specs.declared.refusal.Refusal.TheVariants.{Settled as IsSettled, User as NoUser, Exists, Users, Unknown, Twice, Stale, Resolved, Impossible, Wide, Range, Full, Beyond, Short, Unresolved, Unsettled, Memory}
use Rattle.mk_reply.specs.declared.payments.Payment.{Payment}
use Rattle.mk_reply.specs.declared.reply.Reply.{Reply}
use Rattle.mk_reply.specs.declared.reply.Reply.TheVariants.{Joined, Deposited, Withdrawn, Price as Priced, Limits as Limited, Traded, Worst as Worsted, Resolved as NowResolved, Settled, SettledAll, Paid as PaidOut, Refused}
use Rattle.mk_rules.specs.Refusals.{first_refusal}
use Rattle.mk_rules.specs.Quotes.{Quote, EditLimits, last_quote, current_limits}
use Rattle.mk_rules.specs.Answers.{IsAllowed, next_history, next_quotes}
use Rattle.mk_rules.specs.Standings.{IsMarket}
use Rattle.mk_rules.specs.Transcript.{Standing, opening, Line, OfCommand, Run}

-- a coin; a coin whose market takes one trade; a die; the weather; and a chain of three
abbrev pub coin_market : Market
coin_market = record { network = coin; cliques = (0 ∷ []) ∷ []; points_per_bit = 100; max_trades = 1000; max_users = 256; max_transfers = 65536; zeros = false }

abbrev pub one_trade : Market
one_trade = record { network = coin; cliques = (0 ∷ []) ∷ []; points_per_bit = 100; max_trades = 1; max_users = 256; max_transfers = 65536; zeros = false }

abbrev pub die_market : Market
die_market = record { network = die; cliques = (0 ∷ []) ∷ []; points_per_bit = 100; max_trades = 1000; max_users = 256; max_transfers = 65536; zeros = false }

abbrev pub weather_market : Market
weather_market = record { network = weather; cliques = (0 ∷ 1 ∷ []) ∷ (0 ∷ []) ∷ []; points_per_bit = 100; max_trades = 1000; max_users = 256; max_transfers = 65536; zeros = false }

abbrev pub chain_market : Market
chain_market = record {
  network = chain;
  cliques = (0 ∷ 1 ∷ []) ∷ (1 ∷ 2 ∷ []) ∷ (2 ∷ []) ∷ [];
  points_per_bit = 100;
  max_trades = 1000;
  max_users = 256;
  max_transfers = 65536;
  zeros = false;
}

abbrev pub bob : List ℕ
bob = codes "bob"

abbrev pub words : List ℕ → List ℕ → PairText
words variable value = record { variable = variable; value = value }

abbrev pub question : PairText → List PairText → QuestionText
question target condition = record { target = target; condition = record { items = condition } }

-- a variable of the chain is up, down, or left, which is no value of it
abbrev pub up : String → PairText
up variable = words (codes variable) (codes "up")

abbrev pub down : String → PairText
down variable = words (codes variable) (codes "down")

abbrev pub left : String → PairText
left variable = words (codes variable) (codes "left")

abbrev pub rain : PairText
rain = words (codes "rain") (codes "yes")

abbrev pub wet : PairText
wet = words (codes "season") (codes "wet")

abbrev pub is_heads : QuestionText
is_heads = question (words (codes "coin") (codes "heads")) []

-- after alice's trade bob joins, heads come up, and the market is settled
abbrev pub both_joined : List Entry
both_joined = heads_taken ++ Join bob ∷ []

abbrev pub heads_up : List Entry
heads_up = both_joined ++ Resolves (is 0 0) ∷ []

abbrev pub all_paid : List Entry
all_paid = heads_up ++ Settles ((126, 126) ∷ (0, 0) ∷ []) ∷ []

-- after a trade on rain the season turns out dry
abbrev pub dry : List Entry
dry = rain_taken ++ Resolves (is 0 1) ∷ []

-- they are markets
pub record AreMarkets : Type 0 where
  pub coin_is : IsMarket coin_market
  pub one_is : IsMarket one_trade
  pub die_is : IsMarket die_market
  pub weather_is : IsMarket weather_market
  pub chain_is : IsMarket chain_market

-- as many users as that have joined, each under a name of one byte
abbrev pub crowd : ℕ → List Entry
crowd number = map (λ (byte : ℕ). Join (byte ∷ [])) (range_with_len 0 number)

-- each refusal where it comes first, and commands that meet none
pub record AreRefused : Type 0 where
  pub settled : first_refusal coin_market all_paid (Price is_heads) ≡ Some IsSettled
  pub no_user : first_refusal chain_market []
      (Edit (codes "zed") (question (up "c") (up "a" ∷ [])) 500000 None)
      ≡ Some (NoUser (codes "zed"))
  pub exists : first_refusal coin_market deposited_one (User alice) ≡ Some (Exists alice)
  pub crowded : first_refusal coin_market (crowd 256) (User alice) ≡ Some (Users 256)
  pub one_more : first_refusal coin_market (crowd 255) (User alice) ≡ None
  pub unknown : first_refusal chain_market [] (Price (question (left "c") [])) ≡ Some (Unknown (left "c"))
  pub twice : first_refusal chain_market [] (Price (question (up "c") (up "b" ∷ down "c" ∷ []))) ≡ Some (Twice (codes "c"))
  pub stale : first_refusal coin_market both_joined (Edit bob is_heads 600000 (Some 3)) ≡ Some (Stale 3 4)
  pub resolved : first_refusal coin_market heads_up (Price is_heads) ≡ Some (Resolved (codes "coin"))
  pub impossible : first_refusal weather_market dry (Price (question rain (wet ∷ []))) ≡ Some (Impossible wet)
  pub wide : first_refusal chain_market [] (Price (question (up "c") (up "a" ∷ []))) ≡ Some Wide
  pub to_0 : first_refusal coin_market deposited_one (Edit alice is_heads 0 None) ≡ Some (Range 0)
  pub to_million : first_refusal coin_market deposited_one (Edit alice is_heads 1000000 None) ≡ Some (Range 1000000)
  pub many_bits : first_refusal coin_market deposited_one (Deposit alice 1001) ≡ Some (Range 1001)
  pub full : first_refusal one_trade heads_taken (Edit alice is_heads 500000 None) ≡ Some (Full 1)
  pub unresolved : first_refusal weather_market dry Settle ≡ Some (Unresolved (codes "rain"))
  pub no_longer : first_refusal weather_market dry (Resolve wet) ≡ Some (Resolved (codes "season"))
  pub not_stale : first_refusal coin_market both_joined (Edit bob is_heads 600000 (Some 4)) ≡ None
  pub not_full : first_refusal coin_market heads_taken (Edit alice is_heads 500000 None) ≡ None
  pub in_a_clique : first_refusal chain_market [] (Price (question (up "b") [])) ≡ None
  pub under_a_condition : first_refusal chain_market [] (Price (question (up "a") (up "b" ∷ []))) ≡ None

-- a user whom nobody knows, and more pairs of words
abbrev pub zed : List ℕ
zed = codes "zed"

abbrev pub side : PairText
side = words (codes "coin") (codes "side")

-- alice has joined, and in the chain a is up and b as well
abbrev pub two_up : List Entry
two_up = Join alice ∷ Resolves (is 0 0) ∷ Resolves (is 1 0) ∷ []

-- as many deposits as a market takes
abbrev pub many_transfers : List Entry
many_transfers = Join alice ∷ replicate 65536 (Deposits 0 1)

-- where two refusals apply, this one of them comes first: for each two neighbours of a command's list
pub record ComeInOrder : Type 0 where
  pub user_settled : first_refusal coin_market all_paid (User alice) ≡ Some IsSettled
  pub user_exists : first_refusal coin_market (crowd 256) (User (codes "a")) ≡ Some (Exists (codes "a"))
  pub deposit_settled : first_refusal coin_market all_paid (Deposit zed 1) ≡ Some IsSettled
  pub deposit_no_user : first_refusal coin_market [] (Deposit zed 1001) ≡ Some (NoUser zed)
  pub deposit_range : first_refusal coin_market many_transfers (Deposit alice 0) ≡ Some (Range 0)
  pub deposit_full : first_refusal coin_market many_transfers (Deposit alice 1) ≡ Some (Full 65536)
  pub withdraw_settled : first_refusal coin_market all_paid (Withdraw zed 1) ≡ Some IsSettled
  pub withdraw_no_user : first_refusal coin_market [] (Withdraw zed 1001) ≡ Some (NoUser zed)
  pub withdraw_range : first_refusal coin_market many_transfers (Withdraw alice 1001) ≡ Some (Range 1001)
  pub withdraw_full : first_refusal coin_market many_transfers (Withdraw alice 1) ≡ Some (Full 65536)
  pub price_settled : first_refusal coin_market all_paid (Price (question side [])) ≡ Some IsSettled
  pub price_unknown : first_refusal chain_market [] (Price (question (left "c") (down "c" ∷ []))) ≡ Some (Unknown (left "c"))
  pub price_twice : first_refusal chain_market two_up (Price (question (up "a") (up "a" ∷ []))) ≡ Some (Twice (codes "a"))
  pub price_resolved : first_refusal chain_market two_up (Price (question (up "a") (down "b" ∷ []))) ≡ Some (Resolved (codes "a"))
  pub price_impossible : first_refusal chain_market two_up (Price (question (up "c") (down "a" ∷ []))) ≡ Some (Impossible (down "a"))
  pub limits_settled : first_refusal coin_market all_paid (Limits zed is_heads) ≡ Some IsSettled
  pub limits_no_user : first_refusal chain_market [] (Limits zed (question (left "c") [])) ≡ Some (NoUser zed)
  pub limits_unknown : first_refusal chain_market two_up
      (Limits alice (question (up "c") (left "b" ∷ up "b" ∷ [])))
      ≡ Some (Unknown (left "b"))
  pub limits_twice : first_refusal chain_market two_up (Limits alice (question (up "a") (up "a" ∷ []))) ≡ Some (Twice (codes "a"))
  pub limits_resolved : first_refusal chain_market two_up (Limits alice (question (up "a") (down "b" ∷ []))) ≡ Some (Resolved (codes "a"))
  pub limits_impossible : first_refusal chain_market two_up (Limits alice (question (up "c") (down "a" ∷ []))) ≡ Some (Impossible (down "a"))
  pub edit_settled : first_refusal coin_market all_paid (Edit zed is_heads 600000 None) ≡ Some IsSettled
  pub edit_no_user : first_refusal chain_market [] (Edit zed (question (left "c") []) 600000 None) ≡ Some (NoUser zed)
  pub edit_unknown : first_refusal chain_market two_up
      (Edit alice (question (up "c") (left "b" ∷ up "b" ∷ [])) 600000 None)
      ≡ Some (Unknown (left "b"))
  pub edit_twice : first_refusal chain_market two_up
      (Edit alice (question (up "c") (down "c" ∷ [])) 600000 (Some 4))
      ≡ Some (Twice (codes "c"))
  pub edit_stale : first_refusal chain_market two_up (Edit alice (question (up "a") []) 600000 (Some 4)) ≡ Some (Stale 4 3)
  pub edit_resolved : first_refusal chain_market two_up (Edit alice (question (up "a") (down "b" ∷ [])) 600000 None) ≡ Some (Resolved (codes "a"))
  pub edit_impossible : first_refusal chain_market two_up
      (Edit alice (question (up "c") (down "a" ∷ [])) 600000 None)
      ≡ Some (Impossible (down "a"))
  pub edit_wide : first_refusal chain_market two_up (Edit alice (question (up "c") (up "a" ∷ [])) 0 None) ≡ Some Wide
  pub edit_range : first_refusal one_trade heads_taken (Edit alice is_heads 1000000 None) ≡ Some (Range 1000000)
  pub worst_settled : first_refusal coin_market all_paid (Worst zed) ≡ Some IsSettled
  pub resolve_settled : first_refusal coin_market all_paid (Resolve side) ≡ Some IsSettled
  pub resolve_unknown : first_refusal coin_market heads_up (Resolve side) ≡ Some (Unknown side)
  pub settle_settled : first_refusal coin_market (Settles [] ∷ []) Settle ≡ Some IsSettled
  pub paid_unsettled : first_refusal coin_market heads_up (Paid zed) ≡ Some Unsettled
  pub paid_no_user : first_refusal coin_market all_paid (Paid zed) ≡ Some (NoUser zed)

-- replies that are allowed, and replies that are not
pub record AreAnswered : Type 0 where
  pub price : IsAllowed coin_market [] [] (Price is_heads) (Priced 5000000000 5000000000)
  pub not_narrow : IsAllowed coin_market [] [] (Price is_heads) (Priced 4999999999 5000000000) → ⊥
  pub not_refused : IsAllowed coin_market [] [] (Price is_heads) (Refused (Resolved (codes "coin"))) → ⊥
  pub refused : IsAllowed chain_market [] [] (Price (question (up "c") (up "a" ∷ []))) (Refused Wide)
  pub not_answered : (low high : ℕ) → IsAllowed chain_market [] [] (Price (question (up "c") (up "a" ∷ []))) (Priced low high) → ⊥
  pub joined : IsAllowed coin_market [] [] (User alice) (Joined alice 1)
  pub no_memory : IsAllowed coin_market [] [] (User alice) (Refused Memory)
  pub same_revision : IsAllowed coin_market [] [] (User alice) (Joined alice 0) → ⊥
  pub joined_again : IsAllowed coin_market deposited_one [] (User alice) (Joined alice 3) → ⊥
  pub memory_again : IsAllowed coin_market deposited_one [] (User alice) (Refused Memory) → ⊥

-- alice's least worth is that in tails
pub record IsWorstPaid : Type 0 where
  pub allowed : IsAllowed coin_market heads_taken (None ∷ []) (Worst alice) (Worsted 67 67)
  pub not_less : IsAllowed coin_market heads_taken (None ∷ []) (Worst alice) (Worsted 66 67) → ⊥
  pub not_more : IsAllowed coin_market heads_taken (None ∷ []) (Worst alice) (Worsted 67 68) → ⊥
  pub not_above : IsAllowed coin_market heads_taken (None ∷ []) (Worst alice) (Worsted 68 68) → ⊥
  pub not_wide : IsAllowed coin_market heads_taken (None ∷ []) (Worst alice) (Worsted 66 68) → ⊥
  pub appended : next_history coin_market heads_taken (Worst alice) (Worsted 67 67) ≡ heads_taken

-- heads come up
pub record IsResolved : Type 0 where
  pub allowed : IsAllowed coin_market both_joined [] (Resolve is_heads.target) (NowResolved is_heads.target 5)
  pub not_now : IsAllowed coin_market both_joined [] (Resolve is_heads.target) (NowResolved is_heads.target 4) → ⊥
  pub appended : next_history coin_market both_joined (Resolve is_heads.target) (NowResolved is_heads.target 5) ≡ heads_up

-- alice's trade, and her quote at the revision before it
abbrev pub closing : Standing
closing = record { history = heads_taken; quotes = Some (record { says = EditLimits (ask 0 0 []) (Some (250000, 750000)); at = 2 }) ∷ [] }

-- an edit of a user who was quoted nothing is judged afresh
pub record IsJudgedByNewLimits : Type 0 where
  pub beyond : IsAllowed coin_market deposited_one (None ∷ []) (Edit alice is_heads 750001 None) (Refused (Beyond (Some (250000, 750000))))
  pub quoted : next_quotes coin_market deposited_one (None ∷ []) (Edit alice is_heads 750001 None) (Refused (Beyond (Some (250000, 750000)))) ≡ closing.quotes
  pub not_inside : IsAllowed coin_market deposited_one (None ∷ []) (Edit alice is_heads 600000 None) (Refused (Beyond (Some (250000, 750000)))) → ⊥
  pub not_wider : IsAllowed coin_market deposited_one (None ∷ []) (Edit alice is_heads 750002 None) (Refused (Beyond (Some (250000, 750001)))) → ⊥
  pub not_none : IsAllowed coin_market deposited_one (None ∷ []) (Edit alice is_heads 750001 None) (Refused (Beyond None)) → ⊥

-- alice takes out the bit that she paid in
pub record IsTakenOut : Type 0 where
  pub allowed : IsAllowed coin_market deposited_one (None ∷ []) (Withdraw alice 1) (Withdrawn alice 1 3)
  pub appended : next_history coin_market deposited_one (Withdraw alice 1) (Withdrawn alice 1 3) ≡ deposited_one ++ Withdraws 0 1 ∷ []
  pub not_two : IsAllowed coin_market deposited_one (None ∷ []) (Withdraw alice 2) (Withdrawn alice 2 3) → ⊥

abbrev pub paying : List ℕ → ℕ → ℕ → ℕ → Payment
paying user low high paid = record { user = user; low = low; high = high; paid = paid }

abbrev pub settled_with : List Payment → Reply
settled_with payments = Settled 6 payments

-- heads came up: alice is paid 126 points and bob, who holds no trade, none, in this order; no
-- wider interval will do, and no point less; it is told again later
pub record IsPaid : Type 0 where
  pub allowed : IsAllowed coin_market heads_up [] Settle (settled_with (paying alice 126 126 126 ∷ paying bob 0 0 0 ∷ []))
  pub not_wide : IsAllowed coin_market heads_up [] Settle
      (settled_with (paying alice 126 127 126 ∷ paying bob 0 0 0 ∷ [])) → ⊥
  pub not_less : IsAllowed coin_market heads_up [] Settle
      (settled_with (paying alice 125 126 125 ∷ paying bob 0 0 0 ∷ [])) → ⊥
  pub not_idle : IsAllowed coin_market heads_up [] Settle
      (settled_with (paying alice 126 126 126 ∷ paying bob 0 1 0 ∷ [])) → ⊥
  pub not_high : IsAllowed coin_market heads_up [] Settle (settled_with (paying alice 126 127 127 ∷ paying bob 0 0 0 ∷ [])) → ⊥
  pub not_above : IsAllowed coin_market heads_up [] Settle (settled_with (paying alice 127 128 127 ∷ paying bob 0 0 0 ∷ [])) → ⊥
  pub not_one : IsAllowed coin_market heads_up [] Settle (settled_with (paying alice 126 126 126 ∷ [])) → ⊥
  pub appended : next_history coin_market heads_up Settle (settled_with (paying alice 126 126 126 ∷ paying bob 0 0 0 ∷ [])) ≡ all_paid
  pub in_order : IsAllowed coin_market heads_up [] Settle (settled_with (paying bob 0 0 0 ∷ paying alice 126 126 126 ∷ [])) → ⊥
  pub not_summed : IsAllowed coin_market heads_up [] Settle (SettledAll 6 2 126) → ⊥
  pub told_alice : IsAllowed coin_market all_paid [] (Paid alice) (PaidOut (paying alice 126 126 126))
  pub told_bob : IsAllowed coin_market all_paid [] (Paid bob) (PaidOut (paying bob 0 0 0))
  pub not_told : IsAllowed coin_market all_paid [] (Paid alice) (PaidOut (paying alice 126 127 126)) → ⊥

-- a quote for a question under two conditions
abbrev pub under_both : Asked
under_both = ask 2 0 (is 0 0 ∷ is 1 0 ∷ [])

abbrev pub quote_of : Asked → ℕ → Option Quote
quote_of asked at = Some (record { says = EditLimits asked (Some (250000, 750000)); at = at })

-- when a quote judges an edit
pub record AreCurrent : Type 0 where
  pub current : current_limits (quote_of under_both 2) under_both 2 ≡ Some (Some (250000, 750000))
  pub no_quote : current_limits None under_both 2 ≡ None
  pub other_target : current_limits (quote_of under_both 2) (ask 2 1 (is 0 0 ∷ is 1 0 ∷ [])) 2 ≡ None
  pub fewer_conditions : current_limits (quote_of under_both 2) (ask 2 0 (is 0 0 ∷ [])) 2 ≡ None
  pub other_order : current_limits (quote_of under_both 2) (ask 2 0 (is 1 0 ∷ is 0 0 ∷ [])) 2 ≡ None
  pub other_revision : current_limits (quote_of under_both 2) under_both 3 ≡ None
  pub own_place : last_quote (None ∷ quote_of under_both 2 ∷ []) 1 ≡ quote_of under_both 2
  pub other_user : last_quote (None ∷ quote_of under_both 2 ∷ []) 0 ≡ None
  pub no_place : last_quote [] 0 ≡ None

-- alice joins, deposits a bit, asks for limits, tries what is beyond them, trades, and asks what is left
abbrev pub lines : List Line
lines = OfCommand (User alice) ∷ OfCommand (Deposit alice 1) ∷ OfCommand (Limits alice is_heads)
    ∷ OfCommand (Edit alice is_heads 750001 None) ∷ OfCommand (Edit alice is_heads 600000 (Some 2)) ∷ OfCommand (Price is_heads) ∷ OfCommand (Withdraw alice 1) ∷ []

abbrev pub replies : List Reply
replies = Joined alice 1 ∷ Deposited alice 1 2 ∷ Limited (Some (250000, 750000)) 2 ∷ Refused (Beyond (Some (250000, 750000)))
    ∷ Traded 1319413953331 879609302220 3 ∷ Priced 6000000000 6000000001 ∷ Refused (Short 0) ∷ []

pub record RunsThrough : Type 0 where
  pub run : Run coin_market opening lines replies closing
