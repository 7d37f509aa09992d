-- The line behind the replies of a run: it answers what is asked of the last history.
use Rattle.std.specs.Prelude.{◌≡◌, ℕ, ℤ, List, [], ◌∷◌, ◌++◌, codes, Option, find, is_none}
use Rattle.std.specs.Prelude.{slice_index_or, MatchOption, position}
use Rattle.std.specs.Fmt.{signed_decimal}
use Rattle.mk_net.specs.declared.words.Pair.{Pair}
use Rattle.mk_net.specs.declared.words.PairText.{PairText}
use Rattle.mk_net.specs.Network.{Variable}
use Rattle.mk_net.specs.Named.{pair_named}
use Rattle.mk_names.specs.Texts.{same_text}
use Rattle.mk_exact.specs.Market.{Market}
use Rattle.mk_exact.specs.History.{Entry, users}
use Rattle.mk_text.specs.Joined.{◌&◌, items_text}
use Rattle.mk_text.specs.Numbers.{price_text, prices_text}
use Rattle.mk_text.specs.Texts.{pair_text}
use Rattle.mk_reply.specs.declared.reply.Reply.TheVariants.{Refused}
use Rattle.mk_reply.specs.declared.refusal.Refusal.TheVariants.{Unknown, User}
use Rattle.mk_rules.specs.Refusals.{known_pairs}
use Rattle.mk_session.specs.Texts.{as_line, reply_line}
use Rattle.mk_expect.specs.Expectation.{CoversExpectation}
use Rattle.mk_best.specs.Chances.{IsChance}
use Rattle.mk_best.specs.BestStates.{IsBestFound}
use Rattle.mk_best.specs.declared.found.Chance.{Chance}
use Rattle.mk_best.specs.declared.found.Chance.TheVariants as chances
use Rattle.mk_best.specs.declared.found.Best.{Best}
use Rattle.mk_best.specs.declared.found.Best.TheVariants as bests
use Rattle.daggre.specs.declared.ask.Ask.{Ask}
use Rattle.daggre.specs.declared.ask.Ask.TheVariants as asks

-- the line of given pairs that no possible state meets
abbrev pub given_line : List ℕ
given_line = as_line (codes "refused given")

abbrev pub chance_line : Chance → List ℕ
chance_line (chances.Price low high) = as_line (codes "chance " & prices_text (low, high))
chance_line chances.Impossible = given_line

-- the pairs of a state in words, one for each variable
abbrev pub state_pairs : List Variable → List ℕ → List PairText
state_pairs [] values = []
state_pairs (variable ∷ network) [] = []
state_pairs (variable ∷ network) (value ∷ values) =
    (record { variable = variable.name; value = slice_index_or variable.values value [] })
    ∷ state_pairs network values

abbrev pub best_line : List Variable → Best → List ℕ
best_line network (bests.Found low high most value state) = as_line
    (codes "best " & prices_text (low, high) & codes " at most " & price_text most
    & items_text (codes " ") pair_text (state_pairs network state))
best_line network bests.Impossible = given_line

-- a chance is said, and this is its line
pub record SaysChance (network : List Variable) (H : List Entry) (want given : List Pair)
    (line : List ℕ) : Type 0 where
  pub found : Chance
  pub right : IsChance network H want given found
  pub printed : line ≡ chance_line found

-- a best state is said, and this is its line
pub record SaysBest (network : List Variable) (H : List Entry) (given : List Pair)
    (line : List ℕ) : Type 0 where
  pub found : Best
  pub right : IsBestFound network H given found
  pub printed : line ≡ best_line network found

-- low and high, in points, of what a user may expect to have
abbrev pub expect_line : ℤ → ℤ → List ℕ
expect_line low high = as_line
    (codes "expect " & signed_decimal low & codes ".." & signed_decimal high)

-- an expectation is said, and this is its line
pub record SaysExpectation (market : Market) (H : List Entry) (u : ℕ) (line : List ℕ) : Type 0 where
  pub low : ℤ
  pub high : ℤ
  pub right : CoversExpectation market.network H market.points_per_bit u low high
  pub printed : line ≡ expect_line low high

-- the expectation of the user of a name, who is refused where nobody of this name has joined
abbrev pub SaysOfUser : Market → List Entry → List ℕ → List ℕ → Type 0
SaysOfUser market H user line = MatchOption (position (same_text user) (users H))
    (line ≡ reply_line (Refused (User user))) (λ u. SaysExpectation market H u line)

-- the pairs of what is asked, those that are wanted before those that are given
abbrev pub pairs_in : Ask → List PairText
pairs_in (asks.Chance want given) = want ++ given
pairs_in (asks.Best given) = given
pairs_in (asks.Expect user) = []

-- the first pair that a network does not know
abbrev pub first_unknown : List Variable → List PairText → Option PairText
first_unknown network pairs = find (λ pair. is_none (pair_named network pair)) pairs

-- a line that answers what is asked in known pairs
abbrev pub Answers : Market → List Entry → Ask → List ℕ → Type 0
Answers market H (asks.Chance want given) line =
    SaysChance market.network H (known_pairs market.network want)
    (known_pairs market.network given) line
Answers market H (asks.Best given) line =
    SaysBest market.network H (known_pairs market.network given) line
Answers market H (asks.Expect user) line = SaysOfUser market H user line

-- the last line: it refuses the first unknown pair, or answers
abbrev pub IsLastLine : Market → List Entry → Ask → List ℕ → Type 0
IsLastLine market H ask line =
    MatchOption (first_unknown market.network (pairs_in ask))
    (Answers market H ask line)
    (λ pair. line ≡ reply_line (Refused (Unknown pair)))
