-- What a judge of trades for a question leaves open.
use Rattle.std.specs.Prelude.{ℕ, ◌≤◌, Bool, List}
use Rattle.mk_net.specs.Bounds.{max_share}
use Rattle.mk_net.specs.declared.words.QuestionText.{QuestionText}
use Rattle.mk_net.specs.Asked.{Asked}
use Rattle.mk_exact.specs.History.{Entry}
use Rattle.mk_exact.specs.Market.{Market}
use Rattle.mk_quote.specs.declared.bounds.Bounds.{Bounds}
use Rattle.mk_judge.specs.declared.judged.Judged.{Judged}
use Rattle.mk_judge.specs.Judged.{Judges}
use Rattle.mk_judge.specs.Units.{HasTradeRange}
use Rattle.mk_reply.specs.declared.reply.Reply.{Reply}
use Rattle.mk_reply.specs.declared.reply.Reply.TheVariants.{Traded}
use Rattle.mk_rules.specs.Refusals.{user_number}
use Rattle.mk_judge_quotes.specs.Clear.{IsTradeOpen}
use Rattle.mk_judge_quotes.specs.Editing.{AreEditBounds}

-- a trade may be left open
abbrev pub IsTradeLeftOpen : Market → List Entry → ℕ → Asked → ℕ → Reply → Type 0
IsTradeLeftOpen market H u asked X (Traded hit miss at) = IsTradeOpen market H u asked X hit miss
IsTradeLeftOpen market H u asked X reply = ⊥

-- a trade to so many millionths can be judged by bounds of both sides
pub record CanJudgeTrade (bounds : Bounds) (to : ℕ) : Type 0 where
  pub hit_range : HasTradeRange bounds.hit_factor
  pub miss_range : HasTradeRange bounds.miss_factor
  pub some : 1 ≤ to
  pub few : to ≤ max_share

-- a judgement of what a reply says of a question, whatever market these are bounds of
abbrev pub JudgesEdit : Judged → Bounds → Bool → ℕ → (Market → List Entry → ℕ → Asked → Type 0)
    → (Market → List Entry → ℕ → Asked → Type 0) → Type 0
JudgesEdit judged bounds small now right left =
    (market : Market) (H : List Entry) (name : List ℕ) (q : QuestionText)
    → (its : AreEditBounds market H name q bounds small now)
    → Judges judged (right market H (user_number H name) its.asked)
    (left market H (user_number H name) its.asked)
