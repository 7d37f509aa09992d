-- What printing a last line asks for, and what it leaves.
use Rattle.std.specs.Prelude.{◌≡◌, ℕ, ⊤, List, [], slice_index_or}
use Rattle.mk_io.specs.declared.status.Status.{Status}
use Rattle.mk_io.specs.declared.status.Status.TheVariants.{Done, Usage, MarketRefused, ReadFault}
use Rattle.mk_io.specs.declared.status.Status.TheVariants.{WriteFault, Memory, TooMany}
use Rattle.mk_io.specs.declared.status.Status.TheVariants.{DiskFault, StoreRefused}
use Rattle.mk_net.specs.declared.words.PairText.{PairText}
use Rattle.mk_net.specs.Network.{Variable, sizes}
use Rattle.mk_net.specs.Named.{variable_at}
use Rattle.mk_exact.specs.Market.{Market}
use Rattle.mk_exact.specs.History.{Entry}
use Rattle.mk_states.specs.States.{IsState}
use Rattle.mk_session.specs.Outcome.{IsFrontOf}
use Rattle.mk_best.specs.declared.found.Best.{Best}
use Rattle.mk_best.specs.declared.found.Best.TheVariants.{Found, Impossible}
use Rattle.daggre.specs.declared.ask.Ask.{Ask}
use Rattle.daggre.specs.LastLine.{IsLastLine}

-- a variable and one of its values in words
abbrev pub pair_words : List Variable → ℕ → ℕ → PairText
pair_words network k x = record {
  variable = (variable_at network k).name;
  value = slice_index_or (variable_at network k).values x [];
}

-- what is found, if anything, is a state of the network
abbrev pub HasState : List Variable → Best → Type 0
HasState network (Found low high most value state) = IsState (sizes network) state
HasState network Impossible = ⊤

-- a front of a last line
pub record IsLastCut (market : Market) (H : List Entry) (ask : Ask) (bytes : List ℕ) : Type 0 where
  pub line : List ℕ
  pub answers : IsLastLine market H ask line
  pub front : IsFrontOf line bytes

-- what is written behind a whole run, by its status
abbrev pub SaysLast : Status → Market → List Entry → Ask → List ℕ → Type 0
SaysLast Done market H ask bytes = IsLastLine market H ask bytes
SaysLast WriteFault market H ask bytes = IsLastCut market H ask bytes
SaysLast Memory market H ask bytes = bytes ≡ []
SaysLast Usage market H ask bytes = ⊥
SaysLast MarketRefused market H ask bytes = ⊥
SaysLast ReadFault market H ask bytes = ⊥
SaysLast TooMany market H ask bytes = ⊥
SaysLast DiskFault market H ask bytes = ⊥
SaysLast StoreRefused market H ask bytes = ⊥
