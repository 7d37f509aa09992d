-- The lines of the output.
use Rattle.std.specs.Prelude.{ℕ, List, [], ◌∷◌, ◌++◌, codes, decimal, length, Option, Some, None}
use Rattle.mk_file.specs.declared.fault.FileFault.{FileFault}
use Rattle.mk_exact.specs.Market.{Market}
use Rattle.mk_reply.specs.declared.reply.Reply.{Reply}
use Rattle.mk_reply.specs.Replies.{reply_text}
use Rattle.mk_file.specs.Faults.{fault_text}

-- an output line ends with one LF
abbrev pub as_line : List ℕ → List ℕ
as_line text = text ++ 10 ∷ []

abbrev pub reply_line : Reply → List ℕ
reply_line reply = as_line (reply_text reply)

-- the first line of a run: the numbers of variables and of points per bit
abbrev pub ready_line : Market → List ℕ
ready_line market = as_line
    (codes "ready " ++ decimal (length market.network)
    ++ codes " " ++ decimal market.points_per_bit)

-- the line behind it where a store gave changes back: how many there are
abbrev pub resumed_line : ℕ → List ℕ
resumed_line revision = as_line (codes "resumed " ++ decimal revision)

-- what is written before the first reply
abbrev pub head_of : Market → Option ℕ → List ℕ
head_of market None = ready_line market
head_of market (Some revision) = ready_line market ++ resumed_line revision

-- the one line of a refused file
abbrev pub fault_line : FileFault → List ℕ
fault_line fault = as_line (fault_text fault)
