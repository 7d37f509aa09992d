use Rattle.mk_sums.proofs.Groups as groups
use Rattle.mk_sums.proofs.messages.read_law.Goals as goal

pub returns : goal.returns
returns c = λ plus size vars clique placed link m law tree covers a first last event fits s. groups.read_law plus size vars clique placed link m law tree a covers first last event fits s
