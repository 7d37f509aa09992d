use Rattle.mk_sums.proofs.Groups as groups
use Rattle.mk_sums.proofs.messages.message_law.Goals as goal

pub returns : goal.returns
returns c = λ plus size vars clique placed link m law tree a b h s. groups.message_law plus size vars clique placed link m law tree a b h s
