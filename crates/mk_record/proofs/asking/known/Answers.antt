use Rattle.std.proofs.Common.{Some}
use Rattle.mk_record.proofs.Gathering.{pair_of_network}
use Rattle.mk_record.proofs.asking.known.Goals as goal

pub returns-in-Some-clause-pair : goal.returns-in-Some-clause-pair
returns-in-Some-clause-pair c = pair_of_network c.args.net.now c.args.words.now (Some c.in-Some.pair) c.in-Some.ensures
