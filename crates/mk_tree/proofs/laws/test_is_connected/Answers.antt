use Rattle.mk_tree.proofs.Connected.{connected_of_test, test_of_connected}
use Rattle.mk_tree.proofs.laws.test_is_connected.Goals as goal

pub returns : goal.returns
returns c = λ t linked x. (connected_of_test t linked x, test_of_connected t linked x)
