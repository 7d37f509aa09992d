-- The test of the check, in the words of running intersection.
use Rattle.std.specs.Prelude.{◌≡◌, ℕ, true, ◌↔◌}
use Rattle.mk_tree.specs.Given.{GivenTree, AreLinked, IsConnected}
use Rattle.mk_tree.specs.Tests.{are_connected}

-- the test of a variable's cliques passes exactly where they are joined by links through them
abbrev pub TestIsConnected : Type 0
TestIsConnected = (t : GivenTree) → AreLinked t → (x : ℕ) → (are_connected t x ≡ true) ↔ IsConnected t x
