-- A question that none of the refusals of its name and of its clique meets.
use Rattle.std.specs.Prelude.{◌≡◌, ◌≤◌, length, None}
use Rattle.mk_exact.specs.Market.{Market}
use Rattle.mk_addition.specs.declared.add.AddText.{AddText}
use Rattle.mk_rules.specs.Additions.{taken, uncovered, not_running}

-- its name is new, its clique holds it and its parents, and is linked to one that holds the others
pub record IsPlacedIn (market : Market) (add : AddText) : Type 0 where
  pub untaken : taken market.network add.variable ≡ None
  pub covered : uncovered add ≡ None
  pub first : 1 ≤ add.link
  pub last : add.link ≤ length market.cliques
  pub running : not_running market add ≡ None
