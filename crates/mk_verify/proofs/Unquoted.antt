-- Commands on whose replies no quote bears.
use Rattle.std.proofs.Common.{◌≡◌, refl}
use Rattle.mk_command.specs.Commands.{command_of}
use Rattle.mk_command.specs.declared.command.CommandRef.{CommandRef}
use Rattle.mk_command.specs.declared.command.CommandRef.TheVariants.{Limits, Edit, Bounds, Spread}
use Rattle.mk_verify.specs.inner.Judging.{IsUnquoted}

pub is_unquoted : (command : CommandRef)
    → ((u : _) (q : _) → command ≡ Limits u q → ⊥)
    → ((u : _) (q : _) (to : _) (at : _) → command ≡ Edit u q to at → ⊥)
    → ((u : _) (v : _) (condition : _) → command ≡ Bounds u v condition → ⊥)
    → ((u : _) (v : _) (condition : _) (to : _) (at : _)
    → command ≡ Spread u v condition to at → ⊥)
    → IsUnquoted (command_of command)
unfolding command_of
is_unquoted (Limits u q) limits edit bounds spread = limits u q refl
is_unquoted (Edit u q to at) limits edit bounds spread = edit u q to at refl
is_unquoted (Bounds u v condition) limits edit bounds spread = bounds u v condition refl
is_unquoted (Spread u v condition to at) limits edit bounds spread = spread u v condition to at refl
is_unquoted command limits edit bounds spread = tt
