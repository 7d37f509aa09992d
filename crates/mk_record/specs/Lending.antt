-- What the users of a market end as, once one user's assets were written to.
use Rattle.std.specs.Prelude.{ℕ, List}
use Rattle.std.specs.Borrow.{Fml, MutBor, RattleType, Lends}
use Rattle.mk_semiring.specs.declared.least.MinProd.{MinProd}
use Rattle.mk_semiring.specs.declared.held.Held.{Held}
use Rattle.mk_engine.specs.declared.engine.Engine as engine
use Rattle.mk_assets.specs.declared.assets.Assets.{Assets}
use Rattle.mk_assets.specs.contracts.assets.Assets as assets
use Rattle.mk_record.specs.contracts.users.Users as users
use Rattle.mk_record.specs.declared.users.Member.{Member}
use Rattle.mk_record.specs.Members.{with_assets}

-- they end with the last assets behind the reference as the user's
abbrev pub LendsAssets : (A P : RattleType) → engine.Ghosts A.Denot MinProd P.Denot Held → MutBor (List (Member A.Denot P.Denot)) → ℕ → MutBor (Assets A.Denot P.Denot) → Fml
LendsAssets A P E members user lent = Lends (users.the_row A P E) (assets.the_row A P) members lent (with_assets members.now user)
