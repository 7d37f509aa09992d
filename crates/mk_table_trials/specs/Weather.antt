-- The scopes of the tables: rain has two values, wind three and heat two.
use Rattle.std.specs.Prelude.{◌≡◌, List, [], ◌∷◌, length}
use Rattle.mk_scope.specs.Scopes.{ScopeOf}
use Rattle.mk_table.specs.Tables.{TableOf, HasRoom}
use Rattle.mk_table.specs.Lists.{table_in}

abbrev pub of_all : ScopeOf
of_all = record { variables = 0 ∷ 1 ∷ 2 ∷ []; sizes = 2 ∷ 3 ∷ 2 ∷ [] }

abbrev pub of_rain : ScopeOf
of_rain = record { variables = 0 ∷ []; sizes = 2 ∷ [] }

abbrev pub of_wind : ScopeOf
of_wind = record { variables = 1 ∷ []; sizes = 3 ∷ [] }

abbrev pub weather_scopes : List ScopeOf
weather_scopes = of_all ∷ of_rain ∷ of_wind ∷ []

-- the tables of all variables, of the rain and of the wind
pub record AreWeather (tables : List TableOf) : Type 0 where
  pub three : length tables ≡ 3
  pub all : (table_in tables 0).scope ≡ of_all
  pub rain : (table_in tables 1).scope ≡ of_rain
  pub wind : (table_in tables 2).scope ≡ of_wind

-- the first two have room for the steps of a plus over all cells
pub record HaveRoom (tables : List TableOf) : Type 0 where
  pub weather : AreWeather tables
  pub all : HasRoom (table_in tables 0) 24
  pub rain : HasRoom (table_in tables 1) 24
