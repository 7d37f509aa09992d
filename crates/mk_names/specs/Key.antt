-- How each key of a market file is written.
use Rattle.std.specs.Prelude.{ℕ, List, codes}
use Rattle.mk_names.specs.declared.key.Key.{Key}
use Rattle.mk_names.specs.declared.key.Key.TheVariants.{PointsPerBit, MaxTrades, MaxUsers, MaxTransfers, Variable, Cliques, Links, Zeros, Name, Values, Parents, Rows}

abbrev pub key_text : Key → List ℕ
key_text PointsPerBit = codes "points_per_bit"
key_text MaxTrades = codes "max_trades"
key_text MaxUsers = codes "max_users"
key_text MaxTransfers = codes "max_transfers"
key_text Variable = codes "variable"
key_text Cliques = codes "cliques"
key_text Links = codes "links"
key_text Zeros = codes "zeros"
key_text Name = codes "name"
key_text Values = codes "values"
key_text Parents = codes "parents"
key_text Rows = codes "rows"
