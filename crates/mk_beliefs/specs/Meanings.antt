-- The meanings of a history that engines stand for: the weights of all states, one user's gains in them, and the initial weights.
use Rattle.std.specs.Prelude.{ℕ, zero, suc, List, ◌++◌, map, length, if◌then◌else◌, ◌==◌, Option, Some, None}
use Rattle.mk_net.specs.Network.{Variable}
use Rattle.mk_net.specs.Zeros.{with_zeros}
use Rattle.mk_states.specs.States.{numbers_below}
use Rattle.mk_exact.specs.History.{Entry, Trade, Resolve, UserTrade, trades, trades_of, resolutions}
use Rattle.mk_tree.specs.Given.{GivenTree}
use Rattle.mk_engine.specs.Meaning.{Meaning, RowsOf, SupportOf, RatioOf, with_factor, with_known}

-- the price engine after a history: the rows of each variable, and the ratio of every trade; what was resolved is known
abbrev pub weights_of : List Variable → GivenTree → List Entry → Meaning
weights_of network tree H = record {
  network = network;
  tree = tree;
  factors = map RowsOf (numbers_below (length network)) ++ map (λ (t : UserTrade). RatioOf t.ratio) (trades H);
  known = resolutions H;
}

-- a user's engine: where none of the shares is nothing, and the ratios of the user's trades alone
abbrev pub gains_of : List Variable → GivenTree → List Entry → ℕ → Meaning
gains_of network tree H u = record {
  network = network;
  tree = tree;
  factors = map SupportOf (with_zeros network) ++ map (λ (t : UserTrade). RatioOf t.ratio) (trades_of H u);
  known = resolutions H;
}

-- the engine of initial weights: the rows of each variable alone, whatever was traded; what was resolved is known. With the least for
-- plus its belief in nothing is the least initial weight that is left
abbrev pub rows_of : List Variable → GivenTree → List Entry → Meaning
rows_of network tree H = record {
  network = network;
  tree = tree;
  factors = map RowsOf (numbers_below (length network));
  known = resolutions H;
}

-- a least value where 0 stands for none
abbrev pub if_present : ℕ → Option ℕ
if_present zero = None
if_present (suc n) = Some (suc n)

-- the weights after one more entry
abbrev pub grown : Entry → Meaning → Meaning
grown (Trade user ratio) m = with_factor (RatioOf ratio) m
grown (Resolve pair) m = with_known pair m
grown _ m = m

-- a user's gains after one more entry
abbrev pub grown_for : ℕ → Entry → Meaning → Meaning
grown_for u (Trade user ratio) m = if user == u then with_factor (RatioOf ratio) m else m
grown_for u (Resolve pair) m = with_known pair m
grown_for u _ m = m

-- the initial weights after one more entry, which only a resolution makes fewer
abbrev pub grown_rows : Entry → Meaning → Meaning
grown_rows (Resolve pair) m = with_known pair m
grown_rows _ m = m
