-- What is traded in cliques has homes.
use Rattle.std.specs.Prelude.{◌≡◌, ℕ, List, [], ◌∷◌, true, false, Option, Some, None}
use Rattle.std.specs.Prelude.{is_some, is_none}
use Rattle.std.specs.List.{AllByRecursion}
use Rattle.std.proofs.Common.{sym, refl, ◌∙◌}
use Rattle.mk_net.specs.Asked.{ratio_pairs}
use Rattle.mk_exact.specs.History.{UserTrade}
use Rattle.mk_exact.specs.Proper.{IsTradeOf}
use Rattle.mk_tree.specs.Given.{home}
use Rattle.mk_file.specs.declared.market_file.MarketFile.{MarketFile}
use Rattle.mk_file.specs.MarketOf.{market_of}
use Rattle.mk_record.proofs.Refusing.{wide_is}
use Rattle.mk_rules.specs.Standings.{IsInClique}

some_of : (o : Option ℕ) → is_none o ≡ false → is_some o ≡ true
some_of None none = absurd (cc)
some_of (Some k) none = refl

module _ (file : MarketFile) where
  pub trades_have : (joined : ℕ) (ts : List UserTrade)
      → AllByRecursion (IsTradeOf file.net joined) ts
      → AllByRecursion (IsInClique (market_of file).cliques) ts
      → AllByRecursion (λ (t : UserTrade). is_some (home file.tree (ratio_pairs t.ratio)) ≡ true) ts
  trades_have joined [] fit narrow = tt
  trades_have joined (t ∷ ts) fit narrow = (
    some_of (home file.tree (ratio_pairs t.ratio))
        (sym (wide_is file.net t.ratio.condition
        (record { variable = t.ratio.variable; value = 0 }) fit.0.ratio.variable
        fit.0.ratio.condition file.tree) ∙ narrow.0),
    trades_have joined ts fit.1 narrow.1,
  )
