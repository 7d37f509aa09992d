-- What is known of a market, for a judge of its replies.
use Rattle.std.proofs.Common.{◌≡◌, Bool, List, sym, ◌∙◌}
use Rattle.mk_exact.specs.History.{Entry}
use Rattle.mk_exact.specs.Market.{Market}
use Rattle.mk_known.specs.Known.{Knowledge, IsKnown}
use Rattle.mk_judge_quotes.specs.Small.{TellsSmall}

-- the flag that is read tells whether the history is small
pub flag_tells : (market : Market) (H : List Entry) (known : Knowledge) (small : Bool)
    → IsKnown market H known → small ≡ known.small → TellsSmall small market H
flag_tells market H known small is same =
    (λ yes. is.small.0 (sym same ∙ yes), λ s. same ∙ is.small.1 s)
