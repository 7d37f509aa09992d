-- A market that is asked more than once.
use Rattle.std.proofs.Common.{◌∙◌}
use Rattle.mk_market.specs.Trading.{Trading, IsOnlyAsked}

-- one that was asked, and then again
pub asked_again : {Own : Type 0} (old mid new : Trading Own) → IsOnlyAsked old mid
    → IsOnlyAsked mid new → IsOnlyAsked old new
asked_again old mid new first next = record {
  market = next.market ∙ first.market;
  standing = next.standing ∙ first.standing;
  accounts = next.accounts ∙ first.accounts;
}
