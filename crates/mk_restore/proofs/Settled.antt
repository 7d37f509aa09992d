-- A settlement that is taken back lists payments, or these are those by rule.
use Rattle.std.proofs.Common.{◌≡◌, ◌<◌, ◌≤◌, ◌⊎◌, inl, inr, ◌+◌, List, length}
use Rattle.std.proofs.lemmas.Bool.{cases_lt}
use Rattle.mk_net.specs.Bounds.{max_payments}
use Rattle.mk_exact.specs.History.{Entry, users, revision}
use Rattle.mk_exact.specs.Market.{Market}
use Rattle.mk_reply.specs.declared.reply.Reply.{Reply}
use Rattle.mk_rules.specs.Answers.{settled_by_rule}
use Rattle.mk_restore.specs.Restoring.{IsListed, IsSettledAt}

abbrev pub SettledIs : Market → List Entry → Reply → Type 0
SettledIs market H reply = IsListed (revision H + 1) (users H) reply ⊎ (reply ≡ settled_by_rule market H)

pub settled_is : (market : Market) (H : List Entry) (reply : Reply) → IsSettledAt market H reply → SettledIs market H reply
settled_is market H reply h = at (cases_lt max_payments (length (users H)))
  where
    at : (max_payments < length (users H)) ⊎ (length (users H) ≤ max_payments) → SettledIs market H reply
    at (inl many) = inr (h.summed many)
    at (inr few) = inl (h.listed few)
