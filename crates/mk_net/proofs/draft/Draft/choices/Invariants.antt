use Rattle.std.proofs.Common.{◌≡◌, ◌*◌, ◌^◌, ◌≤◌, drop, map, string_bytes}
use Rattle.mk_net.specs.Network.{choices}
use Rattle.mk_net.specs.Drafts.{drafts_of}
use Rattle.mk_net.specs.Checked.{counts, number_of}
use Rattle.mk_net.proofs.draft.Draft.choices.Given as goal

abbrev pub invariant-names : goal.invariant-names
invariant-names l =
    (l.choices * choices (counts (drafts_of l.self)) (map (number_of (drafts_of l.self)) (map string_bytes (drop l.name-index l.names)))
    ≡ choices (counts (drafts_of l.self)) (map (number_of (drafts_of l.self)) (map string_bytes l.names)))
    × (l.choices ≤ 16 ^ l.name-index)
