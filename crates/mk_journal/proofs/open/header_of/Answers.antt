use Rattle.std.proofs.Common.{◌≡◌, [], ◌∷◌, ◌++◌, ◌∙◌, ap, length, rules}
use Rattle.std.specs.Int.{w64, to_be_bytes}
use Rattle.mk_journal.specs.Store.{header, magic}
use Rattle.mk_journal.proofs.open.header_of.Goals as goal

pub returns : goal.returns
unfolding header
returns c =
    let name : c.in_ok-body.body.items ≡ magic = search rules in
    let len : c.extend_from_slice.new.self.items ≡ magic ++ to_be_bytes w64 (length c.args.market.now) = c.in_ok-extend_from_slice.ensures.items ∙ ap (λ l. c.in_ok-body.body.items ++ l) c.to_be_bytes.ensures ∙ ap (λ l. l ++ to_be_bytes w64 (length c.args.market.now)) name in
    let all = c.in_ok-extend_from_slice-2.ensures.items ∙ ap (λ l. l ++ c.args.market.now) len in
    c.in_ok-push.ensures.items ∙ ap (λ l. l ++ 0 ∷ []) all
