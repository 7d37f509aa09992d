use Rattle.std.proofs.Common.{ℕ, ◌+◌, refl, ap, ◌∙◌}
use Rattle.mk_tally.proofs.Counted.{counted_more, test_number, number_of_test}
use Rattle.mk_tally.proofs.counts.Tally.add.Goals as goal

pub returns-clause-counts : goal.returns-clause-counts
returns-clause-counts c = λ earlier counts.
    let traded = ap (λ (n : ℕ). c.args.self.now.trades + n) (c.from.ensures
    ∙ number_of_test c.is_traded.result ∙ ap test_number c.is_traded.ensures) in
    let refused = ap (λ (n : ℕ). c.args.self.now.refused + n) (c.from-2.ensures
    ∙ number_of_test c.is_refused.result ∙ ap test_number c.is_refused.ensures) in
    counted_more earlier c.args.reply c.args.self.now _ refl traded refused refl counts
