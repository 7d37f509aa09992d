use Rattle.mk_assets.proofs.assets.Assets.least.Goals as goal

pub returns-clause-least : goal.returns-clause-least
returns-clause-least g c = λ h owns.
    let found = c.belief-found.ensures.belief h.meaning owns.stands in
    c.factor.ensures.least h _ _
    (record { stands = c.belief-found.ensures.kept h.meaning owns.stands; all_learnt = owns.all_learnt; counted = owns.counted; net = owns.net; few_in = owns.few_in; few_out = owns.few_out })
    (record { value = found.value; grade = found.grade; exact = found.exact })
