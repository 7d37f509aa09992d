use Rattle.std.proofs.Common.{◌≤◌, ℕ, List, subst, sym, ap, ◌∙◌}
use Rattle.mk_net.specs.Bounds.{max_values}
use Rattle.mk_states.proofs.Shares.{few_values_at}
use Rattle.mk_quote.specs.Questions.{spread_in}
use Rattle.mk_quote.specs.Spreads.{IsSpreadFor}
use Rattle.mk_record.specs.declared.last_quote.LastQuote.TheVariants.{Bounds}
use Rattle.mk_record.specs.declared.users.Member.{Member}
use Rattle.mk_record.specs.Members.{names_of, assets_of, quotes_of}
use Rattle.mk_asking.specs.Keeping.{AreHeld}
use Rattle.mk_asking.proofs.Apart.{apart_same, apart_then, apart_quoted}
use Rattle.mk_asking.proofs.Judging.{last_judges, anew_judges, judged_by_last, taken, turned_down, behind_set, behind_left}
use Rattle.mk_asking.proofs.Quotes.{quote_was_set}
use Rattle.mk_asking.proofs.SpreadQuotes.{as_many_sides}
use Rattle.mk_asking.proofs.spread_quoting.judge_spread.Goals as goal
use Rattle.mk_asking.proofs.spread_quoting.judge_spread.Goals.{then-is_outside, else-is_outside}

pub judged_by-requires : goal.judged_by-requires
judged_by-requires g c =
    let net = c.args.file.now.net in let tree = c.args.file.now.tree in let H =
    c.args.journal.now.history in let spread = spread_in c.args.request.now.question in
    let quotes = quotes_of c.args.users.now in let quote = c.in-Some.quote.now in
    let opened = c.requires.in_use.is_open in
    let judge = last_judges net tree H c.args.request.now.user spread quotes quote c.requires.quotes
    c.in-Some.ensures.some (subst (IsSpreadFor quote spread) c.revision.ensures
    c.in-Some.ensures.its) in
    record {
      one_each = c.requires.one_each ∙ sym (as_many_sides net tree H c.args.request.now.user spread
          quote judge.its opened);
      few = subst (λ (n : ℕ). n ≤ max_values) (sym c.requires.one_each) (few_values_at net opened.legal spread.variable c.requires.answered.in_order.in_range.variable);
    }

pub judged_by-requires-2 : goal.judged_by-requires-2
judged_by-requires-2 g c =
    let net = c.args.file.now.net in let tree = c.args.file.now.tree in let H =
    c.args.journal.now.history in let spread = spread_in c.args.request.now.question in
    let opened = c.requires.in_use.is_open in
    record {
      one_each = c.requires.one_each ∙ sym (as_many_sides net tree H c.args.request.now.user spread
          c.in-Ok.quote c.in-Ok.ensures.quote opened);
      few = subst (λ (n : ℕ). n ≤ max_values) (sym c.requires.one_each) (few_values_at net opened.legal spread.variable c.requires.answered.in_order.in_range.variable);
    }

pub returns-in-Some-clause-judged : goal.returns-in-Some-clause-judged
returns-in-Some-clause-judged g c =
    let net = c.args.file.now.net in let tree = c.args.file.now.tree in let H =
    c.args.journal.now.history in let spread = spread_in c.args.request.now.question in
    let quotes = quotes_of c.args.users.now in let quote = c.in-Some.quote.now in
    judged_by_last net tree H c.args.request.now.user spread quotes quote
    (last_judges net tree H c.args.request.now.user spread quotes quote c.requires.quotes
    c.in-Some.ensures.some (subst (IsSpreadFor quote spread) c.revision.ensures
    c.in-Some.ensures.its))
    c.args.shares.now c.in-Some.ensures.some c.judged_by.result c.judged_by.ensures

pub returns-in-Ok-judged_by-clause-judged : goal.returns-in-Ok-judged_by-clause-judged
returns-in-Ok-judged_by-clause-judged g c =
    let spread = spread_in c.args.request.now.question in
    let quotes = quotes_of c.args.users.now in
    taken c.args.file.now.net c.args.file.now.tree c.args.journal.now.history
    c.args.request.now.user spread quotes c.in-Ok.quote
    (anew_judges c.args.file.now.net c.args.file.now.tree c.args.journal.now.history
    c.args.request.now.user spread quotes c.in-Ok.quote c.in-Ok.ensures.quote
    c.revision.result c.last_spread_quote.result c.in_default.not-Some c.revision.ensures
    c.last_spread_quote.ensures.none)
    c.args.shares.now (quotes_of c.fresh_spread_quote.new.users) c.in-Ok-judged_by.units.items
    c.in-Ok.ensures.quotes c.in-Ok-judged_by.ensures

pub returns-after-is_outside : goal.returns-after-is_outside
returns-after-is_outside g c =
    let net = c.args.file.now.net in let tree = c.args.file.now.tree in let H =
    c.args.journal.now.history in let u = c.args.request.now.user in
    let spread = spread_in c.args.request.now.question in
    let quotes = quotes_of c.args.users.now in let quote = c.in-Ok.quote in
    let made = c.in-Ok.ensures in
    let members = c.args.users.now in
    let mid = c.fresh_spread_quote.new.users in
    let new_members = c.if-is_outside.users in
    let why = c.in-Err-judged_by.why in
    let judge = anew_judges net tree H u spread quotes quote made.quote c.revision.result
    c.last_spread_quote.result c.in_default.not-Some c.revision.ensures
    c.last_spread_quote.ensures.none in
    elim c.if-is_outside.branch [
      | then-is_outside w ↦
          (let are = quote_was_set g.A.Engine.stands_for net tree H members mid new_members u
          (Bounds quote)
          made.names made.quotes made.held c.requires.user (w.users-is ∙ w.set_quote.ensures) in
          record {
            prices = made.prices;
            held = are.held;
            names = are.names;
            apart = apart_quoted u members mid new_members (Bounds quote) made.apart (w.users-is
                ∙ w.set_quote.ensures);
            judged = turned_down net tree H u spread quotes quote judge c.args.shares.now
                (quotes_of new_members) why
                (behind_set net tree H u spread quotes quote judge c.args.shares.now
                (quotes_of new_members) why
                (sym c.is_outside.ensures ∙ w.if-is_outside.true) are.quotes)
                c.in-Err-judged_by.ensures;
          })
      | else-is_outside w ↦ record {
        prices = made.prices;
        held = subst (λ (users : List (Member g.row.A.Denot g.row.A-Plan.Denot)). AreHeld
            g.A.Engine.stands_for net tree H users) (sym w.users-is) made.held;
        names = ap names_of w.users-is ∙ made.names;
        apart = apart_then u members mid new_members made.apart
            (apart_same mid new_members u (ap assets_of w.users-is));
        judged = turned_down net tree H u spread quotes quote judge c.args.shares.now
            (quotes_of new_members) why
            (behind_left net tree H u spread quotes quote judge c.args.shares.now
            (quotes_of new_members) why
            (sym c.is_outside.ensures ∙ w.if-is_outside.false) (ap quotes_of w.users-is
            ∙ made.quotes)) c.in-Err-judged_by.ensures;
      }
    ]
