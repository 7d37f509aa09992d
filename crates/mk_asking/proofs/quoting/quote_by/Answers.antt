use Rattle.std.proofs.Common.{◌∙◌, sym, subst}
use Rattle.mk_net.specs.Asked.{Asked}
use Rattle.mk_exact.specs.Sides.{AreSides}
use Rattle.mk_exact.specs.Weight.{IsSmall}
use Rattle.mk_quote.specs.declared.bounds.Bounds.{Bounds}
use Rattle.mk_answers.specs.Open.{CanBeAnswered, AreBoundsFor}
use Rattle.mk_answers.specs.Results.{AreBothLeft, AreSidesFor}
use Rattle.mk_asking.proofs.quoting.quote_by.Goals as goal

pub returns-in-Open : goal.returns-in-Open
returns-in-Open c network tree H present answered are =
    let found = subst (AreSidesFor network H c.args.user c.args.question) c.in-Open.is are in
    record {
      same_user = c.make.ensures.user;
      question = c.make.ensures.question;
      at_present = c.make.ensures.revision ∙ present;
      current = record {
        answered = subst (λ (asked : Asked). CanBeAnswered network tree H asked)
            (sym c.make.ensures.question) answered;
        left = subst (λ (asked : Asked). AreBothLeft network H asked) (sym c.make.ensures.question)
            found.0;
        bounds = λ hit miss are_sides.
            subst (λ (bounds : Bounds). AreBoundsFor bounds (IsSmall network H) hit miss)
            (sym c.make.ensures.bounds)
            (found.1 hit miss (subst (λ (asked : Asked). AreSides network H c.args.user asked hit
            miss) c.make.ensures.question are_sides));
      };
    }

pub returns-in-Impossible : goal.returns-in-Impossible
returns-in-Impossible c network tree H present answered are = subst
    (AreSidesFor network H c.args.user c.args.question) c.in-Impossible.is are

pub returns-in-Never : goal.returns-in-Never
returns-in-Never c network tree H present answered are = subst
    (AreSidesFor network H c.args.user c.args.question) c.in-Never.is are

pub returns-in-Sure : goal.returns-in-Sure
returns-in-Sure c network tree H present answered are = subst
    (AreSidesFor network H c.args.user c.args.question) c.in-Sure.is are
