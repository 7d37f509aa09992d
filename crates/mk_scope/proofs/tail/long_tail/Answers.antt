use Rattle.mk_scope.proofs.tail.long_tail.Goals as goal

pub returns-then-cells-lt-LEAST_RUN : goal.returns-then-cells-lt-LEAST_RUN
returns-then-cells-lt-LEAST_RUN c = λ scope values h. c.no_tail.ensures.tail scope values
