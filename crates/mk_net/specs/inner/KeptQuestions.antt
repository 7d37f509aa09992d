-- A question's fields are those of what it stands for.
use Rattle.std.specs.Prelude.{◌≡◌, refl}
use Rattle.mk_net.specs.declared.question.Question.TheInside.{Inside}

abbrev pub fields : Inside → Inside
fields q = record { target = q.target; condition = q.condition }

pub asked_inverse : (q : Inside) → fields q ≡ q
asked_inverse q = refl
