-- What a judgement says of a statement about the exact numbers.
use Rattle.std.specs.Prelude.{Bool, true, false}
use Rattle.mk_judge.specs.declared.judged.Judged.{Judged}
use Rattle.mk_judge.specs.declared.judged.Judged.TheVariants.{Allowed, Wrong, Unclear}

-- the statement holds, or it does not, or something else is known
abbrev pub Judges : Judged → (stated : Type 0) → (otherwise : Type 0) → Type 0
Judges Allowed stated otherwise = stated
Judges Wrong stated otherwise = stated → ⊥
Judges Unclear stated otherwise = otherwise

-- where both have to be allowed
abbrev pub both : Judged → Judged → Judged
both Allowed b = b
both Wrong b = Wrong
both Unclear Allowed = Unclear
both Unclear Wrong = Wrong
both Unclear Unclear = Unclear

-- where one of both has to be allowed
abbrev pub one_of : Judged → Judged → Judged
one_of Allowed b = Allowed
one_of Wrong b = b
one_of Unclear Allowed = Allowed
one_of Unclear Wrong = Unclear
one_of Unclear Unclear = Unclear

-- where a test has to be true
abbrev pub where_true : Bool → Judged
where_true true = Allowed
where_true false = Wrong
