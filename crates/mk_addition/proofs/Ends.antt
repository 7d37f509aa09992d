-- What is left when parts are read one after the other.
use Rattle.mk_text.proofs.Rests.{rest_of_rest, rest_all}

pub ruleset rests = (rest_of_rest, rest_all)
