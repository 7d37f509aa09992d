use Rattle.std.proofs.Common.{[], ◌∷◌, refl}
use Rattle.mk_engine.specs.Meaning.{with_known}
use Rattle.mk_user_engine.proofs.Staying.{pair_of, home_of, stands_narrow}
use Rattle.mk_user_engine.proofs.engine.UserEngine.know_narrow.Goals as goal

pub returns-clause-taken : goal.returns-clause-taken
returns-clause-taken c = λ m s yes.
    let e = c.args.self.now in let a = c.requires.range in let stays = c.if-self.false in
    stands_narrow e stays m s c.know.new.self (with_known c.args.pair m) refl refl
    (c.know.ensures.taken m (s.narrow stays).lists
    (pair_of e stays a.meaning a.stands m s c.args.pair a.in_range)
    (home_of e stays a.meaning a.stands m s (c.args.pair ∷ []) c.args.at c.requires.home) yes)
