use Rattle.mk_known.proofs.KnownFollow.{leaves_weights}
use Rattle.mk_known.proofs.following.changes_weights.Goals as goal

pub returns-in_default : goal.returns-in_default
returns-in_default c = λ no market H command.
    leaves_weights market H command c.args.reply.now c.in_default.not-Traded
    c.in_default.not-Spreaded c.in_default.not-Added
