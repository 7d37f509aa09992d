use Rattle.mk_sums.proofs.Items as parts
use Rattle.mk_sums.proofs.joints.joint_is_read.Goals as goal

pub returns : goal.returns
returns c = parts.joint_is_read
