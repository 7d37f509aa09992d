use Rattle.mk_disk.proofs.Images.{each_image}
use Rattle.mk_disk.proofs.laws.each_image_counts.Goals as goal

pub returns : goal.returns
returns c = each_image
