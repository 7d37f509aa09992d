use Rattle.daggre.proofs.SampleLengths.{sample_within}
use Rattle.daggre.proofs.sample.samples_are_within.Goals as goal

pub returns : goal.returns
returns c = sample_within
