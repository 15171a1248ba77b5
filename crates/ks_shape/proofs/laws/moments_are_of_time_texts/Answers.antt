use Rattle.ks_shape.proofs.TimeLemmas.{time_from, time_is}
use Rattle.ks_shape.proofs.laws.moments_are_of_time_texts.Goals as goal

pub returns : goal.returns
returns c = λ text moment. (time_is text moment, time_from text moment)
