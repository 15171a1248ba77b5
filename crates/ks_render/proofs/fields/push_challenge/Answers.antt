use Rattle.ks_render.specs.Answers.{challenge_fields}
use Rattle.ks_render.proofs.fields.push_challenge.Goals as goal

pub returns : goal.returns
unfolding challenge_fields
returns c = rw (c.own.ensures, c.in_ok-challenge.ensures) at c.push.ensures
