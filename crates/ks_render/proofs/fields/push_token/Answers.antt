use Rattle.ks_render.specs.Answers.{token_fields}
use Rattle.ks_render.proofs.fields.push_token.Goals as goal

pub returns : goal.returns
unfolding token_fields
returns c = rw (c.own.ensures, c.in_ok-own.ensures.ok, c.as_str.ensures) at c.push.ensures
