use Rattle.ks_render.specs.Tokens.{token_body}
use Rattle.ks_render.proofs.Steps.{entry, object}
use Rattle.ks_render.proofs.tokens.write_token.Goals as goal

pub returns : goal.returns
unfolding token_body
returns c = object c.end_object.result c.in_ok-begin_object.ensures
    (entry c.in_ok-key.ensures c.in_ok-write_token_value.ensures)
    c.end_object.ensures
