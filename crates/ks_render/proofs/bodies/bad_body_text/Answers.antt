use Rattle.std.proofs.Common.{◌∙◌, Some}
use Rattle.ks_render.specs.Errors.{bad_body}
use Rattle.ks_render.proofs.Steps.{text}
use Rattle.ks_render.proofs.bodies.bad_body_text.Goals as goal

pub returns : goal.returns
returns c = c.from_vec.ensures ∙ c.into_inner.ensures.items
    ∙ text (Some (bad_body c.args.cause.now)) (c.new-out.ensures.before ∙ c.in_ok-with_capacity.ensures.items) c.new-out.ensures.tokens c.in_ok-write_bad.ensures
