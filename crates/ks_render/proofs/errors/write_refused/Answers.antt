use Rattle.ks_render.proofs.errors.write_refused.Goals as goal

pub returns : goal.returns
returns c = rw (c.as_str.ensures.value, c.in_ok-push_message.ensures, c.clear.ensures.bytes, c.status_of_cause.ensures) at c.write_error.ensures
