use Rattle.ks_render.proofs.errors.write_bad.Goals as goal

pub returns : goal.returns
returns c = rw (c.status_of_bad.ensures, c.message_of_bad.ensures) at c.write_error.ensures
