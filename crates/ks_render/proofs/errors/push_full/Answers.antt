use Rattle.ks_render.proofs.errors.push_full.Goals as goal

pub returns : goal.returns
returns c = rw c.kind_name.ensures at c.push_between.ensures
