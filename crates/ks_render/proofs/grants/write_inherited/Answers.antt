use Rattle.ks_render.proofs.grants.write_inherited.Goals as goal

pub returns-then-inherited : goal.returns-then-inherited
returns-then-inherited c = rw c.if-inherited.true c.write_str.ensures
