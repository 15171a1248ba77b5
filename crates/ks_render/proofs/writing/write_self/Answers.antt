use Rattle.ks_render.specs.Named.{self_value}
use Rattle.ks_render.proofs.writing.write_self.Goals as goal

pub returns : goal.returns
unfolding self_value
returns c = rw (c.as_str.ensures.value, c.in_ok-make_link.ensures) at c.write_link.ensures
