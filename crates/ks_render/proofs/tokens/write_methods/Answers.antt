use Rattle.ks_render.specs.Tokens.{methods_value}
use Rattle.ks_render.proofs.Steps.{array, named, ◌>>◌}
use Rattle.ks_render.proofs.tokens.write_methods.Goals as goal

pub returns : goal.returns
unfolding methods_value
returns c = named _ _ c.end_array.result c.in_ok-key.ensures (array c.end_array.result c.in_ok-begin_array.ensures
    (c.in_ok-write_method.ensures >> c.in_ok-write_method-2.ensures >> c.in_ok-write_method-3.ensures >> c.in_ok-write_method-4.ensures)
    c.end_array.ensures)
