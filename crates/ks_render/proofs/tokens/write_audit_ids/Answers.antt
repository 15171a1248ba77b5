use Rattle.ks_render.specs.Tokens.{audit_ids}
use Rattle.ks_render.proofs.Steps.{array, named, ◌>>◌}
use Rattle.ks_render.proofs.tokens.write_audit_ids.Goals as goal

pub returns : goal.returns
unfolding audit_ids
returns c = named _ _ c.end_array.result c.in_ok-key.ensures (array c.end_array.result c.in_ok-begin_array.ensures
    (c.in_ok-write_audit.ensures >> c.in_ok-write_chain.ensures)
    c.end_array.ensures)
