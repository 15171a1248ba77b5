use Rattle.ks_render.specs.Tokens.{user_told}
use Rattle.ks_render.proofs.Steps.{named, object, ◌>>◌}
use Rattle.ks_render.proofs.tokens.write_user.Goals as goal

pub returns : goal.returns
unfolding user_told
returns c = named _ _ c.end_object.result c.in_ok-key.ensures (object c.end_object.result c.in_ok-begin_object.ensures
    (c.in_ok-write_titled_entry.ensures >> c.in_ok-write_id.ensures >> c.in_ok-write_text.ensures >> c.in_ok-write_null.ensures)
    c.end_object.ensures)
