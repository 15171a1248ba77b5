use Rattle.ks_render.specs.Credentials.{secret_value}
use Rattle.ks_render.proofs.Steps.{object, ◌>>◌}
use Rattle.ks_render.proofs.credentials.write_secret.Goals as goal

pub returns : goal.returns
unfolding secret_value
returns c = object c.end_object.result c.in_ok-begin_object.ensures
    (c.in_ok-write_blob.ensures >> c.in_ok-write_id.ensures >> c.in_ok-write_self.ensures >> c.in_ok-write_null.ensures >> c.in_ok-write_str.ensures >> c.in_ok-write_id-2.ensures)
    c.end_object.ensures
