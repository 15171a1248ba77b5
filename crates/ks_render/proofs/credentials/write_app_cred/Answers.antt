use Rattle.ks_render.specs.Credentials.{app_cred_value}
use Rattle.ks_render.proofs.Steps.{entry, object, ◌>>◌}
use Rattle.ks_render.proofs.credentials.write_app_cred.Goals as goal

pub returns : goal.returns
unfolding app_cred_value
returns c = object c.end_object.result c.in_ok-begin_object.ensures
    (c.in_ok-write_text.ensures >> c.in_ok-write_time_or_null.ensures >> c.in_ok-write_id.ensures >> c.in_ok-write_place.ensures >> c.in_ok-write_text-2.ensures >> c.in_ok-write_id-2.ensures >> entry c.in_ok-key.ensures c.in_ok-write_titles.ensures >> c.in_ok-write_given.ensures >> c.in_ok-write_flag.ensures >> c.in_ok-write_id-3.ensures)
    c.end_object.ensures
