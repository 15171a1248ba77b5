use Rattle.ks_render.specs.Rows.{trust_value}
use Rattle.ks_render.proofs.Steps.{entry, object, ◌>>◌}
use Rattle.ks_render.proofs.rows.write_trust.Goals as goal

pub returns : goal.returns
unfolding trust_value
returns c =
    let written = object c.end_object.result c.in_ok-begin_object.ensures
    (c.in_ok-write_null.ensures >> c.in_ok-write_time_or_null.ensures >> c.in_ok-write_id.ensures >> c.in_ok-write_flag.ensures >> c.in_ok-write_self.ensures >> c.in_ok-write_id-2.ensures >> c.in_ok-write_id_or_null.ensures >> c.in_ok-write_count.ensures >> c.in_ok-write_count_or_null.ensures >> entry c.in_ok-key.ensures c.in_ok-write_titles.ensures >> c.in_ok-write_id-3.ensures >> c.in_ok-write_id-4.ensures)
    c.end_object.ensures in
    rw c.from.ensures at written
