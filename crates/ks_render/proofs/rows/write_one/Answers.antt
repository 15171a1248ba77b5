use Rattle.ks_render.specs.Rows.{one_body}
use Rattle.ks_render.proofs.Steps.{entry, object}
use Rattle.ks_render.proofs.rows.write_one.Goals as goal

pub returns : goal.returns
unfolding one_body
returns c =
    let written = object c.end_object.result c.in_ok-begin_object.ensures
    (entry c.in_ok-key.ensures c.in_ok-write_row.ensures)
    c.end_object.ensures in
    rw c.row_name.ensures at written
