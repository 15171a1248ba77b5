use Rattle.std.proofs.Common.{Ok}
use Rattle.ks_render.specs.Errors.{error_body}
use Rattle.ks_render.proofs.Steps.{entry, object, ◌>>◌}
use Rattle.ks_render.proofs.errors.write_error.Goals as goal

pub returns : goal.returns
unfolding error_body
returns c =
    let written = object c.end_object-2.result c.in_ok-begin_object.ensures
    (entry c.in_ok-key.ensures (object (Ok tt) c.in_ok-begin_object-2.ensures
    (c.in_ok-write_count.ensures >> c.in_ok-write_str.ensures >> c.in_ok-write_str-2.ensures)
    c.in_ok-end_object.ensures))
    c.end_object-2.ensures in
    rw (c.from.ensures, c.reason.ensures) at written
