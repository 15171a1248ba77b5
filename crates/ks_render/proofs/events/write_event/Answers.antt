use Rattle.ks_render.specs.Events.{event_value}
use Rattle.ks_render.proofs.Steps.{object}
use Rattle.ks_render.proofs.events.write_event.Goals as goal

pub returns : goal.returns
unfolding event_value
returns c = object c.end_object.result c.in_ok-begin_object.ensures
    (c.in_ok-write_entries.ensures)
    c.end_object.ensures
