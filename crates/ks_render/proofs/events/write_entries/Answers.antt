use Rattle.ks_render.proofs.events.write_entries.Goals as goal

pub returns-in-Trust : goal.returns-in-Trust
returns-in-Trust c = rw c.in-Trust.is c.write_of_id-in-Trust.ensures
