use Rattle.ks_render.proofs.Steps.{named}
use Rattle.ks_render.proofs.events.write_audit_entry.Goals as goal

pub returns : goal.returns
returns c = named _ _ c.write_audit.result c.in_ok-key.ensures c.write_audit.ensures
