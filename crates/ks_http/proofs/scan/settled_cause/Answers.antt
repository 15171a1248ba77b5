use Rattle.std.proofs.Common.{sym, ◌∙◌}
use Rattle.ks_http.proofs.ScanLemmas.{settled_is}
use Rattle.ks_http.proofs.scan.settled_cause.Goals as goal

pub returns : goal.returns
returns c = c.cause_behind.ensures ∙ (rw (c.reach-begun.ensures.place, c.reach-begun.ensures.line) (sym (settled_is c.args.bytes.now c.requires)))
