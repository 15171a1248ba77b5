use Rattle.std.proofs.Common.{take}
use Rattle.ks_fernet.proofs.Readings.{reading_bytes, reading_none}
use Rattle.ks_fernet.proofs.envelope.Envelope.read.Goals as goal

pub returns-in_default : goal.returns-in_default
returns-in_default c =
    let none = rw c.in_default.is at c.read_text.ensures.none in
    let r = reading_none c.args.text.now none.0 none.1 in
    record { token = r.token; not_text = r.not_text; length = r.other_length; version = r.other_version; memory = r.memory; value = r.value; none = r.none }

pub returns : goal.returns
returns c =
    let r = reading_bytes c.args.text.now (take c.in-Some.len c.read_text.new.out) c.from_bytes.result c.in-Some.ensures.read.0 c.in-Some.ensures.read.1 c.from_bytes.ensures.ok c.from_bytes.ensures.err in
    record { token = r.token; not_text = r.not_text; length = r.other_length; version = r.other_version; memory = r.memory; value = r.value; none = r.none }
