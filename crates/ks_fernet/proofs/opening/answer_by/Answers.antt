use Rattle.std.proofs.Common.{take, sym}
use Rattle.ks_fernet.specs.Opener.{key_of}
use Rattle.ks_fernet.proofs.Openings.{open_of_bytes, open_of_fault, open_of_none}
use Rattle.ks_fernet.proofs.opening.answer_by.Goals as goal

pub returns-in_default : goal.returns-in_default
returns-in_default c =
    let none = rw c.in_default.is at c.read_text.ensures.none in
    sym (open_of_none (key_of c.args.opener.now) c.args.text.now none.1)

pub returns-in-Some-fault_in : goal.returns-in-Some-fault_in
returns-in-Some-fault_in c =
    sym (open_of_fault (key_of c.args.opener.now) c.args.text.now (take c.in-Some.len c.read_text.new.out) c.in-Some.ensures.read.0 c.in-Some.ensures.read.1 c.in-Some-fault_in.ensures.fault.1)

pub returns : goal.returns
returns c =
    rw (open_of_bytes (key_of c.args.opener.now) c.args.text.now (take c.in-Some.len c.read_text.new.out) c.in-Some.ensures.read.0 c.in-Some.ensures.read.1 c.in_default-fault_in.ensures.none)
    c.open_bytes.ensures
