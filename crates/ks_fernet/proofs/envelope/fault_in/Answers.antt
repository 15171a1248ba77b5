use Rattle.std.proofs.Common.{◌≡◌, true, false, length, rules}
use Rattle.ks_fernet.specs.Token.{is_token_length}
use Rattle.ks_fernet.proofs.Tokens.{envelope_in_length, envelope_in_parts, envelope_in_version}
use Rattle.ks_fernet.proofs.envelope.fault_in.Goals as goal

pub returns-then-not-is_token_length-clause-fault : goal.returns-then-not-is_token_length-clause-fault
returns-then-not-is_token_length-clause-fault c =
    let other : is_token_length (length c.args.bytes.now) ≡ false = search rules in
    (other, envelope_in_length c.args.bytes.now other)

pub returns-then-bytes-clause-fault : goal.returns-then-bytes-clause-fault
returns-then-bytes-clause-fault c =
    let long : is_token_length (length c.args.bytes.now) ≡ true = search rules in
    ((long, c.if-bytes.true), envelope_in_version c.args.bytes.now c.if-bytes.true)

pub returns-clause-none : goal.returns-clause-none
returns-clause-none c =
    let long : is_token_length (length c.args.bytes.now) ≡ true = search rules in
    envelope_in_parts c.args.bytes.now long c.if-bytes.false
