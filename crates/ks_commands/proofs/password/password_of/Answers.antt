use Rattle.std.proofs.Common.{◌≤◌, length, rules, arith}
use Rattle.ks_commands.proofs.PasswordLemmas.{read_gives}
use Rattle.ks_commands.proofs.password.password_of.Goals as goal

pub returns : goal.returns
returns c =
    let some : 1 ≤ length c.line_of-line.result.now = first_of (search rules, grind arith) in
    read_gives c.read.result c.line_of-line.result.now c.args.text.now c.line_of-line.ensures some c.if-line-gt-PASSWORD_BYTES.false
    c.read.ensures.some c.read.ensures.none
