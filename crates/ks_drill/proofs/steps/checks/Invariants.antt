use Rattle.std.proofs.Common.{◌≡◌, ◌+◌, ◌≤◌, ◌++◌, drop}
use Rattle.ks_drill.specs.Drill.{checks}
use Rattle.ks_drill.proofs.steps.checks.Given as goal

abbrev pub invariant-loop-login : goal.invariant-loop-login
invariant-loop-login g l = record {
  checked : l.found ++ (checks l.caller (drop l.login-index l.logins) l.session).1 ≡ (checks l.caller l.logins l.initial.session).1;
  calls : l.session.calls ≤ l.initial.session.calls + l.login-index;
}
