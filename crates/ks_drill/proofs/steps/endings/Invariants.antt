use Rattle.std.proofs.Common.{◌≡◌, ◌+◌, ◌≤◌, drop}
use Rattle.ks_drill.specs.Drill.{endings}
use Rattle.ks_drill.proofs.steps.endings.Given as goal

abbrev pub invariant-loop-i : goal.invariant-loop-i
invariant-loop-i g l = record {
  ended : (endings l.caller l.start l.i (drop l.i l.logins) l.session).0 ≡ (endings l.caller l.start 0 l.logins l.initial.session).0;
  calls : l.session.calls ≤ l.initial.session.calls + l.i;
}
