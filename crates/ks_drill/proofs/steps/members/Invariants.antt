use Rattle.std.proofs.Common.{◌≡◌, ◌+◌, ◌*◌, length}
use Rattle.ks_drill.specs.Drill.{members}
use Rattle.ks_drill.proofs.steps.members.Given as goal

abbrev pub invariant-loop-i : goal.invariant-loop-i
invariant-loop-i g l = record {
  made : members l.caller l.start l.i l.initial.session ≡ (l.session, l.logins);
  calls : l.session.calls ≡ l.initial.session.calls + 4 * l.i;
  many : length l.logins ≡ l.i;
}
