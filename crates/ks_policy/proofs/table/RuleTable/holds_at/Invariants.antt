use Rattle.std.proofs.Common.{◌≡◌, length}
use Rattle.ks_policy.proofs.DecideLemmas.{MarksHold}
use Rattle.ks_policy.proofs.table.RuleTable.holds_at.Given as goal

abbrev pub invariant-loop-place : goal.invariant-loop-place
invariant-loop-place l = record {
  long : length l.known.marks ≡ 1024;
  rules : l.known.rules.now ≡ l.self;
  marks : MarksHold l.self l.creds l.target l.needs l.known.marks l.place-index;
}
