-- The roles so far stand before those of the names that are left, which decide.
use Rattle.std.proofs.Common.{◌≡◌, drop}
use Rattle.ks_auth.specs.Answers.{rows_told}
use Rattle.ks_machine.specs.TrustCommands.{roles_asked}
use Rattle.ks_delegations.proofs.AskedLemmas.{behind}
use Rattle.ks_delegations.proofs.trusts.roles_asked.Given as goal

abbrev pub invariant-loop-named : goal.invariant-loop-named
invariant-loop-named l = roles_asked (rows_told l.tables) l.field l.names ≡ behind l.ids (roles_asked (rows_told l.tables) l.field (drop l.named-index l.names))
