-- The credentials so far, and those of the ids that are left.
use Rattle.std.proofs.Common.{◌≡◌, ◌++◌, drop, map, filter}
use Rattle.ks_auth.specs.Answers.{rows_told}
use Rattle.ks_base.specs.AppCreds.{is_of_user}
use Rattle.ks_machine.specs.AppCredCommands.{told_cred}
use Rattle.ks_delegations.proofs.app_creds.creds_told.Given as goal

abbrev pub invariant-loop-id : goal.invariant-loop-id
invariant-loop-id l =
    l.rows ++ map (told_cred (rows_told l.tables)) (drop l.id-index (filter (is_of_user l.user) l.tables.app_creds.now))
    ≡ map (told_cred (rows_told l.tables)) (filter (is_of_user l.user) l.tables.app_creds.now)
