-- The rows so far, and those of the user's trusts that are left.
use Rattle.std.proofs.Common.{◌≡◌, ◌++◌, drop, map, filter}
use Rattle.ks_auth.specs.Answers.{rows_told}
use Rattle.ks_base.specs.declared.events.Revoke.TheVariants as revoke
use Rattle.ks_base.specs.Trusts.{names_trust}
use Rattle.ks_machine.specs.TrustCommands.{is_trust_listed, told_trust}
use Rattle.ks_delegations.proofs.trusts.trusts_of_user.Given as goal

abbrev pub invariant-loop-id : goal.invariant-loop-id
invariant-loop-id l =
    l.rows ++ map (told_trust (rows_told l.tables)) (filter (is_trust_listed l.filters) (drop l.id-index (filter (names_trust (revoke.User l.user)) l.tables.trusts.now)))
    ≡ map (told_trust (rows_told l.tables)) (filter (is_trust_listed l.filters) l.tables.trusts.now)
