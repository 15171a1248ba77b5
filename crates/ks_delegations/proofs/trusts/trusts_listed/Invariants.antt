-- The rows so far, and those of the trusts that are left.
use Rattle.std.proofs.Common.{◌≡◌, ◌++◌, drop, map, filter}
use Rattle.ks_auth.specs.Answers.{rows_told}
use Rattle.ks_machine.specs.TrustCommands.{is_trust_listed, told_trust}
use Rattle.ks_delegations.proofs.trusts.trusts_listed.Given as goal

abbrev pub invariant-loop-trust : goal.invariant-loop-trust
invariant-loop-trust l =
    l.rows ++ map (told_trust (rows_told l.tables)) (filter (is_trust_listed l.filters) (drop l.trust-index l.trusts))
    ≡ map (told_trust (rows_told l.tables)) (filter (is_trust_listed l.filters) l.trusts)
