-- The secrets so far, and those of the ids that are left.
use Rattle.std.proofs.Common.{◌≡◌, ◌++◌, drop, map}
use Rattle.ks_machine.specs.declared.body_out.Row.TheVariants as row
use Rattle.ks_listings.proofs.secrets.secrets_of.Given as goal

abbrev pub invariant-loop-id : goal.invariant-loop-id
invariant-loop-id l =
    l.rows ++ map (λ found. row.Secret found) (drop l.id-index l.factors.state.secrets) ≡ map (λ found. row.Secret found) l.factors.state.secrets
