use Rattle.std.proofs.Common.{ap, sym, ◌∙◌}
use Rattle.ks_totp.specs.declared.owners.OwnerRow.{OwnerRow}
use Rattle.ks_totp.specs.Owners.{owner_of}
use Rattle.ks_totp.proofs.OwnerLemmas.{owners_along, owners_drop, owners_without, secrets_without}
use Rattle.ks_totp.proofs.secrets.remove.Goals as goal

pub returns-clause-owners : goal.returns-clause-owners
returns-clause-owners c =
    let less = c.remove.ensures.rows ∙ ap (λ (owner : OwnerRow). owners_without owner c.args.owners.now) c.owner_of-owner.ensures in
    owners_along (secrets_without c.args.id.now c.args.secrets.now) c.remove-2.new.self (owners_without (owner_of c.in-Some.row.now) c.args.owners.now) c.remove.new.self
    c.remove-2.ensures less
    (owners_drop c.args.id.now c.in-Some.row.now c.args.secrets.now c.args.owners.now c.in-Some.ensures.ascending (sym c.in-Some.ensures.found) c.requires.owners)
