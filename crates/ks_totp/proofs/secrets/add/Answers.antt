use Rattle.std.proofs.Common.{List, ap, ◌∙◌}
use Rattle.ks_totp.specs.declared.owners.OwnerRow.{OwnerRow}
use Rattle.ks_totp.specs.Owners.{owner_of}
use Rattle.ks_totp.proofs.OwnerLemmas.{owners_along, owners_put, owners_undone, owners_with, owners_without, secrets_with}
use Rattle.ks_totp.proofs.secrets.add.Goals as goal

pub returns-in-Ok-clause-owners : goal.returns-in-Ok-clause-owners
returns-in-Ok-clause-owners c =
    let more = c.in_ok-_new.ensures.ok.0 ∙ ap (λ (owner : OwnerRow). owners_with owner c.args.owners.now) c.owner_of.ensures in
    owners_along (secrets_with c.args.row c.args.secrets.now) c.put.new.self (owners_with (owner_of c.args.row) c.args.owners.now) c.add.new.self
    c.in-Ok.ensures.ok more (owners_put c.args.row c.args.secrets.now c.args.owners.now c.requires.new c.requires.owners)

pub returns-in-Err-clause-owners : goal.returns-in-Err-clause-owners
returns-in-Err-clause-owners c =
    let more = c.in_ok-_new.ensures.ok.0 ∙ ap (λ (owner : OwnerRow). owners_with owner c.args.owners.now) c.owner_of.ensures in
    let again =
    c.remove.ensures.rows ∙ ap (λ (owners : List OwnerRow). owners_without c.owner_of-owner.result owners) more
    ∙ ap (λ (owner : OwnerRow). owners_without owner (owners_with (owner_of c.args.row) c.args.owners.now)) c.owner_of-owner.ensures in
    owners_along c.args.secrets.now c.put.new.self (owners_without (owner_of c.args.row) (owners_with (owner_of c.args.row) c.args.owners.now)) c.remove.new.self
    c.in-Err.ensures.err again (owners_undone c.args.row c.args.secrets.now c.args.owners.now c.requires.new c.requires.owners)
