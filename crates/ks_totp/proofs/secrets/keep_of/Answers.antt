use Rattle.std.proofs.Common.{filter}
use Rattle.ks_totp.proofs.OwnerLemmas.{owners_along, owners_kept}
use Rattle.ks_totp.proofs.secrets.keep_of.Goals as goal

pub returns-clause-owners : goal.returns-clause-owners
returns-clause-owners g c =
    let passes = g.T.Test.test c.args.users.now in
    owners_along (filter (λ row. passes row.user) c.args.secrets.now) c.keep.new.self (filter (λ owner. passes owner.user) c.args.owners.now) c.keep-2.new.self
    c.keep.ensures c.keep-2.ensures (owners_kept passes c.args.secrets.now c.args.owners.now c.requires)
