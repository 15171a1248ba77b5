use Rattle.std.proofs.Common.{◌&&◌, true}
use Rattle.std.proofs.lemmas.List.Elements.{filter_agree}
use Rattle.std.proofs.Math.Bool.{and-true}
use Rattle.ks_base.specs.declared.rows.RoleRow.{RoleRow}
use Rattle.ks_machine.specs.Listings.{passes_name}
use Rattle.ks_listings.proofs.listings.roles_listed.Goals as goal

pub returns : goal.returns
returns c =
    let passes = λ (role : RoleRow). passes_name c.args.fields.now role.name in
    rw (filter_agree (λ role. passes role && true) passes (λ role. and-true (passes role)) c.args.roles.now.roles) at c.listed_on.ensures
