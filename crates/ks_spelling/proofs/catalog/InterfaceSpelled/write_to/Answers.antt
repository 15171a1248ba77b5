use Rattle.ks_spelling.specs.Rows.{interface_code}
use Rattle.ks_spelling.proofs.catalog.InterfaceSpelled.write_to.Goals as goal

pub returns-in-Public : goal.returns-in-Public
unfolding interface_code
returns-in-Public c = rw c.in-Public.is c.write_place.ensures

pub returns-in-Internal : goal.returns-in-Internal
unfolding interface_code
returns-in-Internal c = rw c.in-Internal.is c.write_place-in-Internal.ensures

pub returns-in-Admin : goal.returns-in-Admin
unfolding interface_code
returns-in-Admin c = rw c.in-Admin.is c.write_place-in-Admin.ensures
