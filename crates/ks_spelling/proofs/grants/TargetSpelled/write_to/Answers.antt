use Rattle.ks_spelling.specs.Rows.{target_code}
use Rattle.ks_spelling.proofs.grants.TargetSpelled.write_to.Goals as goal

pub returns-in-System : goal.returns-in-System
unfolding target_code
returns-in-System c = rw c.in-System.is c.write_place.ensures
