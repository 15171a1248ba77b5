use Rattle.ks_entries.specs.Changes.{change_code}
use Rattle.ks_entries.proofs.changes.write_change.Goals as goal

pub returns-in-RevokeToken : goal.returns-in-RevokeToken
unfolding change_code
returns-in-RevokeToken c = rw c.in-RevokeToken.is c.write_at-in-RevokeToken.ensures

pub returns-in-Load : goal.returns-in-Load
unfolding change_code
returns-in-Load c = rw c.in-Load.is c.write_at-in-Load.ensures

pub returns-in-PutUserWith : goal.returns-in-PutUserWith
unfolding change_code
returns-in-PutUserWith c = rw c.in-PutUserWith.is c.write_two_at.ensures
