-- What is left decides.
use Rattle.std.proofs.Common.{◌≡◌, drop}
use Rattle.std.specs.List.{list_all}
use Rattle.ks_base.specs.Rows.{has_id}
use Rattle.ks_auth.proofs.roles.have_all.Given as goal

abbrev pub invariant-loop-role : goal.invariant-loop-role
invariant-loop-role l = list_all (has_id l.held) (drop l.role-index l.roles) ≡ list_all (has_id l.held) l.roles
