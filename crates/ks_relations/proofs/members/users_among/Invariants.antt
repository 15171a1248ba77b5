use Rattle.std.proofs.Common.{◌≡◌, ◌++◌, map, filter, drop}
use Rattle.ks_base.specs.Rows.{has_id}
use Rattle.ks_machine.specs.declared.body_out.Row.TheVariants as row
use Rattle.ks_relations.proofs.members.users_among.Given as goal

abbrev pub invariant-loop-id : goal.invariant-loop-id
invariant-loop-id l =
    l.rows ++ map (λ found. row.User found) (filter (λ user. has_id (drop l.id-index l.ids) user.id) l.tables.people.now.users)
    ≡ map (λ found. row.User found) (filter (λ user. has_id l.ids user.id) l.tables.people.now.users)
