use Rattle.std.proofs.Common.{◌≡◌, ◌++◌, map, filter, drop}
use Rattle.ks_base.specs.Rows.{has_id}
use Rattle.ks_machine.specs.declared.body_out.Row.TheVariants as row
use Rattle.ks_relations.proofs.members.groups_among.Given as goal

abbrev pub invariant-loop-id : goal.invariant-loop-id
invariant-loop-id l =
    l.rows ++ map (λ found. row.Group found) (filter (λ group. has_id (drop l.id-index l.ids) group.id) l.tables.people.now.groups)
    ≡ map (λ found. row.Group found) (filter (λ group. has_id l.ids group.id) l.tables.people.now.groups)
