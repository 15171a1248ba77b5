use Rattle.std.proofs.Common.{[], ◌∷◌, ◌++◌, map, filter, ap, ◌∙◌, arith}
use Rattle.ks_base.specs.declared.rows.GroupRow.{GroupRow}
use Rattle.ks_base.specs.Rows.{has_id}
use Rattle.ks_machine.specs.declared.body_out.Row.TheVariants as row
use Rattle.ks_relations.proofs.FoundRows.{told_all, told_more, told_no_more}
use Rattle.ks_relations.proofs.members.groups_among.Goals as goal

pub loop-id-preserved-in_default : goal.loop-id-preserved-in_default
loop-id-preserved-in_default c =
    let groups = c.args.tables.now.people.now.groups in
    told_no_more (λ found. row.Group found) (λ (group : GroupRow). group.id) c.args.ids.now c.loop-id.id-index c.id-item.result groups c.loop-id.rows
    (map (λ found. row.Group found) (filter (λ group. has_id c.args.ids.now group.id) groups)) c.loop-id-test.true c.id-item.is c.in_default.ensures.found c.loop-id.invariant

pub loop-id-preserved : goal.loop-id-preserved
loop-id-preserved c =
    let groups = c.args.tables.now.people.now.groups in
    let more = c.in_ok-push.ensures.ok ∙ ap (λ made. c.loop-id.rows ++ row.Group made ∷ []) c.in_ok-copy.ensures in
    told_more (λ found. row.Group found) (λ (group : GroupRow). group.id) c.args.ids.now c.loop-id.id-index c.id-item.result groups c.in-Some.group.now c.loop-id.rows c.push.new.self
    (map (λ found. row.Group found) (filter (λ group. has_id c.args.ids.now group.id) groups)) c.requires c.group.ensures.ascending c.loop-id-test.true c.id-item.is
    c.in-Some.ensures.found more c.loop-id.invariant

pub returns : goal.returns
returns c =
    let groups = c.args.tables.now.people.now.groups in
    told_all (λ found. row.Group found) (λ (group : GroupRow). group.id) c.args.ids.now c.loop-id.id-index groups c.loop-id.rows
    (map (λ found. row.Group found) (filter (λ group. has_id c.args.ids.now group.id) groups)) (omega (arith, c.loop-id-test.false)) c.loop-id.invariant
