use Rattle.std.proofs.Common.{[], ◌∷◌, ◌++◌, map, filter, ap, ◌∙◌, arith}
use Rattle.ks_base.specs.declared.users.UserRow.{UserRow}
use Rattle.ks_base.specs.Rows.{has_id}
use Rattle.ks_machine.specs.declared.body_out.Row.TheVariants as row
use Rattle.ks_relations.proofs.FoundRows.{told_all, told_more, told_no_more}
use Rattle.ks_relations.proofs.members.users_among.Goals as goal

pub loop-id-preserved-in_default : goal.loop-id-preserved-in_default
loop-id-preserved-in_default c =
    let users = c.args.tables.now.people.now.users in
    told_no_more (λ found. row.User found) (λ (user : UserRow). user.id) c.args.ids.now c.loop-id.id-index c.id-item.result users c.loop-id.rows
    (map (λ found. row.User found) (filter (λ user. has_id c.args.ids.now user.id) users)) c.loop-id-test.true c.id-item.is c.in_default.ensures.found c.loop-id.invariant

pub loop-id-preserved : goal.loop-id-preserved
loop-id-preserved c =
    let users = c.args.tables.now.people.now.users in
    let more = c.in_ok-push.ensures.ok ∙ ap (λ made. c.loop-id.rows ++ row.User made ∷ []) c.in_ok-copy.ensures in
    told_more (λ found. row.User found) (λ (user : UserRow). user.id) c.args.ids.now c.loop-id.id-index c.id-item.result users c.in-Some.user.now c.loop-id.rows c.push.new.self
    (map (λ found. row.User found) (filter (λ user. has_id c.args.ids.now user.id) users)) c.requires c.user.ensures.ascending c.loop-id-test.true c.id-item.is
    c.in-Some.ensures.found more c.loop-id.invariant

pub returns : goal.returns
returns c =
    let users = c.args.tables.now.people.now.users in
    told_all (λ found. row.User found) (λ (user : UserRow). user.id) c.args.ids.now c.loop-id.id-index users c.loop-id.rows
    (map (λ found. row.User found) (filter (λ user. has_id c.args.ids.now user.id) users)) (omega (arith, c.loop-id-test.false)) c.loop-id.invariant
