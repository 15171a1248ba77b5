use Rattle.std.proofs.Common.{filter, map}
use Rattle.ks_base.specs.Rows.{same}
use Rattle.ks_base.proofs.RowLemmas.{among_filter}
use Rattle.ks_checks.proofs.ListedLemmas.{listed, never_absent, next_is, passed_over}
use Rattle.ks_listings.proofs.by_name.listed_at.Goals as goal
use Rattle.ks_listings.proofs.by_name.listed_at.Goals.{then-agrees+in_ok-told-in-Some+in_ok-push-in-Some, else-agrees}

pub unreachable-requires : goal.unreachable-requires
unreachable-requires g c =
    let test = λ (row : _). same (g.R.Named.naming row) c.args.name.now in
    let all = g.S.Shelf.rows c.args.shelf.now in
    never_absent g.R.Row.key all (filter test all) c.args.ids.now c.loop-id.id-index c.id-item.result c.in-None.ensures.ascending (λ row among. (among_filter test all row among).0)
    c.requires c.loop-id-test.true c.id-item.is c.in-None.ensures.found

pub loop-id-preserved : goal.loop-id-preserved
loop-id-preserved g c =
    let tell = g.R.Listed.told in
    let agrees = g.R.Listed.agrees c.args.fields.now in
    let test = λ (row : _). same (g.R.Named.naming row) c.args.name.now in
    let all = g.S.Shelf.rows c.args.shelf.now in
    let some = filter test all in
    let row = c.in-Some.row.now in
    let whole = map tell (filter agrees some) in
    let next = next_is g.R.Row.key all some c.args.ids.now c.loop-id.id-index c.id-item.result c.in-Some.ensures.ascending (λ row among. (among_filter test all row among).0)
    c.requires c.loop-id-test.true c.id-item.is row c.in-Some.ensures.found in
    let asked = c.agrees.ensures in
    elim c.if-agrees.branch [
      | then-agrees+in_ok-told-in-Some+in_ok-push-in-Some w ↦
          listed tell some c.loop-id.id-index row c.loop-id.listed c.if-agrees.listed whole next agrees (let holds = w.if-agrees in cc)
          (let is = w.listed-is in let pushed = w.in_ok-push-in-Some.ensures.ok in let told = w.in_ok-told-in-Some.ensures in cc) c.loop-id.invariant
      | else-agrees w ↦
          passed_over tell some c.loop-id.id-index row c.loop-id.listed c.if-agrees.listed whole next agrees (let fails = w.if-agrees in cc) w.listed-is c.loop-id.invariant
    ]
