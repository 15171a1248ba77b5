use Rattle.std.specs.Int.{w64}
use Rattle.std.proofs.lemmas.Int.{to_z-of_z}
use Rattle.ks_keeper.proofs.RowLemmas.{one_standing}
use Rattle.ks_keeper.proofs.statements.stands_alone.Goals as goal

pub returns-in-Some-clause-one : goal.returns-in-Some-clause-one
returns-in-Some-clause-one g c whole alone =
    let shows = rw (to_z-of_z w64 c.args.number c.ranges.number) at (c.in_ok-rows.ensures.shows whole) in
    one_standing _ _ c.in-Some.row shows (cc) (c.has_number.ensures alone)
