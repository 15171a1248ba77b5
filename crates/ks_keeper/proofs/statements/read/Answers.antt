use Rattle.std.specs.Int.{w64}
use Rattle.std.proofs.lemmas.Int.{to_z-of_z}
use Rattle.ks_keeper.proofs.RowLemmas.{told_some, told_none}
use Rattle.ks_keeper.proofs.statements.read.Goals as goal

pub returns-in_ok-body_of-in-Some-clause-told : goal.returns-in_ok-body_of-in-Some-clause-told
returns-in_ok-body_of-in-Some-clause-told g c whole =
    let shows = rw (to_z-of_z w64 c.args.number c.ranges.number) at (c.in_ok-rows.ensures.shows whole) in
    told_some _ _ c.in-Some.row _ shows (cc) c.in_ok-body_of-in-Some.ensures

pub returns-in-None-clause-told : goal.returns-in-None-clause-told
returns-in-None-clause-told g c whole =
    let shows = rw (to_z-of_z w64 c.args.number c.ranges.number) at (c.in_ok-rows.ensures.shows whole) in
    told_none _ _ shows (cc)
