use Rattle.std.proofs.Common.{ap, ◌∙◌}
use Rattle.std.specs.Int.{w64}
use Rattle.std.proofs.lemmas.Int.{to_z-of_z}
use Rattle.sqlite_value.specs.declared.value.Value.TheVariants.{Int}
use Rattle.sqlite.specs.Held.{state}
use Rattle.ks_keeper.proofs.FindLemmas.{find_moves, find_same, find_shows}
use Rattle.ks_keeper.proofs.statements.find.Goals as goal

pub returns-clause-moves : goal.returns-clause-moves
returns-clause-moves g c whole =
    let number = c.params-to_sql.ensures ∙ ap Int (to_z-of_z w64 c.args.number c.ranges.number) in
    find_moves (λ rows. rows.items) c.args.shelf c.args.number (state g.S.Store c.args.conn.now) (state g.S.Store c.query_all.new.self) c.requires whole c.query_all.ensures.survives.clean c.query_all.result
    (rw (c.select_text.ensures, number) at (c.query_all.ensures.ok whole.0)) (rw (c.select_text.ensures, number) at (c.query_all.ensures.err whole.0))

pub returns-clause-same : goal.returns-clause-same
returns-clause-same g c whole =
    let number = c.params-to_sql.ensures ∙ ap Int (to_z-of_z w64 c.args.number c.ranges.number) in
    find_same (λ rows. rows.items) c.args.shelf c.args.number (state g.S.Store c.args.conn.now) (state g.S.Store c.query_all.new.self) c.requires whole c.query_all.ensures.survives.clean c.query_all.result
    (rw (c.select_text.ensures, number) at (c.query_all.ensures.ok whole.0)) (rw (c.select_text.ensures, number) at (c.query_all.ensures.err whole.0))

pub returns-clause-shows : goal.returns-clause-shows
returns-clause-shows g c whole =
    let number = c.params-to_sql.ensures ∙ ap Int (to_z-of_z w64 c.args.number c.ranges.number) in
    find_shows (λ rows. rows.items) c.args.shelf c.args.number (state g.S.Store c.args.conn.now) (state g.S.Store c.query_all.new.self) c.requires whole c.query_all.ensures.survives.clean c.query_all.result
    (rw (c.select_text.ensures, number) at (c.query_all.ensures.ok whole.0)) (rw (c.select_text.ensures, number) at (c.query_all.ensures.err whole.0))
