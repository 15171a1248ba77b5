use Rattle.std.proofs.Common.{ap, ◌∙◌}
use Rattle.std.specs.Int.{w64}
use Rattle.std.proofs.lemmas.Int.{to_z-of_z}
use Rattle.sqlite_value.specs.declared.value.Value.TheVariants.{Int}
use Rattle.sqlite.specs.Held.{state}
use Rattle.ks_keeper.proofs.ReplaceLemmas.{replace_moves, replace_fails, replace_puts}
use Rattle.ks_keeper.proofs.statements.replace.Goals as goal

pub returns-clause-moves : goal.returns-clause-moves
returns-clause-moves g c whole =
    let number = c.params-to_sql.ensures ∙ ap Int (to_z-of_z w64 c.args.number c.ranges.number) in
    let did = rw (c.replace_text.ensures, number, c.params-to_sql-2.ensures) at (c.execute.ensures.runs whole.0) in
    replace_moves c.args.shelf c.args.number c.args.body.now (state g.S.Store c.args.conn.now) (state g.S.Store c.execute.new.self) c.requires.ready c.requires.one whole c.execute.ensures.survives.clean c.execute.result did

pub returns-clause-err : goal.returns-clause-err
returns-clause-err g c whole =
    let number = c.params-to_sql.ensures ∙ ap Int (to_z-of_z w64 c.args.number c.ranges.number) in
    let did = rw (c.replace_text.ensures, number, c.params-to_sql-2.ensures) at (c.execute.ensures.runs whole.0) in
    replace_fails c.args.shelf c.args.number c.args.body.now (state g.S.Store c.args.conn.now) (state g.S.Store c.execute.new.self) c.requires.ready c.requires.one whole c.execute.ensures.survives.clean c.execute.result did

pub returns-clause-put : goal.returns-clause-put
returns-clause-put g c whole =
    let number = c.params-to_sql.ensures ∙ ap Int (to_z-of_z w64 c.args.number c.ranges.number) in
    let did = rw (c.replace_text.ensures, number, c.params-to_sql-2.ensures) at (c.execute.ensures.runs whole.0) in
    replace_puts c.args.shelf c.args.number c.args.body.now (state g.S.Store c.args.conn.now) (state g.S.Store c.execute.new.self) c.requires.ready c.requires.one whole c.execute.ensures.survives.clean c.execute.result did
