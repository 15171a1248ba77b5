use Rattle.std.proofs.Common.{◌+◌, sym, ap, ◌∙◌}
use Rattle.ks_json.specs.View.{items_view}
use Rattle.ks_shape.specs.Places.{names_in, place_of}
use Rattle.ks_shape.proofs.RefusalLemmas.{stops}
use Rattle.ks_written.specs.Entries.{entries_from}
use Rattle.ks_written.proofs.EntryLemmas.{all_from, entry_step, entry_refused, all_read}
use Rattle.ks_written.proofs.entries.each.Goals as goal

pub returns-in_err-row : goal.returns-in_err-row
returns-in_err-row g c =
    let read = g.E.Entry.reads in
    let names = names_in c.args.names.now in
    let file = place_of c.args.file.now in
    stops c.from_residual-in_err-row.result c.in_err-row.field-0.0
    (all_from read names file c.loop-number.number c.loop-number.rows c.args.values.now)
    (entries_from read names file 0 (items_view c.args.values.now)) c.from_residual-in_err-row.ensures.1
    (entry_refused c.in_err-row.field-0.0 read names file c.loop-number.rows c.args.values.now c.loop-number.number c.index-values-number.result
    c.loop-number-test.true c.index-values-number.is (rw c.in_ok-entry.ensures at c.in_err-row.ensures))
    (λ fault h. sym c.loop-number.invariant ∙ h)

pub loop-number-preserved : goal.loop-number-preserved
loop-number-preserved g c =
    let read = g.E.Entry.reads in
    let names = names_in c.args.names.now in
    let file = place_of c.args.file.now in
    let step = entry_step read names file c.loop-number.rows c.args.values.now c.loop-number.number c.index-values-number.result c.in_ok-row.row
    c.loop-number-test.true c.index-values-number.is (rw c.in_ok-entry.ensures at c.in_ok-row.ensures) in
    ap (λ rows. all_from read names file (c.loop-number.number + 1) rows c.args.values.now) c.in_ok-push.ensures.ok
    ∙ (step ∙ c.loop-number.invariant)

pub returns : goal.returns
returns g c =
    sym c.loop-number.invariant
    ∙ all_read g.E.Entry.reads (names_in c.args.names.now) (place_of c.args.file.now) c.loop-number.rows c.args.values.now c.loop-number.number
    c.loop-number-test.false
