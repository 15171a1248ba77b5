use Rattle.std.proofs.Common.{◌≡◌, ℕ, Bool, true, false, cond, ◌&&◌, nat_le, Option, Some, None, refl, sym, ap, ◌∙◌}
use Rattle.ks_base.specs.declared.events.EventRow.{EventRow}
use Rattle.ks_base.specs.Revocation.{is_live}
use Rattle.ks_base.specs.Tables.{passing}
use Rattle.ks_base.proofs.PlaceLemmas.{find_found, find_gap}
use Rattle.ks_base.proofs.RowLemmas.{find_filter}
use Rattle.ks_revoke.specs.Marks.{ends_then}
use Rattle.ks_revoke.specs.Things.{thing_cmp, thing_of}
use Rattle.ks_revoke.proofs.ThingLemmas.{thing_total}
use Rattle.ks_revoke.proofs.marks.ends.Goals as goal

-- a row that is found ends them where it passes
found_ends : (issued : ℕ) (test : EventRow → Bool) (found : Option EventRow) (row : EventRow) (b : Bool) → found ≡ Some row → b ≡ test row →
    (b && nat_le issued row.moment) ≡ ends_then issued (passing test found)
found_ends issued test found row b is passes = rw (is, sym passes) (by b)
  where
    by : (c : Bool) → (c && nat_le issued row.moment) ≡ ends_then issued (cond c (Some row) None)
    by true = refl
    by false = refl

pub returns-then-is_live : goal.returns-then-is_live
returns-then-is_live c =
    let found = find_found thing_cmp thing_of c.in-Some.thing c.args.marks.now c.in-Ok.at c.index-marks-at.result c.in-Ok.ensures.place ∙ ap Some (sym (c.get-mark.ensures ∙ c.index-marks-at.is)) in
    let left = find_filter thing_cmp thing_of thing_total (is_live c.args.life c.args.high) c.in-Some.thing c.args.marks.now c.requires in
    rw c.in-Some.is (found_ends c.args.issued (is_live c.args.life c.args.high) _ c.get-mark.result.now true found (sym c.if-is_live.true ∙ c.is_live.ensures)
    ∙ sym (ap (ends_then c.args.issued) left))

pub returns-else-is_live : goal.returns-else-is_live
returns-else-is_live c =
    let found = find_found thing_cmp thing_of c.in-Some.thing c.args.marks.now c.in-Ok.at c.index-marks-at.result c.in-Ok.ensures.place ∙ ap Some (sym (c.get-mark.ensures ∙ c.index-marks-at.is)) in
    let left = find_filter thing_cmp thing_of thing_total (is_live c.args.life c.args.high) c.in-Some.thing c.args.marks.now c.requires in
    rw c.in-Some.is (c.if-is_live.false
    ∙ found_ends c.args.issued (is_live c.args.life c.args.high) _ c.get-mark.result.now false found (sym c.if-is_live.false ∙ c.is_live.ensures)
    ∙ sym (ap (ends_then c.args.issued) left))

pub returns-in-Err : goal.returns-in-Err
returns-in-Err c =
    let none = find_gap thing_cmp thing_of c.in-Some.thing c.args.marks.now c.in-Err.field-0 c.in-Err.ensures.place in
    rw c.in-Some.is (sym (ap (ends_then c.args.issued) (find_filter thing_cmp thing_of thing_total (is_live c.args.life c.args.high) c.in-Some.thing c.args.marks.now c.requires
    ∙ ap (passing (is_live c.args.life c.args.high)) none)))
