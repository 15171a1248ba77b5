use Rattle.std.proofs.Common.{◌≡◌, ◌≤◌, ◌∙◌, ap, sym, ◌+◌, suc, find, Some, None, length, lit<, arith}
use Rattle.ks_ring.specs.Rings.{is_staged, active}
use Rattle.ks_ring.proofs.RotationLemmas.{staged_room, promoted_some, promoted_none, highest_is}
use Rattle.ks_ring.proofs.rotation.promote.Goals as goal

pub insert-requires : goal.insert-requires
insert-requires c =
    let found : find is_staged c.args.held.now.items ≡ Some c.in-Some.staged =
    sym (ap (find is_staged) c.as_slice-2.ensures.value) ∙ sym c.staged.ensures ∙ sym c.copied-staged.ensures ∙ c.in-Some.is in
    let room : suc (length (active c.args.held.now.items)) ≤ length c.args.held.now.items = staged_room c.in-Some.staged c.args.held.now.items found in
    (lit< tt, (omega arith, rw c.drop_staged.ensures (omega (arith, room, c.requires.most))))

pub returns-in-Some : goal.returns-in-Some
returns-in-Some c =
    let found : find is_staged c.args.held.now.items ≡ Some c.in-Some.staged =
    sym (ap (find is_staged) c.as_slice-2.ensures.value) ∙ sym c.staged.ensures ∙ sym c.copied-staged.ensures ∙ c.in-Some.is in
    rw (c.insert.ensures.items, c.drop_staged.ensures)
    (promoted_some c.args.held.now.items c.in-Some.staged _ found (ap (λ n. n + 1) (rw c.as_slice.ensures.value (highest_is c.args.held.now.items _ c.requires.some))))

pub returns-in_default : goal.returns-in_default
returns-in_default c =
    let found : find is_staged c.args.held.now.items ≡ None =
    sym (ap (find is_staged) c.as_slice-2.ensures.value) ∙ sym c.staged.ensures ∙ sym c.copied-staged.ensures ∙ c.in_default.is in
    c.drop_staged.ensures ∙ promoted_none c.args.held.now.items found
