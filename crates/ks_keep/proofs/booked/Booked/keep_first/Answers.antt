use Rattle.std.proofs.Common.{◌≡◌, ◌+◌, ◌<◌, ◌∷◌, drop, sym, subst, ap, ◌∙◌, rules}
use Rattle.ks_keep.specs.Books.{BookedState, seen_by}
use Rattle.ks_keep.specs.Keeping.{GoesOn}
use Rattle.ks_keep.proofs.BookLemmas.{first_is, goes_by_one, goes_pending}
use Rattle.ks_keep.proofs.booked.Booked.keep_first.Goals as goal

pub returns-in_err-keep-clause-on : goal.returns-in_err-keep-clause-on
returns-in_err-keep-clause-on g c =
    let old : BookedState g.row.K.Denot = record { shown = c.self.inside.identity; keeper = c.self.inside.keeper; pending = c.self.inside.pending.items; kept = c.self.inside.kept } in
    let some : 0 < c.self.inside.pending.len = search rules in
    let first = first_is c.self.inside.pending.items c.self.inside.pending.len c.in-Some.bytes.now c.as_slice.result.now c.self.inside.pending.ok.0 some
    c.in-Some.ensures.lookup c.as_slice.ensures in
    subst (λ b. GoesOn (seen_by g.K.Keeper.kept g.K.Keeper.whole g.K.Keeper.faults) b (record old { keeper = c.keep.new.self })) c.self.view_is
    (goes_pending (seen_by g.K.Keeper.kept g.K.Keeper.whole g.K.Keeper.faults) old c.as_slice.result.now (drop 1 c.self.inside.pending.items) c.keep.new.self first
    c.keep.ensures.faults.kept c.keep.ensures.since c.in_err-keep.ensures.err)

pub returns-clause-on : goal.returns-clause-on
returns-clause-on g c =
    let old : BookedState g.row.K.Denot = record { shown = c.self.inside.identity; keeper = c.self.inside.keeper; pending = c.self.inside.pending.items; kept = c.self.inside.kept } in
    let some : 0 < c.self.inside.pending.len = search rules in
    let first = first_is c.self.inside.pending.items c.self.inside.pending.len c.in-Some.bytes.now c.as_slice.result.now c.self.inside.pending.ok.0 some
    c.in-Some.ensures.lookup c.as_slice.ensures in
    let next = first ∙ ap (λ more. c.as_slice.result.now ∷ more) (sym c.pop_front-kept.ensures.rest) in
    let new : BookedState g.row.K.Denot = record old { keeper = c.keep.new.self; pending = c.pop_front-kept.new.self.items; kept = c.self.inside.kept + 1 } in
    subst (λ b. GoesOn (seen_by g.K.Keeper.kept g.K.Keeper.whole g.K.Keeper.faults) b new) c.self.view_is
    (goes_by_one (seen_by g.K.Keeper.kept g.K.Keeper.whole g.K.Keeper.faults) old c.as_slice.result.now c.pop_front-kept.new.self.items c.keep.new.self next
    c.keep.ensures.faults.kept c.keep.ensures.since c.in_ok-keep.ensures.ok)
