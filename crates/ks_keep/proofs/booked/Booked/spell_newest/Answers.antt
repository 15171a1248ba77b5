use Rattle.std.proofs.Common.{Some, sym, subst}
use Rattle.ks_keep.specs.Books.{BookedState, seen_by}
use Rattle.ks_keep.specs.Keeping.{GoesOn, IsLacking}
use Rattle.ks_keep.proofs.BookLemmas.{goes_spelled}
use Rattle.ks_keep.proofs.booked.Booked.spell_newest.Goals as goal

pub returns-in_ok-push_back-clause-on : goal.returns-in_ok-push_back-clause-on
returns-in_ok-push_back-clause-on g c =
    let old : BookedState g.row.K.Denot = record { shown = c.self.inside.identity; keeper = c.self.inside.keeper; pending = c.self.inside.pending.items; kept = c.self.inside.kept } in
    let lacking : IsLacking c.args.self.now (Some c.in-Some.bytes) = subst (λ bytes. IsLacking c.args.self.now bytes) c.in-Some.is c.in_ok-bytes.ensures.lacking in
    let new = goes_spelled (seen_by g.K.Keeper.kept g.K.Keeper.whole g.K.Keeper.faults) old c.in-Some.bytes (subst (λ b. IsLacking b (Some c.in-Some.bytes)) (sym c.self.view_is) lacking) in
    subst (λ b. GoesOn (seen_by g.K.Keeper.kept g.K.Keeper.whole g.K.Keeper.faults) b (record old { pending = c.push_back.new.self.items })) c.self.view_is
    (subst (λ pending. GoesOn (seen_by g.K.Keeper.kept g.K.Keeper.whole g.K.Keeper.faults) old (record old { pending = pending })) (sym c.in_ok-push_back.ensures.items) new)
