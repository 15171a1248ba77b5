use Rattle.std.proofs.Common.{sym, subst, ◌∙◌, arith}
use Rattle.ks_machine.specs.Fronts.{Front}
use Rattle.ks_state.specs.StandingLaws.{high_is, made_so_far}
use Rattle.ks_keep.specs.Books.{BookedState, StandsSince, seen_by}
use Rattle.ks_keep.proofs.deciding.BookedJournaled.front.Goals as goal

pub returns : goal.returns
returns g c = λ f all.
    let inside : BookedState g.row.K.Denot = record { shown = c.self.inside.identity; keeper = c.self.inside.keeper; pending = c.self.inside.pending.items; kept = c.self.inside.kept } in
    let stands : StandsSince (seen_by g.K.Keeper.kept g.K.Keeper.whole g.K.Keeper.faults) g.N.Since.holds inside f = subst (λ (b : BookedState g.row.K.Denot). StandsSince (seen_by g.K.Keeper.kept g.K.Keeper.whole g.K.Keeper.faults) g.N.Since.holds b f) (sym c.self.view_is) all in (
      sym (c.front.ensures.changes ∙ made_so_far c.self.inside.identity f stands.stands.stands),
      sym (c.front.ensures.moment ∙ high_is c.self.inside.identity f stands.stands.stands),
      c.lawful_fronts_go_on.ensures.sound f stands.stands.stands.lawful (omega (arith, stands.stands.kept, stands.stands.most)),
    )
