use Rattle.std.proofs.Common.{ℕ, List, [], ◌∷◌, ◌++◌, Some, None, sym, subst, ap, ◌∙◌}
use Rattle.ks_keep.specs.Books.{BookedState, StandsSince, seen_by}
use Rattle.ks_keep.specs.Keeping.{IsLacking}
use Rattle.ks_keep.proofs.DecideLemmas.{AreCounted, answered, asked_same, counted, replied_counted, stands_with_all, with_all_kept}
use Rattle.ks_keep.proofs.deciding.BookedDecides.decide.Goals as goal

pub decide-requires-clause-stands : goal.decide-requires-clause-stands
decide-requires-clause-stands g c =
    let inside : BookedState g.row.K.Denot = record { shown = c.self.inside.identity; keeper = c.self.inside.keeper; pending = c.self.inside.pending.items; kept = c.self.inside.kept } in
    let f = c.requires.stands.0 in
    let stands = subst (λ (b : BookedState g.row.K.Denot). StandsSince (seen_by g.K.Keeper.kept g.K.Keeper.whole g.K.Keeper.faults) g.N.Since.holds b f) (sym c.self.view_is) c.requires.stands.1 in
    (with_all_kept inside f, stands_with_all (seen_by g.K.Keeper.kept g.K.Keeper.whole g.K.Keeper.faults) g.N.Since.holds inside f stands)

pub invariant_of-self-in-Done-Some : goal.invariant_of-self-in-Done-Some
invariant_of-self-in-Done-Some g c =
    let inside : BookedState g.row.K.Denot = record { shown = c.self.inside.identity; keeper = c.self.inside.keeper; pending = c.self.inside.pending.items; kept = c.self.inside.kept } in
    let f = c.requires.stands.0 in
    let stands = subst (λ (b : BookedState g.row.K.Denot). StandsSince (seen_by g.K.Keeper.kept g.K.Keeper.whole g.K.Keeper.faults) g.N.Since.holds b f) (sym c.self.view_is) c.requires.stands.1 in
    let lacks = subst (λ (b : BookedState g.row.K.Denot). IsLacking b c.in-Ok.lacking) (sym c.self.view_is) c.in-Ok.ensures.lacking in
    replied_counted (seen_by g.K.Keeper.kept g.K.Keeper.whole g.K.Keeper.faults) g.N.Since.holds f c.args.call.now c.in-Done-Some.reply (record inside { shown = c.decide.new.self; pending = c.push_back_reserved.new.self.items })
    (answered (seen_by g.K.Keeper.kept g.K.Keeper.whole g.K.Keeper.faults) g.N.Since.holds f c.args.call.now c.in-Done-Some.reply inside c.in-Ok.lacking (Some c.in-Done-Some.bytes) c.decide.new.self c.push_back_reserved.new.self.items c.in-Done-Some.is-1
    (c.push_back_reserved.ensures.items ∙ ap (λ (items : List (List ℕ)). items ++ c.in-Done-Some.bytes ∷ []) c.reserve.ensures.items) lacks stands (c.in-Done-Some.ensures.decided (with_all_kept inside f) (stands_with_all (seen_by g.K.Keeper.kept g.K.Keeper.whole g.K.Keeper.faults) g.N.Since.holds inside f stands)))

pub invariant_of-self-in-Done-None : goal.invariant_of-self-in-Done-None
invariant_of-self-in-Done-None g c =
    let inside : BookedState g.row.K.Denot = record { shown = c.self.inside.identity; keeper = c.self.inside.keeper; pending = c.self.inside.pending.items; kept = c.self.inside.kept } in
    let f = c.requires.stands.0 in
    let stands = subst (λ (b : BookedState g.row.K.Denot). StandsSince (seen_by g.K.Keeper.kept g.K.Keeper.whole g.K.Keeper.faults) g.N.Since.holds b f) (sym c.self.view_is) c.requires.stands.1 in
    let lacks = subst (λ (b : BookedState g.row.K.Denot). IsLacking b c.in-Ok.lacking) (sym c.self.view_is) c.in-Ok.ensures.lacking in
    replied_counted (seen_by g.K.Keeper.kept g.K.Keeper.whole g.K.Keeper.faults) g.N.Since.holds f c.args.call.now c.in-Done-None.reply (record inside { shown = c.decide.new.self; pending = c.reserve.new.self.items })
    (answered (seen_by g.K.Keeper.kept g.K.Keeper.whole g.K.Keeper.faults) g.N.Since.holds f c.args.call.now c.in-Done-None.reply inside c.in-Ok.lacking None c.decide.new.self c.reserve.new.self.items c.in-Done-None.is-1
    c.reserve.ensures.items lacks stands (c.in-Done-None.ensures.decided (with_all_kept inside f) (stands_with_all (seen_by g.K.Keeper.kept g.K.Keeper.whole g.K.Keeper.faults) g.N.Since.holds inside f stands)))

pub invariant_of-self-in-Needs-default : goal.invariant_of-self-in-Needs-default
invariant_of-self-in-Needs-default g c =
    let inside : BookedState g.row.K.Denot = record { shown = c.self.inside.identity; keeper = c.self.inside.keeper; pending = c.self.inside.pending.items; kept = c.self.inside.kept } in
    let f = c.requires.stands.0 in
    let stands = subst (λ (b : BookedState g.row.K.Denot). StandsSince (seen_by g.K.Keeper.kept g.K.Keeper.whole g.K.Keeper.faults) g.N.Since.holds b f) (sym c.self.view_is) c.requires.stands.1 in
    let same = asked_same (seen_by g.K.Keeper.kept g.K.Keeper.whole g.K.Keeper.faults) g.N.Since.holds c.args.facts.now f c.args.call.now c.in-Needs-default.needs inside c.decide.new.self c.reserve.new.self.items c.reserve.ensures.items
    (c.in-Needs-default.ensures.decided (with_all_kept inside f) (stands_with_all (seen_by g.K.Keeper.kept g.K.Keeper.whole g.K.Keeper.faults) g.N.Since.holds inside f stands)) in
    subst (λ (b : BookedState g.row.K.Denot). AreCounted b) (sym same.1) (counted (seen_by g.K.Keeper.kept g.K.Keeper.whole g.K.Keeper.faults) g.N.Since.holds inside f stands)

pub returns-in-Done-Some-clause-decided : goal.returns-in-Done-Some-clause-decided
returns-in-Done-Some-clause-decided g c = λ f all.
    let inside : BookedState g.row.K.Denot = record { shown = c.self.inside.identity; keeper = c.self.inside.keeper; pending = c.self.inside.pending.items; kept = c.self.inside.kept } in
    let stands = subst (λ (b : BookedState g.row.K.Denot). StandsSince (seen_by g.K.Keeper.kept g.K.Keeper.whole g.K.Keeper.faults) g.N.Since.holds b f) (sym c.self.view_is) all in
    let lacks = subst (λ (b : BookedState g.row.K.Denot). IsLacking b c.in-Ok.lacking) (sym c.self.view_is) c.in-Ok.ensures.lacking in
    answered (seen_by g.K.Keeper.kept g.K.Keeper.whole g.K.Keeper.faults) g.N.Since.holds f c.args.call.now c.in-Done-Some.reply inside c.in-Ok.lacking (Some c.in-Done-Some.bytes) c.decide.new.self c.push_back_reserved.new.self.items c.in-Done-Some.is-1
    (c.push_back_reserved.ensures.items ∙ ap (λ (items : List (List ℕ)). items ++ c.in-Done-Some.bytes ∷ []) c.reserve.ensures.items) lacks stands (c.in-Done-Some.ensures.decided (with_all_kept inside f) (stands_with_all (seen_by g.K.Keeper.kept g.K.Keeper.whole g.K.Keeper.faults) g.N.Since.holds inside f stands))

pub returns-in-Done-None-clause-decided : goal.returns-in-Done-None-clause-decided
returns-in-Done-None-clause-decided g c = λ f all.
    let inside : BookedState g.row.K.Denot = record { shown = c.self.inside.identity; keeper = c.self.inside.keeper; pending = c.self.inside.pending.items; kept = c.self.inside.kept } in
    let stands = subst (λ (b : BookedState g.row.K.Denot). StandsSince (seen_by g.K.Keeper.kept g.K.Keeper.whole g.K.Keeper.faults) g.N.Since.holds b f) (sym c.self.view_is) all in
    let lacks = subst (λ (b : BookedState g.row.K.Denot). IsLacking b c.in-Ok.lacking) (sym c.self.view_is) c.in-Ok.ensures.lacking in
    answered (seen_by g.K.Keeper.kept g.K.Keeper.whole g.K.Keeper.faults) g.N.Since.holds f c.args.call.now c.in-Done-None.reply inside c.in-Ok.lacking None c.decide.new.self c.reserve.new.self.items c.in-Done-None.is-1
    c.reserve.ensures.items lacks stands (c.in-Done-None.ensures.decided (with_all_kept inside f) (stands_with_all (seen_by g.K.Keeper.kept g.K.Keeper.whole g.K.Keeper.faults) g.N.Since.holds inside f stands))

pub returns-in-Needs-default-clause-decided : goal.returns-in-Needs-default-clause-decided
returns-in-Needs-default-clause-decided g c = λ f all.
    let inside : BookedState g.row.K.Denot = record { shown = c.self.inside.identity; keeper = c.self.inside.keeper; pending = c.self.inside.pending.items; kept = c.self.inside.kept } in
    let stands = subst (λ (b : BookedState g.row.K.Denot). StandsSince (seen_by g.K.Keeper.kept g.K.Keeper.whole g.K.Keeper.faults) g.N.Since.holds b f) (sym c.self.view_is) all in
    let same = asked_same (seen_by g.K.Keeper.kept g.K.Keeper.whole g.K.Keeper.faults) g.N.Since.holds c.args.facts.now f c.args.call.now c.in-Needs-default.needs inside c.decide.new.self c.reserve.new.self.items c.reserve.ensures.items
    (c.in-Needs-default.ensures.decided (with_all_kept inside f) (stands_with_all (seen_by g.K.Keeper.kept g.K.Keeper.whole g.K.Keeper.faults) g.N.Since.holds inside f stands)) in
    (same.0, same.1 ∙ c.self.view_is)
