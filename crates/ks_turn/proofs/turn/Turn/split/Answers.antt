use Rattle.std.proofs.Common.{◌≤◌, rules, sym, ap, ◌∙◌, subst}
use Rattle.ks_turn.specs.Passes.{Passed}
use Rattle.ks_turn.proofs.PassLemmas.{pass_is, seated}
use Rattle.ks_turn.proofs.StepLemmas.{splits}
use Rattle.ks_turn.proofs.turn.Turn.split.Goals as goal

pub split_seat-second-requires : goal.split_seat-second-requires
split_seat-second-requires g c =
    let seat = c.into_seat-seat.ensures in
    let rest = seated _ _ _ _ _ seat.2 c.pass.invariant in
    let is = pass_is _ _ _ _ _ _ c.pass.view_is seat.2 seat.0 in
    let weight = subst (λ (p : Passed). 2 ≤ p.weight) (sym is) c.requires.weight in
    (ap (λ (p : Passed). p.turn) is ∙ c.requires.own ∙ sym c.self.view_is, search rules, splits _ _ _ _ weight rest.rests)
