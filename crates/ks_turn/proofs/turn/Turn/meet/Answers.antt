use Rattle.std.proofs.Common.{rules, sym, ap, ◌∙◌}
use Rattle.ks_turn.specs.Passes.{Passed}
use Rattle.ks_turn.proofs.PassLemmas.{pass_is, seated, meets}
use Rattle.ks_turn.proofs.StepLemmas.{joins}
use Rattle.ks_turn.proofs.turn.Turn.meet.Goals as goal

pub join_seat-requires : goal.join_seat-requires
join_seat-requires g c =
    let one = c.into_seat-seat.ensures in
    let other = c.into_seat.ensures in
    let first = seated _ _ _ _ _ one.2 c.first.invariant in
    let second = seated _ _ _ _ _ other.2 c.second.invariant in
    let is = pass_is _ _ _ _ _ _ c.first.view_is one.2 one.0 in
    let is' = pass_is _ _ _ _ _ _ c.second.view_is other.2 other.0 in (
      ap (λ (p : Passed). p.turn) is ∙ c.requires.own.0 ∙ sym c.self.view_is,
      ap (λ (p : Passed). p.turn) is' ∙ c.requires.own.1 ∙ sym c.self.view_is,
      other.3,
      search rules,
      joins _ _ _ _ _ _ first.weight first.told second.told first.rests second.rests,
    )

pub returns : goal.returns
returns g c =
    let one = c.into_seat-seat.ensures in
    let other = c.into_seat.ensures in
    let is = pass_is _ _ _ _ _ _ c.first.view_is one.2 one.0 in
    let is' = pass_is _ _ _ _ _ _ c.second.view_is other.2 other.0 in
    let joined = c.join_seat.ensures in
    let r = c.renew.ensures in
    meets _ _ _ _ _ _ _ c.into_seat-seat.result.me.0 c.into_seat.result.me.0 _ _ _ _ is is' joined.0 (ap (λ m. m.0) joined.2) r.2 r.3
