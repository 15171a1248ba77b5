use Rattle.std.proofs.Common.{◌<◌, rules, subst, sym, ◌∙◌}
use Rattle.ks_turn.proofs.CallLemmas.{never_free}
use Rattle.ks_turn.proofs.StepLemmas.{tries}
use Rattle.ks_turn.proofs.turn.Turn.seize_within.Goals as goal

pub compare_exchange-requires : goal.compare_exchange-requires
compare_exchange-requires g c = (
  c.loop.invariant.0 ∙ c.requires.own ∙ sym c.self.view_is,
  search rules,
  tries _ _ _ _ _ _ (never_free c.args.taken c.requires.taken) (subst (λ m. 0 < m.0.weight) (sym c.loop.invariant.1) c.requires.can.0),
)
