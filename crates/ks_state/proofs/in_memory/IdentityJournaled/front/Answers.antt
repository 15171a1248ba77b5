use Rattle.std.proofs.Common.{sym, ◌∙◌, arith}
use Rattle.ks_state.specs.StandingLaws.{high_is, made_so_far}
use Rattle.ks_state.proofs.in_memory.IdentityJournaled.front.Goals as goal

pub returns : goal.returns
returns c = λ f stands. (
  sym (c.front.ensures.changes ∙ made_so_far c.args.self.now f stands.stands),
  sym (c.front.ensures.moment ∙ high_is c.args.self.now f stands.stands),
  c.lawful_fronts_go_on.ensures.sound f stands.stands.lawful (omega (arith, stands.kept)),
)
