use Rattle.std.proofs.Common.{ap, arith}
use Rattle.ks_state.specs.Shown.{Shown}
use Rattle.ks_state.specs.StandingLaws.{high_is}
use Rattle.ks_state.proofs.identity.Identity.moment_of.Goals as goal

pub returns-clause-last : goal.returns-clause-last
returns-clause-last c =
    let stands = c.requires.1 in
    omega (arith, c.moment.ensures, c.high.ensures, ap (λ (v : Shown). v.state.high) c.self.view_is, high_is c.args.self.now c.requires.0 stands, stands.lawful.high)
