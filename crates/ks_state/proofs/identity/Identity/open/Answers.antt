use Rattle.std.proofs.Common.{subst, sym}
use Rattle.ks_machine.specs.Fronts.{first_front}
use Rattle.ks_policy.specs.Openings.{plain}
use Rattle.ks_opening.specs.Opened.{state_of}
use Rattle.ks_state.specs.Shown.{Shown}
use Rattle.ks_state.specs.Standing.{Stands}
use Rattle.ks_state.proofs.OpenLemmas.{settings_are, stands_first}
use Rattle.ks_state.proofs.identity.Identity.open.Goals as goal

pub new-requires : goal.new-requires
new-requires c = settings_are c.in_ok-opened.opened (plain c.args.opening) c.requires.range c.in_ok-opened.ensures.state

pub returns-clause-stands : goal.returns-clause-stands
returns-clause-stands c =
    subst (λ (shown : Shown). Stands shown (first_front (plain c.args.opening))) (sym c.new.ensures)
    (stands_first (state_of c.in_ok-opened.opened) (plain c.args.opening) c.requires.range c.in_ok-opened.ensures.state c.in_ok-opened.ensures.fault)
