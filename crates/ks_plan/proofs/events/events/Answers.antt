use Rattle.std.proofs.Common.{refl}
use Rattle.ks_machine.specs.Listings.{events}
use Rattle.ks_plan.proofs.LiveEvents.{live_told}
use Rattle.ks_plan.proofs.events.events.Goals as goal

pub returns : goal.returns
unfolding events
returns c S tells =
    rw
    (c.tells.ensures, c.in_ok-list.ensures, c.as_slice.ensures, c.in_ok-kept.ensures.events, c.in_ok-path.ensures, live_told c.args.tables.now S c.args.moment tells c.requires.moment c.requires.life)
    refl
