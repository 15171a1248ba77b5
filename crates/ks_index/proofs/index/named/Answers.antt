use Rattle.ks_index.proofs.NameLemmas.{looked, named_looked}
use Rattle.ks_index.proofs.index.named.Goals as goal

pub returns : goal.returns
returns g c = λ listed list.
    let rows = c.args.rows.now in
    let places = c.args.places.now.items in
    let slot = c.first_slot-slot.result in
    named_looked g.R.Named.within g.R.Named.naming g.R.Row.key c.args.home.now c.args.name.now rows listed places slot c.named_at.result c.requires list
    (record { before = λ j d. c.first_slot-slot.ensures.before j d; behind = λ d. c.first_slot-slot.ensures.behind d })
    (looked g.R.Named.within g.R.Named.naming c.args.home.now c.args.name.now rows places slot c.named_at.result c.named_at.ensures.some c.named_at.ensures.none)
