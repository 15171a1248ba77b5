use Rattle.std.proofs.Common.{◌≡◌, ◌+◌, Some, None, sym, ap, ◌∙◌, option_copied, arith}
use Rattle.std.specs.Str.{bytes_eq}
use Rattle.ks_index.proofs.NameLemmas.{first_like, is_unlike, is_like, looked, looked_like, next_looked, other_looked, other_none}
use Rattle.ks_index.proofs.index.other_named.Goals as goal

pub returns-in_err-holder : goal.returns-in_err-holder
returns-in_err-holder g c = λ listed list.
    let rows = c.args.rows.now in
    let places = c.args.places.now.items in
    let row = c.args.row.now in
    let h = c.home-home.result.now in
    let n = c.as_str-name.result.now in
    let slot = c.first_slot-slot.result in
    let naming = c.as_str-name.ensures ∙ c.name.ensures in
    let first = first_like g.R.Named.within g.R.Named.naming g.R.Row.key h n row rows places slot c.home-home.ensures naming
    (record { before = λ j d. c.first_slot-slot.ensures.before j d; behind = λ d. c.first_slot-slot.ensures.behind d }) in
    let look = looked_like g.R.Named.within g.R.Named.naming h n row rows places slot c.home-home.ensures naming None c.in_err-holder.ensures.none in
    ap option_copied c.from_residual.ensures ∙ sym (other_none g.R.Named.within g.R.Named.naming g.R.Row.key row rows listed places slot c.requires list first look)

pub returns-then-ne : goal.returns-then-ne
returns-then-ne g c = λ listed list.
    let rows = c.args.rows.now in
    let places = c.args.places.now.items in
    let row = c.args.row.now in
    let h = c.home-home.result.now in
    let n = c.as_str-name.result.now in
    let slot = c.first_slot-slot.result in
    let naming = c.as_str-name.ensures ∙ c.name.ensures in
    let first = first_like g.R.Named.within g.R.Named.naming g.R.Row.key h n row rows places slot c.home-home.ensures naming
    (record { before = λ j d. c.first_slot-slot.ensures.before j d; behind = λ d. c.first_slot-slot.ensures.behind d }) in
    let look = looked_like g.R.Named.within g.R.Named.naming h n row rows places slot c.home-home.ensures naming (Some c.in_ok-holder.holder) c.in_ok-holder.ensures.some in
    let ids : bytes_eq c.id.result.now c.id-2.result.now ≡ bytes_eq (g.R.Row.key c.in_ok-holder.holder.now) (g.R.Row.key row) = λ i. bytes_eq (c.id.ensures i) (c.id-2.ensures i) in
    sym (other_looked g.R.Named.within g.R.Named.naming g.R.Row.key row rows listed places slot c.in_ok-holder.holder c.requires list first look (sym ids ∙ is_unlike _ c.if-ne.ensures))

pub returns : goal.returns
returns g c = λ listed list.
    let rows = c.args.rows.now in
    let places = c.args.places.now.items in
    let row = c.args.row.now in
    let h = c.home-home.result.now in
    let n = c.as_str-name.result.now in
    let slot = c.first_slot-slot.result in
    let naming = c.as_str-name.ensures ∙ c.name.ensures in
    let first = first_like g.R.Named.within g.R.Named.naming g.R.Row.key h n row rows places slot c.home-home.ensures naming
    (record { before = λ j d. c.first_slot-slot.ensures.before j d; behind = λ d. c.first_slot-slot.ensures.behind d }) in
    let look = looked_like g.R.Named.within g.R.Named.naming h n row rows places slot c.home-home.ensures naming (Some c.in_ok-holder.holder) c.in_ok-holder.ensures.some in
    let ids : bytes_eq c.id.result.now c.id-2.result.now ≡ bytes_eq (g.R.Row.key c.in_ok-holder.holder.now) (g.R.Row.key row) = λ i. bytes_eq (c.id.ensures i) (c.id-2.ensures i) in
    let told = looked g.R.Named.within g.R.Named.naming h n rows places (slot + 1) c.named_at-2.result c.named_at-2.ensures.some c.named_at-2.ensures.none in
    let next = looked_like g.R.Named.within g.R.Named.naming h n row rows places (slot + 1) c.home-home.ensures naming c.named_at-2.result told in
    next_looked g.R.Named.within g.R.Named.naming g.R.Row.key row rows listed places slot c.in_ok-holder.holder c.named_at-2.result c.requires list first look (sym ids ∙ is_like _ c.if-ne.ensures) next

pub overflow_add-slot : goal.overflow_add-slot
overflow_add-slot g c =
    let there = c.in_ok-holder.ensures.some.0 in
    let fits = c.len-fits.ensures in
    omega (arith, there, fits)
