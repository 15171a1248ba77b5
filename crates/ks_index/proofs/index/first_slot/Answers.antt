use Rattle.std.proofs.Common.{◌≡◌, ◌≢◌, ℕ, ◌<◌, [], false, length, get_or, subst, Ok, Err}
use Rattle.std.specs.declared.cmp.Ordering.TheVariants.{Less}
use Rattle.ks_index.specs.Indexes.{full_cmp, full_name, is_named}
use Rattle.ks_index.proofs.IndexLemmas.{get_any}
use Rattle.ks_index.proofs.NameLemmas.{all_at, at_slot, before_slot, name_below}
use Rattle.ks_index.proofs.index.first_slot.Goals as goal

pub slot-requires : goal.slot-requires
slot-requires g c = c.requires.up c.get.result.now

pub returns-in-Ok-clause-before : goal.returns-in-Ok-clause-before
returns-in-Ok-clause-before g c = λ slot other less inside.
    let first = c.get.result.now in
    let key_at = λ (p : ℕ). full_name g.R.Named.within g.R.Named.naming g.R.Row.key (get_or c.args.rows.now p first) in
    let place = get_or c.args.places.now.items slot 0 in
    let any = get_any c.args.rows.now place first other (all_at (λ p. p < length c.args.rows.now) c.args.places.now.items slot 0 c.requires.within inside) in
    let below = before_slot full_cmp key_at ((c.args.name.now, c.args.home.now), []) c.args.places.now.items (Ok c.in-Ok.slot) slot 0 c.in-Ok.ensures.place less in
    let named = name_below g.R.Named.within g.R.Named.naming g.R.Row.key c.args.home.now c.args.name.now (get_or c.args.rows.now place first) below in
    subst (λ (row : _). is_named g.R.Named.within g.R.Named.naming c.args.home.now c.args.name.now row ≡ false) any named

pub returns-in-Ok-clause-behind : goal.returns-in-Ok-clause-behind
returns-in-Ok-clause-behind g c = λ other inside.
    let first = c.get.result.now in
    let key_at = λ (p : ℕ). full_name g.R.Named.within g.R.Named.naming g.R.Row.key (get_or c.args.rows.now p first) in
    let place = get_or c.args.places.now.items c.in-Ok.slot 0 in
    let any = get_any c.args.rows.now place first other (all_at (λ p. p < length c.args.rows.now) c.args.places.now.items c.in-Ok.slot 0 c.requires.within inside) in
    let there = at_slot full_cmp key_at ((c.args.name.now, c.args.home.now), []) c.args.places.now.items (Ok c.in-Ok.slot) 0 c.in-Ok.ensures.place inside in
    subst (λ (row : _). full_cmp (full_name g.R.Named.within g.R.Named.naming g.R.Row.key row) ((c.args.name.now, c.args.home.now), []) ≢ Less) any there

pub returns-in-Err-clause-before : goal.returns-in-Err-clause-before
returns-in-Err-clause-before g c = λ slot other less inside.
    let first = c.get.result.now in
    let key_at = λ (p : ℕ). full_name g.R.Named.within g.R.Named.naming g.R.Row.key (get_or c.args.rows.now p first) in
    let place = get_or c.args.places.now.items slot 0 in
    let any = get_any c.args.rows.now place first other (all_at (λ p. p < length c.args.rows.now) c.args.places.now.items slot 0 c.requires.within inside) in
    let below = before_slot full_cmp key_at ((c.args.name.now, c.args.home.now), []) c.args.places.now.items (Err c.in-Err.slot) slot 0 c.in-Err.ensures.place less in
    let named = name_below g.R.Named.within g.R.Named.naming g.R.Row.key c.args.home.now c.args.name.now (get_or c.args.rows.now place first) below in
    subst (λ (row : _). is_named g.R.Named.within g.R.Named.naming c.args.home.now c.args.name.now row ≡ false) any named

pub returns-in-Err-clause-behind : goal.returns-in-Err-clause-behind
returns-in-Err-clause-behind g c = λ other inside.
    let first = c.get.result.now in
    let key_at = λ (p : ℕ). full_name g.R.Named.within g.R.Named.naming g.R.Row.key (get_or c.args.rows.now p first) in
    let place = get_or c.args.places.now.items c.in-Err.slot 0 in
    let any = get_any c.args.rows.now place first other (all_at (λ p. p < length c.args.rows.now) c.args.places.now.items c.in-Err.slot 0 c.requires.within inside) in
    let there = at_slot full_cmp key_at ((c.args.name.now, c.args.home.now), []) c.args.places.now.items (Err c.in-Err.slot) 0 c.in-Err.ensures.place inside in
    subst (λ (row : _). full_cmp (full_name g.R.Named.within g.R.Named.naming g.R.Row.key row) ((c.args.name.now, c.args.home.now), []) ≢ Less) any there
