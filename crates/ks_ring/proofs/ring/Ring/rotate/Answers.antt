use Rattle.std.proofs.Common.{◌≡◌, ◌∙◌, ap, sym, subst, refl, ◌-◌, ◌++◌, ◌∷◌, [], take}
use Rattle.ks_ring.specs.Rings.{IsRing, promoted, held_as, rotate_of}
use Rattle.ks_ring.proofs.RotationLemmas.{rotate_is_ring, rotated_from}
use Rattle.ks_ring.proofs.ring.Ring.rotate.Goals as goal

pub invariant_of-self : goal.invariant_of-self
invariant_of-self c =
    let held : c.push.new.self.items ≡ take (c.args.max - 1) (promoted c.self.inside.held.items) ++ held_as (0, c.args.new) c.self.inside.next ∷ [] =
    rw (c.push.ensures.items, c.truncate.ensures.items, c.promote.ensures) refl in
    subst IsRing
    (sym (rotated_from (record { held = c.self.inside.held.items; next = c.self.inside.next }) c.args.new c.args.max _ _ held refl))
    (rotate_is_ring (record { held = c.self.inside.held.items; next = c.self.inside.next }) c.args.new c.args.max c.requires.least c.requires.most c.self.invariant)

pub returns : goal.returns
returns c =
    let held : c.push.new.self.items ≡ take (c.args.max - 1) (promoted c.self.inside.held.items) ++ held_as (0, c.args.new) c.self.inside.next ∷ [] =
    rw (c.push.ensures.items, c.truncate.ensures.items, c.promote.ensures) refl in
    rotated_from (record { held = c.self.inside.held.items; next = c.self.inside.next }) c.args.new c.args.max _ _ held refl
    ∙ ap (λ ring. rotate_of ring c.args.new c.args.max) c.self.view_is
