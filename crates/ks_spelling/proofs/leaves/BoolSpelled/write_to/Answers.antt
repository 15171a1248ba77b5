use Rattle.std.proofs.Common.{Bool, sym, subst}
use Rattle.std.specs.Prelude.{OnOk}
use Rattle.ks_spelling.specs.Codes.{Writes}
use Rattle.ks_spelling.specs.Variants.{truth}
use Rattle.ks_spelling.proofs.leaves.BoolSpelled.write_to.Goals as goal

pub returns-then-self : goal.returns-then-self
unfolding truth
returns-then-self c =
    subst (λ (b : Bool). OnOk c.write_place.result (Writes truth b c.args.into.now.items c.write_place.new.into.items)) (sym c.if-self.true) c.write_place.ensures

pub returns-else-self : goal.returns-else-self
unfolding truth
returns-else-self c =
    subst (λ (b : Bool). OnOk c.write_place-else-self.result (Writes truth b c.args.into.now.items c.write_place-else-self.new.into.items)) (sym c.if-self.false) c.write_place-else-self.ensures
