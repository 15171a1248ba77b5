use Rattle.std.proofs.Common.{◌≡◌, true, Ok, Err, refl, sym, subst, ◌∙◌}
use Rattle.std.specs.Prelude.{◌&&◌, not, is_some, codes}
use Rattle.ks_base.specs.declared.shapes.ShapeFault.{ShapeFault}
use Rattle.ks_base.specs.declared.shapes.ShapeFault.TheVariants as fault
use Rattle.ks_base.specs.Results.{need, ◌>>=◌}
use Rattle.ks_shape.specs.declared.trust.Limits.{Limits}
use Rattle.ks_shape.specs.Places.{names, path_at, place_of}
use Rattle.ks_shape.specs.Readings.{Reads}
use Rattle.ks_shape.specs.Trusts.{limits_of}
use Rattle.ks_shape.proofs.RefusalLemmas.{refused}
use Rattle.ks_shape.proofs.trust.read_limits.Goals as goal

-- where the uses are counted and the trust is to be passed on, it is refused
counted : (limits : Limits) (why : ShapeFault) → is_some limits.remaining ≡ true → limits.redelegate ≡ true →
    (need (not (is_some limits.remaining && limits.redelegate)) why >>= (λ _. Ok limits)) ≡ Err why
counted limits why uses passes = rw (uses, passes) refl

pub returns-then-limits : goal.returns-then-limits
unfolding limits_of
returns-then-limits c =
    let why : ShapeFault = fault.Range (path_at (names (codes "trust.remaining_uses")) (place_of c.args.body.now)) in
    let said = counted c.in_ok-limits.limits why (sym c.is_some.ensures ∙ c.if-is_some.true) c.if-limits.true in
    rw c.in_ok-limits.ensures (subst (Reads {A = Limits} c.refuse.result) (sym said) (refused c.refuse.result why c.refuse.ensures))
