use Rattle.std.proofs.Common.{List, filter, map, ap, ◌∙◌}
use Rattle.ks_base.specs.declared.trusts.TrustRow.{TrustRow}
use Rattle.ks_trust.specs.declared.sides.TrustSide.{TrustSide}
use Rattle.ks_trust.specs.Sides.{names}
use Rattle.ks_trust.specs.State.{ids_of}
use Rattle.ks_trust.proofs.FoundTrusts.{ids_along}
use Rattle.ks_trust.proofs.trusts.Trusts.along.Goals as goal

pub returns : goal.returns
returns c =
    c.in_ok-trusts_of.ensures ∙ ap (map (λ (side : TrustSide). side.trust)) c.of.ensures.rows
    ∙ ids_along c.args.what.now c.self.inside.rows.items c.self.inside.sides c.self.invariant.0 c.rows-ascending.ensures.ascending c.self.invariant.2
    ∙ ap (λ (trusts : List TrustRow). ids_of (filter (names c.args.what.now) trusts)) c.self.view_is
