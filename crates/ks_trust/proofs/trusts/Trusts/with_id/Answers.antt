use Rattle.std.proofs.Common.{List, [], ◌∷◌, ◌++◌, sym, ap, ◌∙◌}
use Rattle.ks_base.specs.Rows.{Id}
use Rattle.ks_trust.proofs.FoundTrusts.{none_with, one_with}
use Rattle.ks_trust.proofs.trusts.Trusts.with_id.Goals as goal

pub returns-in_default : goal.returns-in_default
returns-in_default c = c.new-ids.ensures.items ∙ none_with c.args.id.now c.args.self.now c.trust.ensures.ascending (sym c.in_default.ensures.found)

pub returns : goal.returns
returns c =
    c.in_ok-push.ensures.items ∙ ap (λ (ids : List Id). ids ++ c.in-Some.trust.now.id ∷ []) c.new-ids.ensures.items
    ∙ one_with c.args.id.now c.in-Some.trust.now c.args.self.now c.trust.ensures.ascending (sym c.in-Some.ensures.found)
