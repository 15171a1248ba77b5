use Rattle.std.proofs.Common.{◌≡◌, ap, ◌∙◌, filter}
use Rattle.ks_base.specs.Grants.{is_at_target}
use Rattle.ks_checks.proofs.ListedLemmas.{filter_passed}
use Rattle.ks_machine.specs.Assignments.{is_listed}
use Rattle.ks_relations.proofs.asked.listed_at.Goals as goal

pub returns : goal.returns
returns c =
    let passes = is_listed c.args.fields.now in
    c.keep_listed.ensures ∙ ap (filter passes) (c.in_ok-found.ensures ∙ c.at_target.ensures) ∙ filter_passed passes (is_at_target c.args.target.now) c.requires c.args.grants.now
