use Rattle.std.proofs.Common.{◌≡◌, refl, sym, ap, subst, ◌∙◌, filter, IfOk}
use Rattle.ks_base.specs.Grants.{is_of_actor}
use Rattle.ks_checks.proofs.ListedLemmas.{filter_passed}
use Rattle.ks_machine.specs.Assignments.{is_listed}
use Rattle.ks_relations.proofs.asked.listed_of.Goals as goal

pub returns-in-Some : goal.returns-in-Some
returns-in-Some c =
    let passes = is_listed c.args.fields.now in
    subst (λ rows. IfOk c.passing.result (λ found. found.items ≡ rows))
    (ap (filter passes) c.in-Some.ensures.rows ∙ filter_passed passes (is_of_actor c.args.actor.now) c.requires c.args.grants.now) c.passing.ensures

pub returns-in-None : goal.returns-in-None
returns-in-None c =
    let passes = is_listed c.args.fields.now in
    c.new.ensures.items ∙ sym (ap (filter passes) (c.in-None.ensures.none.0 refl)) ∙ filter_passed passes (is_of_actor c.args.actor.now) c.requires c.args.grants.now
