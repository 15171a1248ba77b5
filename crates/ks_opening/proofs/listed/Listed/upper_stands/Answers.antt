use Rattle.std.proofs.Common.{◌∙◌}
use Rattle.ks_opening.proofs.ParentLemmas.{upper_is}
use Rattle.ks_opening.proofs.listed.Listed.upper_stands.Goals as goal

pub returns-in-Some : goal.returns-in-Some
returns-in-Some c =
    c.refuse_if.ensures
    ∙ upper_is c.args.self.now.regions c.args.at c.args.row.now c.in-Some.upper c.get_before.result c.is_none-absent.result c.in-Some.is
    c.get_before.ensures.found c.is_none-absent.ensures
