use Rattle.ks_policy.specs.Openings.{plain}
use Rattle.ks_opening.proofs.OpeningLemmas.{tells_rows}
use Rattle.ks_opening.proofs.opened.check_opening.Goals as goal

pub returns : goal.returns
returns c =
    tells_rows c.in_ok-listed.listed (plain c.args.opening.now) c.check_rows.result c.in_ok-listed.ensures.rows c.in_ok-listed.ensures.tells c.in_ok-check_names.ensures
    c.check_rows.ensures
