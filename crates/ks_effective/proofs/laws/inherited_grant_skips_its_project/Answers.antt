use Rattle.ks_effective.proofs.TopLemmas.{skips}
use Rattle.ks_effective.proofs.laws.inherited_grant_skips_its_project.Goals as goal

pub returns : goal.returns
returns c = skips
