use Rattle.std.proofs.Common.{[], refl}
use Rattle.ks_machine.specs.Opened.{rows_opened}
use Rattle.ks_policy.specs.Openings.{plain}
use Rattle.ks_opening.specs.Opened.{no_factors, rows_in}
use Rattle.ks_opening.proofs.OpeningLemmas.{apart_all}
use Rattle.ks_opening.proofs.filled.Filled.of.Goals as goal

pub parties_of-requires-clause-domains : goal.parties_of-requires-clause-domains
parties_of-requires-clause-domains c = (apart_all (plain c.args.opening) c.requires).domains

pub parties_of-requires-clause-projects : goal.parties_of-requires-clause-projects
parties_of-requires-clause-projects c = (apart_all (plain c.args.opening) c.requires).projects

pub parties_of-requires-clause-users : goal.parties_of-requires-clause-users
parties_of-requires-clause-users c = (apart_all (plain c.args.opening) c.requires).users

pub parties_of-requires-clause-groups : goal.parties_of-requires-clause-groups
parties_of-requires-clause-groups c = (apart_all (plain c.args.opening) c.requires).groups

pub rights_of-requires : goal.rights_of-requires
rights_of-requires c = (apart_all (plain c.args.opening) c.requires).roles

pub catalog_of-requires-clause-regions : goal.catalog_of-requires-clause-regions
catalog_of-requires-clause-regions c = (apart_all (plain c.args.opening) c.requires).regions

pub catalog_of-requires-clause-services : goal.catalog_of-requires-clause-services
catalog_of-requires-clause-services c = (apart_all (plain c.args.opening) c.requires).services

pub catalog_of-requires-clause-endpoints : goal.catalog_of-requires-clause-endpoints
catalog_of-requires-clause-endpoints c = (apart_all (plain c.args.opening) c.requires).endpoints

pub returns : goal.returns
unfolding rows_opened
returns c = record {
  settings = refl;
  rules = refl;
  keys = refl;
  rows = λ i. rows_in (c.in_ok-tree.ensures.tree i) (c.in_ok-tree.ensures.people i) (c.in_ok-roles.ensures.roles i) (c.in_ok-roles.ensures.grants i) [] (c.in_ok-catalog.ensures i) [] no_factors;
}
