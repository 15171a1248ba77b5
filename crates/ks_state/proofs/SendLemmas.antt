-- An identity may go to another thread.
use denote.Param.Send.{IsSend, sendable}
use Rattle.std.proofs.Crossing.{crosses}
use Rattle.ks_rule.proofs.rule.Rule.TheLaws.TheKnot as knot
use Rattle.ks_state.specs.contracts.identity.Identity as identity
use Rattle.ks_state.proofs.log.Log.TheSendSync as log
use Rattle.ks_appcred.proofs.app_creds.AppCreds.TheSendSync as app_creds
use Rattle.ks_assign.proofs.grants.Grants.TheSendSync as grants
use Rattle.ks_catalog.proofs.catalog.Catalog.TheSendSync as catalog
use Rattle.ks_people.proofs.people.People.TheSendSync as people
use Rattle.ks_roles.proofs.roles.Roles.TheSendSync as roles
use Rattle.ks_totp.proofs.factors.Factors.TheSendSync as factors
use Rattle.ks_tree.proofs.tree.Tree.TheSendSync as tree
use Rattle.ks_trust.proofs.trusts.Trusts.TheSendSync as trusts
use Rattle.ks_ring.proofs.ring.Ring.TheSendSync as ring

pub identity_send : IsSend identity.the_row
identity_send = search (log.the_send, app_creds.the_send, factors.the_send, grants.the_send, catalog.the_send, people.the_send, roles.the_send, tree.the_send, trusts.the_send, ring.the_send, crosses, knot.crosses, sendable) depth 60 fits 20000
