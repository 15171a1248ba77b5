use Rattle.std.proofs.Common.{arith}
use Rattle.ks_logins.proofs.login.payload_of.Goals as goal

pub returns-clause-range : goal.returns-clause-range
returns-clause-range c = record {
  kind = omega arith;
  some_method = c.requires.shown.0;
  methods = c.requires.shown.1;
  user = c.is_id.ensures;
  has_domain_id = c.requires.domain;
  domain = c.is_id_if_any.ensures;
  has_project_id = c.requires.project;
  project = c.is_id_if_any-2.ensures;
  has_trust_id = c.requires.trust;
  trust = c.is_id_if_any-3.ensures;
  expires = c.requires.shown.2;
  audit = c.is_sixteen.ensures;
  chain = c.is_sixteen_if_any.ensures;
  has_credential_id = c.requires.credential;
  credential = c.is_id_if_any-4.ensures;
}
