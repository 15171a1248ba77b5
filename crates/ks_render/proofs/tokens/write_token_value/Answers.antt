use Rattle.ks_render.specs.Tokens.{token_value}
use Rattle.ks_render.proofs.Steps.{object, ◌>>◌}
use Rattle.ks_render.proofs.tokens.write_token_value.Goals as goal

pub returns : goal.returns
unfolding token_value
returns c = object c.end_object.result c.in_ok-begin_object.ensures
    (c.in_ok-write_trust.ensures >> c.in_ok-write_audit_ids.ensures >> c.in_ok-write_scope_catalog.ensures >> c.in_ok-write_domain.ensures >> c.in_ok-write_time.ensures >> c.in_ok-write_is_domain.ensures >> c.in_ok-write_time-2.ensures >> c.in_ok-write_methods.ensures >> c.in_ok-write_project.ensures >> c.in_ok-write_roles.ensures >> c.in_ok-write_system.ensures >> c.in_ok-write_user.ensures)
    c.end_object.ensures
