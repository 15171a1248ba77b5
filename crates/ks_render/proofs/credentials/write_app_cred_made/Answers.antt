use Rattle.ks_render.specs.Credentials.{app_cred_made}
use Rattle.ks_render.proofs.Steps.{entry, object}
use Rattle.ks_render.proofs.credentials.write_app_cred_made.Goals as goal

pub returns : goal.returns
unfolding app_cred_made
returns c = object c.end_object.result c.in_ok-begin_object.ensures
    (entry c.in_ok-key.ensures c.in_ok-write_app_cred.ensures)
    c.end_object.ensures
