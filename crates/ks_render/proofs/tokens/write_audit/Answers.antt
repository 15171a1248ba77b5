use Rattle.std.proofs.Common.{refl}
use Rattle.serde_json.specs.Data.{string}
use Rattle.ks_render.specs.Tokens.{audit_value}
use Rattle.ks_render.proofs.Steps.{scalar}
use Rattle.ks_render.proofs.tokens.write_audit.Goals as goal

pub returns : goal.returns
unfolding audit_value
returns c =
    let told = scalar (string c.as_str.result.now) c.string.result refl c.string.ensures in
    rw (c.as_str.ensures.value, c.in_ok-encode_string.ensures.ok, c.clear.ensures.bytes) at told
