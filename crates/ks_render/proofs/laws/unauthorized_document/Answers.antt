use Rattle.std.proofs.Common.{refl}
use Rattle.std.specs.Fmt.{digits}
use Rattle.serde_json.proofs.OnLiterals.{serde_json_on_literals}
use Rattle.ks_http.specs.Responses.{reason_of}
use Rattle.ks_render.specs.Errors.{error_body, message_of_cause}
use Rattle.ks_render.proofs.laws.unauthorized_document.Goals as goal

pub returns : goal.returns
unfolding serde_json_on_literals digits reason_of error_body message_of_cause
returns c = record { text = refl; size = refl }
