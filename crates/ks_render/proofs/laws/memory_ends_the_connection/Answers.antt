use Rattle.std.proofs.Common.{refl}
use Rattle.std.specs.Fmt.{digits}
use Rattle.serde_json.proofs.OnLiterals.{serde_json_on_literals}
use Rattle.ks_http.specs.Responses.{reason_of, content}
use Rattle.ks_render.specs.Errors.{error_body, message_of_cause}
use Rattle.ks_render.specs.Answers.{body_fields, close_fields}
use Rattle.ks_render.proofs.laws.memory_ends_the_connection.Goals as goal

pub returns : goal.returns
unfolding serde_json_on_literals digits reason_of content error_body message_of_cause body_fields close_fields
returns c = λ url. refl
