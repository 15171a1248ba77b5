use Rattle.std.proofs.Common.{refl}
use Rattle.base64.proofs.OnLiterals.{base64_on_literals}
use Rattle.serde_json.proofs.OnLiterals.{serde_json_on_literals}
use Rattle.ks_time.specs.Calendar.{civil_at, walk_months, walk_years}
use Rattle.ks_time.specs.TimeTexts.{time_text}
use Rattle.ks_render.specs.Named.{homed_value, titled_value}
use Rattle.ks_render.specs.Tokens.{audit_ids, audit_value, method_values, methods_value, token_body, token_value, user_told}
use Rattle.ks_render.proofs.laws.token_document.Goals as goal

pub returns : goal.returns
unfolding serde_json_on_literals base64_on_literals civil_at walk_months walk_years time_text homed_value titled_value audit_ids audit_value method_values methods_value token_body token_value user_told
returns c = record { text = refl; size = refl }
