use Rattle.std.proofs.Common.{refl}
use Rattle.serde_json.proofs.OnLiterals.{serde_json_on_literals}
use Rattle.ks_time.specs.Calendar.{civil_at, walk_months, walk_years}
use Rattle.ks_time.specs.TimeTexts.{time_text}
use Rattle.ks_render.specs.Credentials.{app_cred_made, app_cred_value}
use Rattle.ks_render.specs.Named.{link_value, self_value, titled_value}
use Rattle.ks_render.specs.Rows.{one_body, row_name}
use Rattle.ks_render.proofs.laws.app_cred_document.Goals as goal

pub returns : goal.returns
unfolding serde_json_on_literals civil_at walk_months walk_years time_text link_value self_value titled_value app_cred_made app_cred_value one_body row_name
returns c = record { made = refl; shown = refl }
