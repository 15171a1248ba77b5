use Rattle.std.proofs.Common.{refl}
use Rattle.serde_json.proofs.OnLiterals.{serde_json_on_literals}
use Rattle.ks_render.specs.Versions.{media_types, self_links, version_body, version_told}
use Rattle.ks_render.proofs.laws.version_document.Goals as goal

pub returns : goal.returns
unfolding serde_json_on_literals version_body version_told self_links media_types
returns c = refl
