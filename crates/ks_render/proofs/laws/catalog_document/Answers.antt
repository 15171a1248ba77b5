use Rattle.std.proofs.Common.{refl}
use Rattle.serde_json.proofs.OnLiterals.{serde_json_on_literals}
use Rattle.ks_base.specs.Catalog.{interface_word}
use Rattle.ks_render.specs.Catalog.{endpoint_told, service_told}
use Rattle.ks_render.proofs.laws.catalog_document.Goals as goal

pub returns : goal.returns
unfolding serde_json_on_literals interface_word endpoint_told service_told
returns c = refl
