use Rattle.ks_payload.proofs.FieldLemmas.{id_field_cases, id_field_is}
use Rattle.ks_payload.proofs.laws.id_fields.Goals as goal

pub returns : goal.returns
returns c = λ field id. (id_field_cases field id, id_field_is field id)
