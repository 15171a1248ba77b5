use Rattle.std.proofs.Common.{refl}
use Rattle.serde_json.proofs.OnLiterals.{serde_json_on_literals}
use Rattle.ks_totp.specs.Base32.{base32_of, bit_of, five_from, letter_of}
use Rattle.ks_render.specs.Credentials.{secret_value}
use Rattle.ks_render.specs.Named.{link_value, self_value}
use Rattle.ks_render.specs.Rows.{one_body, row_name}
use Rattle.ks_render.proofs.laws.secret_document.Goals as goal

pub returns : goal.returns
unfolding serde_json_on_literals base32_of bit_of five_from letter_of link_value self_value secret_value one_body row_name
returns c = refl
