use Rattle.ks_shape.proofs.Base32Lemmas.{bytes_are, bytes_from}
use Rattle.ks_shape.proofs.laws.secrets_are_of_base32_texts.Goals as goal

pub returns : goal.returns
returns c = λ text bytes. (λ e. bytes_from text bytes e, λ both. bytes_are text bytes both.0 both.1)
