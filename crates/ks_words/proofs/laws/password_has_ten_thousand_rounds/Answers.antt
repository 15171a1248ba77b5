use Rattle.ks_words.proofs.PasswordLemmas.{password_word_gives}
use Rattle.ks_words.proofs.laws.password_has_ten_thousand_rounds.Goals as goal

pub returns : goal.returns
returns c = password_word_gives
