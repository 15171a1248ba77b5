use Rattle.std.proofs.Common.{rules}
use Rattle.std.specs.Str.{bytes_eq}
use Rattle.std.proofs.lemmas.Fn.{filter_same}
use Rattle.ks_auth.proofs.facts.keep_about.Goals as goal

pub returns : goal.returns
returns c =
    filter_same _ (λ fact. bytes_eq fact.text c.args.text.now) _ (λ x b f called. (search rules, search rules)) _ _ c.retain.ensures.filtered
