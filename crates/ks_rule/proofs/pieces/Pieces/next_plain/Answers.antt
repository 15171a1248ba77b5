use Rattle.std.proofs.Common.{arith, not}
use Rattle.std.proofs.lemmas.List.Sums.{prefix_len-le-length}
use Rattle.ks_rule.specs.Filling.{is_percent}
use Rattle.ks_rule.proofs.FillingLemmas.{plain_front}
use Rattle.ks_rule.proofs.pieces.Pieces.next_plain.Goals as goal

pub split_at-requires : goal.split_at-requires
split_at-requires c = omega (arith, c.plain_len.ensures, prefix_len-le-length (λ b. not (is_percent b)) c.self.inside.rest.now)

pub returns : goal.returns
returns c = plain_front c.self.inside.rest.now c.args.self.now c.split_at.result.0.now c.split_at.result.1.now c.plain_len.result c.self.view_is c.requires c.plain_len.ensures c.split_at.ensures.front c.split_at.ensures.back
