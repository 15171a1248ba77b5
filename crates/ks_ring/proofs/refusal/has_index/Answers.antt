use Rattle.std.proofs.Common.{◌≡◌, true, rules}
use Rattle.ks_ring.proofs.SortLemmas.{HasIndex, has_is}
use Rattle.ks_ring.proofs.refusal.has_index.Goals as goal

pub returns : goal.returns
returns c =
    let to : c.any.result ≡ true → HasIndex c.args.index c.args.keys.now = search rules in
    let from : HasIndex c.args.index c.args.keys.now → c.any.result ≡ true = search rules in
    has_is c.any.result c.args.index c.args.keys.now to from
