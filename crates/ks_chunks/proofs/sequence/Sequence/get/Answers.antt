use Rattle.std.proofs.Common.{◌≡◌, ◌/◌, ◌%◌, ◌<◌, ◌≤◌, length, get_or, sym, ap, ◌∙◌, arith, rules, option_copied}
use Rattle.std.specs.List.{slice_get}
use Rattle.ks_chunks.specs.Chunks.{Items}
use Rattle.ks_chunks.proofs.ChunkLemmas.{item_copied, item_is, items_none, items_some}
use Rattle.ks_chunks.proofs.sequence.Sequence.get.Goals as goal

pub returns-in_err-get : goal.returns-in_err-get
returns-in_err-get g c =
    let chunks = c.self.inside.chunks.items in
    let past : length chunks ≤ c.args.at / 1024 = search rules in
    ap option_copied c.from_residual.ensures
    ∙ sym (ap (λ (all : Items _). slice_get all.items c.args.at) (sym c.self.view_is)
    ∙ item_is 1024 chunks (c.args.at / 1024) (c.args.at % 1024) c.args.at c.self.invariant.0 (omega arith) (omega arith)
    ∙ ap (λ l. slice_get l (c.args.at % 1024)) (items_none chunks (c.args.at / 1024) past))

pub returns : goal.returns
returns g c =
    let chunks = c.self.inside.chunks.items in
    let chunk = c.in_ok-get.field-0.now in
    let within : c.args.at / 1024 < length chunks = search rules in
    let is : chunk ≡ get_or chunks (c.args.at / 1024) chunk = search rules in
    item_copied chunk.items (c.args.at % 1024) c.get-2.result c.get-2.ensures.item
    ∙ ap (λ l. slice_get l (c.args.at % 1024)) (sym (items_some chunks (c.args.at / 1024) chunk within is))
    ∙ sym (item_is 1024 chunks (c.args.at / 1024) (c.args.at % 1024) c.args.at c.self.invariant.0 (omega arith) (omega arith))
    ∙ ap (λ (all : Items _). slice_get all.items c.args.at) c.self.view_is
