use Rattle.std.proofs.Common.{◌++◌, ◌∙◌, ap, arith}
use Rattle.std.specs.Prelude.{string_bytes}
use Rattle.ks_commands.proofs.KeyFolderLemmas.{line_more, line_whole}
use Rattle.ks_commands.proofs.key_folder.keys_line.Goals as goal

pub indices-preserved : goal.indices-preserved
indices-preserved c =
    let bytes = c.in_ok-push_str.ensures.bytes ∙ ap (λ l. l ++ c.format.result.now) c.in_ok-push.ensures.bytes ∙ ap (λ l. (string_bytes c.indices.line ++ _) ++ l) c.format.ensures.text in
    rw bytes (line_more (string_bytes c.indices.line) _ c.args.indices.now c.indices.index-index c.indices-test.true (c.in_ok-push.ensures.ascii (omega arith)) c.indices.invariant)

pub returns : goal.returns
returns c =
    c.in_ok-push-2.ensures.bytes ∙ ap (λ l. string_bytes c.indices.line ++ l) (c.in_ok-push-2.ensures.ascii (omega arith))
    ∙ line_whole (string_bytes c.indices.line) c.args.indices.now c.indices.index-index (omega arith) c.indices.invariant
