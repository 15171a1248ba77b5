use Rattle.std.proofs.Common.{◌≡◌, Ok, Err, rules, ◌∙◌}
use Rattle.ks_commands.specs.KeyFolders.{primary_from, staged_from}
use Rattle.ks_commands.proofs.KeyFolderLemmas.{Drawn, first_are, has_drawn, keys_are, others_are, setup_refused, setup_said}
use Rattle.ks_commands.proofs.key_folder.set_up.Goals as goal

pub returns-in-Ok-clause-told : goal.returns-in-Ok-clause-told
returns-in-Ok-clause-told g c = λ random before files drawn told written.
    let fills = c.in_ok-draw.ensures.told random drawn in
    let bytes : Drawn 64 random c.draw.new.into = record { long = search rules; enough = fills.0; are = fills.1 } in
    let staged : c.key_from.result ≡ staged_from random = c.key_from.ensures ∙ first_are random _ _ bytes c.split_at.ensures.front in
    let primary : c.key_from-2.result ≡ primary_from random = c.key_from-2.ensures ∙ others_are random _ _ bytes c.split_at.ensures.back in
    setup_said random files before _ c.say.result (has_drawn 64 random _ _ bytes fills.2)
    (keys_are random files _ (Ok tt) c.key_from.result c.key_from-2.result staged primary (c.in-Ok.ensures.told files told)) (c.say.ensures.told before written)

pub returns-in-Err-clause-told : goal.returns-in-Err-clause-told
returns-in-Err-clause-told g c = λ random before files drawn told written.
    let fills = c.in_ok-draw.ensures.told random drawn in
    let bytes : Drawn 64 random c.draw.new.into = record { long = search rules; enough = fills.0; are = fills.1 } in
    let staged : c.key_from.result ≡ staged_from random = c.key_from.ensures ∙ first_are random _ _ bytes c.split_at.ensures.front in
    let primary : c.key_from-2.result ≡ primary_from random = c.key_from-2.ensures ∙ others_are random _ _ bytes c.split_at.ensures.back in
    rw c.of_keys.ensures (setup_refused random files before _ c.in-Err.fault (has_drawn 64 random _ _ bytes fills.2)
    (keys_are random files _ (Err c.in-Err.fault) c.key_from.result c.key_from-2.result staged primary (c.in-Err.ensures.told files told)) written)
