use Rattle.std.proofs.Common.{◌≡◌, ℕ, List, Ok, rules, ◌∙◌, subst}
use Rattle.ks_commands.specs.KeyFolders.{staged_from, keys_line}
use Rattle.ks_commands.specs.steps.KeyCalls.{Says}
use Rattle.ks_commands.proofs.KeyFolderLemmas.{Drawn, all_are, has_drawn, key_is, rotation_said, says_no_desk, says_no_folder}
use Rattle.ks_commands.proofs.key_folder.rotate.Goals as goal

pub returns-in-Ok-clause-told : goal.returns-in-Ok-clause-told
returns-in-Ok-clause-told g c = λ random before files drawn told written.
    let fills = c.in_ok-draw.ensures.told random drawn in
    let bytes : Drawn 32 random c.draw.new.into = record { long = search rules; enough = fills.0; are = fills.1 } in
    let new : c.key_from.result ≡ staged_from random = c.key_from.ensures ∙ all_are random _ bytes in
    let says = subst (λ (l : List ℕ). Says (keys_line l) before (g.K.Stream.stream c.say_indices.new.output).written c.say_indices.result) c.as_slice.ensures.value
    (c.say_indices.ensures.told before written) in
    rotation_said c.args.max random files before _ c.in-Ok.indices c.say_indices.result (has_drawn 32 random _ _ bytes fills.2)
    (key_is random c.args.max files _ (Ok c.in-Ok.indices) c.key_from.result new (c.in-Ok.ensures.told files told)) says

pub returns-in-Ok-clause-folder : goal.returns-in-Ok-clause-folder
returns-in-Ok-clause-folder g c = record {
  kept = c.rotate_dir.ensures.faults.kept;
  rose = λ e. absurd (says_no_folder c.say_indices.result c.say_indices.ensures.causes e);
}

pub returns-in-Ok-clause-draws : goal.returns-in-Ok-clause-draws
returns-in-Ok-clause-draws g c = record {
  kept = c.draw.ensures.faults.kept;
  rose = λ e. absurd (says_no_desk c.say_indices.result c.say_indices.ensures.causes e);
}
