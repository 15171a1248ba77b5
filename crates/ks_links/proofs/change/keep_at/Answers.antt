use Rattle.std.proofs.Common.{filter, ap, ◌∙◌}
use Rattle.ks_links.specs.RunSets.{put_back}
use Rattle.ks_links.proofs.SlotLemmas.{put_again, run_at}
use Rattle.ks_links.proofs.change.keep_at.Goals as goal

pub returns-clause-rows : goal.returns-clause-rows
returns-clause-rows g c =
    let sets = c.args.runs.now.items in
    let old = c.replace-rows.result in
    put_again sets c.replace-rows.new.self.items c.put_run.new.runs.items c.args.at c.new.result c.keep.new.self c.replace-rows.ensures.items c.put_run.ensures
    ∙ ap (put_back sets c.args.at) (c.keep.ensures ∙ ap (filter (g.T.Test.test c.args.test.now)) (run_at sets c.args.at old c.replace-rows.ensures.value c.requires))
