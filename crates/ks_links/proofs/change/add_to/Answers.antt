use Rattle.ks_links.proofs.SlotLemmas.{put_err, put_ok, put_stands, run_at, set_again}
use Rattle.ks_links.proofs.change.add_to.Goals as goal

pub returns-clause-ok : goal.returns-clause-ok
returns-clause-ok g c =
    let sets = c.args.runs.now.items in
    let old = c.replace-rows.result in
    let new = c.add-outcome.new.self in
    put_ok g.R.Ordered.cmp c.args.row sets c.set.new.self.items c.args.at old new (run_at sets c.args.at old c.replace-rows.ensures.value c.requires)
    (set_again sets c.replace-rows.new.self.items c.set.new.self.items c.args.at c.new.result new c.replace-rows.ensures.items c.set.ensures) c.add-outcome.result c.add-outcome.ensures.ok

pub returns-clause-err : goal.returns-clause-err
returns-clause-err g c =
    let sets = c.args.runs.now.items in
    let old = c.replace-rows.result in
    let new = c.add-outcome.new.self in
    put_err g.R.Ordered.cmp c.args.row sets c.set.new.self.items c.args.at old new (run_at sets c.args.at old c.replace-rows.ensures.value c.requires)
    (set_again sets c.replace-rows.new.self.items c.set.new.self.items c.args.at c.new.result new c.replace-rows.ensures.items c.set.ensures) c.add-outcome.result c.add-outcome.ensures.err

pub returns-clause-stands : goal.returns-clause-stands
returns-clause-stands g c =
    let sets = c.args.runs.now.items in
    let old = c.replace-rows.result in
    let new = c.add-outcome.new.self in
    put_stands g.R.Ordered.cmp c.args.row sets c.set.new.self.items c.args.at old new (run_at sets c.args.at old c.replace-rows.ensures.value c.requires)
    (set_again sets c.replace-rows.new.self.items c.set.new.self.items c.args.at c.new.result new c.replace-rows.ensures.items c.set.ensures) c.add-outcome.result c.add-outcome.ensures.stands
