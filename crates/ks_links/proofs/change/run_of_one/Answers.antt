use Rattle.std.proofs.Common.{ap, ◌∙◌}
use Rattle.ks_base.specs.Tables.{put_row}
use Rattle.ks_links.proofs.change.run_of_one.Goals as goal

pub returns : goal.returns
unfolding put_row
returns g c = c.in_ok-_new.ensures.ok.0 ∙ ap (put_row g.R.Ordered.cmp (λ next. next) c.args.row) c.new-rows.ensures
