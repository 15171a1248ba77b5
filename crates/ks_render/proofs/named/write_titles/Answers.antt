use Rattle.ks_render.proofs.Steps.{all_tellable}
use Rattle.ks_render.proofs.named.write_titles.Goals as goal

pub write_list-requires : goal.write_list-requires
write_list-requires c = all_tellable c.args.titles.now
