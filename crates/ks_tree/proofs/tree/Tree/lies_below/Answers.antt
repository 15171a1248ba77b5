use Rattle.std.proofs.Common.{◌≡◌, ◌∙◌, rules}
use Rattle.std.specs.List.{find}
use Rattle.std.specs.Option.{is_some}
use Rattle.ks_base.specs.Rows.{same}
use Rattle.ks_base.specs.Tree.{above}
use Rattle.ks_base.proofs.ListLemmas.{any_found}
use Rattle.ks_tree.proofs.tree.Tree.lies_below.Goals as goal

pub returns : goal.returns
returns c =
    let found : c.is_some.result ≡ is_some (find (λ ancestor. same ancestor.id c.args.id.now) (above c.args.self.now.projects c.args.row.now)) = search rules in
    found ∙ any_found (λ ancestor. same ancestor.id c.args.id.now) (above c.args.self.now.projects c.args.row.now)
