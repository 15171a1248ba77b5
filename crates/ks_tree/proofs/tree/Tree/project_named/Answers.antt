use Rattle.std.proofs.Common.{◌≡◌, find, option_copied, subst}
use Rattle.ks_base.specs.Trees.{TreeState, is_project_named}
use Rattle.ks_tree.proofs.tree.Tree.project_named.Goals as goal

pub returns : goal.returns
returns c =
    subst (λ (state : TreeState). option_copied c.named.result ≡ find (is_project_named c.args.domain.now c.args.name.now) state.projects) c.self.view_is
    (subst (λ (home : _). option_copied c.named.result ≡ find (is_project_named home c.args.name.now) c.self.inside.projects) c.as_slice.ensures.bytes c.named.ensures)
