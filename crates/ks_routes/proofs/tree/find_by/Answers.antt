use Rattle.std.proofs.Common.{◌≡◌, true, length, refl, sym, ap, ◌∙◌, rules}
use Rattle.std.specs.Prelude.{map, option_map}
use Rattle.std.proofs.lemmas.Option.{slice_get-map, slice_get_read}
use Rattle.ks_routes.specs.Patterns.{fits, segments}
use Rattle.ks_routes.specs.Tables.{row_of}
use Rattle.ks_routes.proofs.ApartLemmas.{found_at}
use Rattle.ks_routes.proofs.tree.find_by.Goals as goal

pub returns : goal.returns
returns g c =
    let routes = c.args.routes.now in
    let route = c.in-Some-get.route.now in
    let shown = row_of {A = g.row.A.Denot} in
    let lookup = c.in-Some-get.ensures.lookup in
    let at = slice_get-map shown routes c.in-Some.place ∙ ap (option_map shown) (slice_get_read routes (length routes) c.in-Some.place route refl lookup.3.0 lookup.1) in
    let fit : fits (shown route).pattern (segments c.args.path.now) ≡ true = search rules in
    sym (found_at (map shown routes) c.in-Some.place (shown route) (segments c.args.path.now) c.requires at fit)
