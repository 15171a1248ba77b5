use Rattle.std.proofs.Common.{Err}
use Rattle.std.proofs.lemmas.Cmp.{nat_list_cmp_total}
use Rattle.ks_base.specs.Tables.{id_cmp}
use Rattle.ks_base.proofs.PlaceLemmas.{found_is_had, found_place, gap_is_not_had, searched_place}
use Rattle.ks_base.proofs.ids.has_id.Goals as goal

pub returns-in-Ok : goal.returns-in-Ok
returns-in-Ok c =
    found_is_had c.args.id.now c.args.ids.now c.in-Ok.field-0
    (found_place id_cmp (λ other. other) nat_list_cmp_total c.args.id.now c.args.ids.now c.in-Ok.field-0 c.requires c.in-Ok.ensures.bound c.in-Ok.ensures.ok)

pub returns-in-Err : goal.returns-in-Err
returns-in-Err c =
    gap_is_not_had c.args.id.now c.args.ids.now c.in-Err.field-0
    (searched_place id_cmp (λ other. other) nat_list_cmp_total c.args.id.now c.args.ids.now (Err c.in-Err.field-0) c.requires c.in-Err.ensures.bound c.in-Err.ensures.position)
