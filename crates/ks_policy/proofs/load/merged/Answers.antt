use Rattle.std.proofs.lemmas.Cmp.{nat_list_cmp_total}
use Rattle.ks_base.specs.Tables.{id_cmp}
use Rattle.ks_base.proofs.TableLemmas.{ascending_put}
use Rattle.ks_policy.proofs.TextLemmas.{merged_more}
use Rattle.ks_policy.proofs.load.merged.Goals as goal

pub loop-name-preserved : goal.loop-name-preserved
loop-name-preserved c = (
  merged_more c.loop-name.texts.items c.put.new.rows.items c.loop-name.name-iterator c.next.new.self c.in-Some.name.now c.in-Some.value.now
      c.in_ok-of.field-0 c.as_str-in-loop-name.result.now c.in-Some-as_str.text.now _ c.loop-name.invariant.0 c.in-Some.ensures.steps
      c.in-Some-as_str.ensures c.in_ok-of.ensures c.as_str-in-loop-name.ensures.value c.in_ok-put.ensures,
  rw c.in_ok-put.ensures
      (ascending_put id_cmp (λ row. row.name) nat_list_cmp_total c.in_ok-of.field-0 c.loop-name.texts.items c.loop-name.invariant.1),
)
