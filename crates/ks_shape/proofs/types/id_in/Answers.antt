use Rattle.ks_shape.proofs.IdLemmas.{read_no_id}
use Rattle.ks_shape.proofs.types.id_in.Goals as goal

pub returns-in-Err : goal.returns-in-Err
returns-in-Err c =
    let e = c.read.ensures in
    rw (← c.as_bytes.ensures.value) (read_no_id c.read.result c.in-Err.field-0 c.as_bytes.result.now c.in-Err.is e.empty e.too_long e.byte)
