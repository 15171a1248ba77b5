use Rattle.ks_base.proofs.IdLemmas.{is_id_read}
use Rattle.ks_spelling.proofs.CodeLemmas.{id_refused}
use Rattle.ks_spelling.proofs.values.IdSpelled.read_from.Goals as goal

pub returns-in-Err : goal.returns-in-Err
returns-in-Err c =
    let said = c.read.ensures in
    let test = is_id_read c.read.result c.in-Some-bytes.bytes.now said.ok said.empty.0 said.too_long.0 said.byte in
    λ same. id_refused c.args.from.now c.in-Some.len c.from.result c.byte.new.self c.in-Some-bytes.bytes.now c.bytes.new.self c.read.result c.in-Err.field-0
    c.in-Some.ensures c.from.ensures c.in-Some-bytes.ensures test c.in-Err.is
