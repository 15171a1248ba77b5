use Rattle.ks_http.proofs.WriteLemmas.{and_then, stops}
use Rattle.ks_http.proofs.outgoing.Outgoing.put_head.Goals as goal

pub returns-in_err-put_status-clause-told : goal.returns-in_err-put_status-clause-told
returns-in_err-put_status-clause-told g c = stops _ c.from_residual.ensures.0 c.in_err-put_status.ensures.told

pub returns-in_err-put_length-clause-told : goal.returns-in_err-put_length-clause-told
returns-in_err-put_length-clause-told g c =
    let length = rw c.as_slice.ensures at c.in_err-put_length.ensures.told in
    and_then c.in_ok-put_status.ensures.told (stops _ c.from_residual-in_err-put_length.ensures.0 length)

pub returns-in_err-put_fields-clause-told : goal.returns-in_err-put_fields-clause-told
returns-in_err-put_fields-clause-told g c =
    let length = rw c.as_slice.ensures at c.in_ok-put_length.ensures.told in
    let fields = rw c.as_slice-2.ensures at c.in_err-put_fields.ensures.told in
    and_then c.in_ok-put_status.ensures.told (and_then length (stops _ c.from_residual-in_err-put_fields.ensures.0 fields))

pub returns-clause-told : goal.returns-clause-told
returns-clause-told g c =
    let length = rw c.as_slice.ensures at c.in_ok-put_length.ensures.told in
    let fields = rw c.as_slice-2.ensures at c.in_ok-put_fields.ensures.told in
    and_then c.in_ok-put_status.ensures.told (and_then length (and_then fields c.put.ensures.told))
