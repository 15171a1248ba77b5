use Rattle.ks_lines.proofs.rows.name_unplaced.Goals as goal

pub returns : goal.returns
returns c = rw (c.list_name.ensures, c.as_str.ensures.value, c.in_ok-id.ensures) at c.joined.ensures
