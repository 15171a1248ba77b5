use Rattle.ks_lines.proofs.rows.full_line.Goals as goal

pub returns : goal.returns
returns c = rw (c.list_name-list.ensures, c.format.ensures.text, c.limit.ensures) at c.joined.ensures
