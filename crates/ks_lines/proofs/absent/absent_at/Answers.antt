use Rattle.ks_lines.proofs.absent.absent_at.Goals as goal

pub returns : goal.returns
returns c = rw (c.as_str-2.ensures.value, c.in_ok-said.ensures, c.row_name.ensures, c.as_str.ensures.value, c.in_ok-id.ensures) at c.located.ensures
