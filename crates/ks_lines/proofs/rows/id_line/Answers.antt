use Rattle.ks_lines.proofs.rows.id_line.Goals as goal

pub returns-in_default : goal.returns-in_default
returns-in_default c = rw c.in_default.is (rw (c.list_name.ensures, c.as_str.ensures.value, c.in_ok-id.ensures) at c.joined.ensures)

pub returns : goal.returns
returns c =
    rw c.in-Some.is (rw (
      c.as_str-4.ensures.value,
      c.in_ok-said.ensures,
      c.as_str-2.ensures.value,
      c.in_ok-id.ensures,
      c.as_str-3.ensures.value,
      c.in_ok-first.ensures,
      c.spot_at.ensures,
    ) at c.located.ensures)
