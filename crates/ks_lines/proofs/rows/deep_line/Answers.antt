use Rattle.ks_lines.proofs.rows.deep_line.Goals as goal

pub returns : goal.returns
returns c =
    rw (
      c.as_str-2.ensures.value,
      c.in_ok-said.ensures,
      c.as_str.ensures.value,
      c.in_ok-id.ensures,
      c.format.ensures.text,
      c.spot_at.ensures,
      c.first_place-place.ensures.place,
    ) at c.located.ensures
