use Rattle.ks_lines.proofs.rows.name_at.Goals as goal

pub returns : goal.returns
returns g c =
    rw (
      c.as_str-5.ensures.value,
      c.in_ok-said.ensures,
      c.as_str-2.ensures.value,
      c.in_ok-name.ensures,
      c.as_str.ensures,
      c.name.ensures,
      c.as_str-3.ensures.value,
      c.in_ok-first.ensures,
      c.as_str-4.ensures.value,
      c.in_ok-domain.ensures,
      c.domain.ensures,
      c.spot_at.ensures,
    )
    at c.located.ensures
