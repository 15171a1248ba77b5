use Rattle.ks_lines.proofs.absent.domain_spot.Goals as goal

pub returns : goal.returns
returns c =
    rw (
      c.or-2.ensures,
      c.or.ensures,
      c.spot_at.ensures,
      c.spot_at-2.ensures,
      c.spot_at-3.ensures,
      c.spot_at-4.ensures,
      c.project_in-project.ensures,
      c.user_in-user.ensures,
      c.group_in-group.ensures,
      c.grant_domain-grant.ensures,
      c.as_slice.ensures,
      c.as_slice-2.ensures,
      c.as_slice-3.ensures,
      c.as_slice-4.ensures,
    ) at c.or-3.ensures
