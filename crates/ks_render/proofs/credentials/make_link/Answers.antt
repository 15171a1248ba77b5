use Rattle.std.proofs.Common.{◌≡◌, ℕ, List, ◌++◌, codes, append_assoc}
use Rattle.ks_render.proofs.credentials.make_link.Goals as goal

grouped : (a b c d e : List ℕ) → (((a ++ b) ++ c) ++ d) ++ e ≡ a ++ ((b ++ (c ++ d)) ++ e)
grouped a b c d e = simp append_assoc

pub returns : goal.returns
returns c =
    rw (
      c.in_ok-push-3.ensures,
      c.in_ok-push_id.ensures,
      c.in_ok-push-2.ensures,
      c.in_ok-push.ensures,
      c.clear.ensures.bytes,
      c.as_str.ensures,
      grouped c.args.url.now (codes "/v3/users/") c.args.cred.now.user (codes "/application_credentials/") c.args.cred.now.id,
    )
    at c.push_id-2.ensures
