use Rattle.std.proofs.Common.{◌≡◌, ℕ, List, ◌++◌, codes, string_bytes, append_assoc}
use Rattle.ks_render.proofs.errors.push_taken.Goals as goal

grouped : (old a b c : List ℕ) → ((old ++ a) ++ b) ++ c ≡ old ++ (a ++ (b ++ c))
grouped old a b c = simp append_assoc

pub returns : goal.returns
returns c =
    rw (
      c.in_ok-push_id.ensures,
      c.in_ok-push.ensures,
      grouped (string_bytes c.args.text.now) (codes "The name is taken by ") c.args.id.now (codes "."),
    )
    at c.push-2.ensures
