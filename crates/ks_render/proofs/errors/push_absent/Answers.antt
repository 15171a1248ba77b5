use Rattle.std.proofs.Common.{◌≡◌, ℕ, List, ◌++◌, codes, string_bytes, append_assoc}
use Rattle.ks_machine.specs.Actions.{kind_word}
use Rattle.ks_render.proofs.errors.push_absent.Goals as goal

grouped : (old a b c d e : List ℕ) → ((old ++ (a ++ (b ++ c))) ++ d) ++ e ≡ old ++ (a ++ (b ++ (c ++ (d ++ e))))
grouped old a b c d e = simp append_assoc

pub returns : goal.returns
returns c =
    rw (
      c.in_ok-push_id.ensures,
      c.in_ok-push_between.ensures,
      c.kind_name.ensures,
      grouped (string_bytes c.args.text.now) (codes "Could not find ") (kind_word c.args.kind) (codes ": ") c.args.id.now (codes "."),
    )
    at c.push.ensures
