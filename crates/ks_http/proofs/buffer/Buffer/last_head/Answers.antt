use Rattle.std.proofs.Common.{[], inl, subst}
use Rattle.std.proofs.lemmas.List.{append-nil}
use Rattle.ks_http.specs.Next.{IsRefused}
use Rattle.ks_http.proofs.buffer.Buffer.last_head.Goals as goal

pub returns-in-Refused-clause-told : goal.returns-in-Refused-clause-told
returns-in-Refused-clause-told c = inl (subst (λ b. IsRefused b c.in-Refused.cause) (append-nil c.args.self.now) (c.in-Refused.ensures.looks []))
