use Rattle.std.proofs.Common.{subst}
use Rattle.ks_http.specs.steps.Buffers.{Finds, FindsWithin}
use Rattle.ks_http.proofs.BufferLemmas.{looks}
use Rattle.ks_http.proofs.buffer.Buffer.look.Goals as goal

pub returns-clause-looks : goal.returns-clause-looks
returns-clause-looks c = looks c.args.self.now _ _ (subst (λ b. Finds b c.look_for_head.new.headers c.look_for_head.result) c.window.ensures.window c.look_for_head.ensures.finds)

pub returns-clause-within : goal.returns-clause-within
returns-clause-within c = subst (λ b. FindsWithin b c.look_for_head.new.headers c.look_for_head.result) c.window.ensures.window c.look_for_head.ensures.within
