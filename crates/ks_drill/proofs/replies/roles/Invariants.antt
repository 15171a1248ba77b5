use Rattle.std.proofs.Common.{◌≡◌, take}
use Rattle.std.specs.Prelude.{sum_by}
use Rattle.ks_drill.specs.Drill.{roles_in}
use Rattle.ks_drill.proofs.replies.roles.Given as goal

abbrev pub invariant-loop-reply : goal.invariant-loop-reply
invariant-loop-reply l = l.count ≡ sum_by roles_in (take l.reply-index l.replies)
