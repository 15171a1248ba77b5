use Rattle.std.proofs.Common.{arith}
use Rattle.ks_words.proofs.NumberLemmas.{read_between, read_over, read_under, unread}
use Rattle.ks_words.proofs.commands.number_between.Goals as goal
use Rattle.ks_words.proofs.commands.number_between.Goals.{else-least-number-via-then-least-number+else-number-most, else-least-number-via-else-least-number}

pub returns-in_default : goal.returns-in_default
returns-in_default c = unread c.args.least c.args.most c.args.word.now (omega arith) c.in_default.ensures.value.0

pub returns-then-number-most : goal.returns-then-number-most
returns-then-number-most c =
    read_between c.args.least c.args.most c.in-Ok.number c.args.word.now c.in-Ok.ensures.value.0.0.0 c.in-Ok.ensures.value.0.1 c.if-least-number.true c.if-number-most.true

pub returns-else-least-number : goal.returns-else-least-number
returns-else-least-number c = elim c.else-least-number.branch [
  | else-least-number-via-then-least-number+else-number-most w ↦
      read_over c.args.least c.args.most c.in-Ok.number c.args.word.now c.in-Ok.ensures.value.0.1 w.if-number-most.false
  | else-least-number-via-else-least-number w ↦
      read_under c.args.least c.args.most c.in-Ok.number c.args.word.now c.in-Ok.ensures.value.0.1 w.if-least-number.false
]
