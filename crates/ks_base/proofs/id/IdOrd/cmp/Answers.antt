use Rattle.std.proofs.Common.{◌<◌, sym, arith}
use Rattle.ks_base.specs.IdFields.{head_number}
use Rattle.ks_base.proofs.HeadLemmas.{id_less, id_more}
use Rattle.ks_base.proofs.id.IdOrd.cmp.Goals as goal

pub returns-then-head-other_head : goal.returns-then-head-other_head
returns-then-head-other_head c =
    let a = c.head-head.ensures.number in
    let b = c.head-other_head.ensures.number in
    let lt : head_number 8 c.args.self.now < head_number 8 c.args.other.now = omega (arith, a, b, c.if-head-other_head.true) in
    sym (id_less 8 c.args.self.now c.args.other.now c.head-other_head.ensures.id.2 lt)

pub returns-then-other_head-head : goal.returns-then-other_head-head
returns-then-other_head-head c =
    let a = c.head-head.ensures.number in
    let b = c.head-other_head.ensures.number in
    let lt : head_number 8 c.args.other.now < head_number 8 c.args.self.now = omega (arith, a, b, c.if-other_head-head.true) in
    sym (id_more 8 c.args.self.now c.args.other.now c.head-head.ensures.id.2 lt)
