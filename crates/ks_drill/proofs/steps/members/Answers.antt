use Rattle.std.proofs.Common.{length, ap, sym, ◌∙◌, [], ◌∷◌, arith, length-append}
use Rattle.ks_drill.proofs.StepLemmas.{members_more, members_none}
use Rattle.ks_drill.proofs.steps.members.Goals as goal

pub loop-i-init : goal.loop-i-init
loop-i-init g c = record {
  made = members_none c.args.caller.now c.args.start c.args.session ∙ ap (λ logins. (c.args.session, logins)) (sym c.new-logins.ensures);
  calls = omega arith;
  many = ap length c.new-logins.ensures;
}

pub loop-i-preserved : goal.loop-i-preserved
loop-i-preserved g c =
    let long = ap length c.in_ok-push.ensures.ok ∙ length-append c.loop-i.logins (c.in_ok-next.login ∷ []) in record {
      made = members_more c.args.caller.now c.args.start c.loop-i.i c.args.session c.loop-i.session c.in_ok-next.next c.loop-i.logins c.push.new.self c.in_ok-next.login
          c.loop-i.invariant.made (sym c.in_ok-next.ensures.made) c.in_ok-push.ensures.ok;
      calls = omega (arith, c.in_ok-next.ensures.calls);
      many = omega arith;
    }
